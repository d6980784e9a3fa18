-- `grid_cells::add_row` meets its contract: three additions, one after the other. Assumes nothing.
use Rattle.grid_cells.proofs.Rows.{first, second, third, whole}
use Rattle.grid_cells.proofs.add_row.Goals as goal

pub add_at-requires : goal.add_at-requires
add_at-requires g c = first g.met.C.Cell.laws c.requires

pub add_at-requires-2 : goal.add_at-requires-2
add_at-requires-2 g c = second g.met.C.Cell.laws c.requires c.add_at.ensures

pub add_at-requires-3 : goal.add_at-requires-3
add_at-requires-3 g c = third g.met.C.Cell.laws c.requires c.add_at.ensures c.add_at-2.ensures

pub returns : goal.returns
returns g c = let a = c.args in whole _ _ a.cells.now _ _ _ a.k a.u a.v a.w c.add_at.ensures c.add_at-2.ensures c.add_at-3.ensures
