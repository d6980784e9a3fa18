-- `grid_cells::add_at` meets its contract. Assumes nothing.
use Rattle.std.proofs.Common.{set, ap, ◌∙◌}
use Rattle.std.proofs.lemmas.List.{get_or_default}
use Rattle.grid_cells.specs.Cells.{sum_at}
use Rattle.grid_cells.proofs.add_at.Goals as goal

pub returns : goal.returns
unfolding sum_at
returns g c =
    let a = c.args in
    ap (set a.cells.now a.k) (c.plus.ensures ∙ ap (λ z. g.C.Cell.sum z a.v) (c.index-cells-k.is ∙ get_or_default a.cells.now a.k _ _ c.requires.0))
