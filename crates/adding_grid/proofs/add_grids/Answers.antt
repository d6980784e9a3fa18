-- `adding_grid::add_grids` meets its contract. Assumes nothing.
use Rattle.std.proofs.Common.{sym}
use Rattle.std.proofs.lemmas.Result.{err_from_is_err_and}
use Rattle.adding.proofs.Adding.{mass-room, x-room, y-room, grids-stopped, grids-added}
use Rattle.adding_grid.proofs.add_grids.Goals as goal

pub returns-in_err-check_nodes : goal.returns-in_err-check_nodes
returns-in_err-check_nodes c =
    let p = err_from_is_err_and c.from_residual.result c.from_residual.ensures.1 in
    rw (p.1, p.2) (grids-stopped c.requires (sym c.in_err-check_nodes.ensures))

pub add_cells-requires : goal.add_cells-requires
add_cells-requires c = mass-room c.requires (sym c.in_ok-check_nodes.ensures)

pub add_cells-requires-2 : goal.add_cells-requires-2
add_cells-requires-2 c = x-room c.requires (sym c.in_ok-check_nodes.ensures)

pub add_cells-requires-3 : goal.add_cells-requires-3
add_cells-requires-3 c = y-room c.requires (sym c.in_ok-check_nodes.ensures)

pub returns : goal.returns
returns c =
    grids-added c.requires (sym c.in_ok-check_nodes.ensures) c.add_cells.ensures c.add_cells-2.ensures c.add_cells-3.ensures
