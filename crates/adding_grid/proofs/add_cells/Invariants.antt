-- The first k cells are sums, the others as they were.
use Rattle.std.proofs.Common.{◌≡◌}
use Rattle.arith.specs.Fill.{filled}
use Rattle.adding_grid.proofs.Sums.{cell_sum}
use Rattle.adding_grid.proofs.add_cells.Given as goal

abbrev pub invariant-loop-k : goal.invariant-loop-k
invariant-loop-k g l = l.cells ≡ filled (cell_sum g.C.Cell.zero g.C.Cell.sum l.initial.cells l.gains) l.k l.initial.cells
