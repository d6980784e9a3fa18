-- The first and the last k rows are made.
use Rattle.std.proofs.Common.{◌-◌}
use Rattle.spline.proofs.Rows.{Made}
use Rattle.spline.proofs.weight_table.Given as goal

abbrev pub invariant-loop-k : goal.invariant-loop-k
invariant-loop-k l = Made l.rows l.k l.table
