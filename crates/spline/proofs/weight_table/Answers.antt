-- `spline::weight_table` meets its contract. Assumes nothing.
use Rattle.std.proofs.Common.{◌≤◌, arith}
use Rattle.spline.proofs.Table.{passed-table}
use Rattle.spline.proofs.weight_table.Goals as goal

pub returns : goal.returns
returns c =
    let all : 32 ≤ c.loop-k.k = omega arith in
    passed-table c.tested_rows-rows.result c.tested_rows-rows.ensures c.loop-k.table c.loop-k.invariant.long
    (λ k h. c.loop-k.invariant.outside k h (λ from to. omega arith))
