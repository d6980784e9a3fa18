-- The loop's invariant of `gather_core::gather_from` is the walk's.
use Rattle.spline.specs.Kernel.{weight_in}
use Rattle.gathering.proofs.Walk.{Walks}
use Rattle.gather_core.proofs.gather_from.Given as goal

abbrev pub invariant-loop-k : goal.invariant-loop-k
invariant-loop-k l = Walks (weight_in l.table) l.first l.nx l.ny l.from l.ux l.uy l.fn.to l.k l.to
