-- The loop of `walk`: what is left of the walk, added to what is done, is the whole. Assumes nothing.
use Rattle.totals_set.proofs.Turns.{Walking}
use Rattle.totals_set.proofs.walk.Given as goal

abbrev pub invariant-loop-k : goal.invariant-loop-k
invariant-loop-k l = Walking l.nx l.ny l.start l.bytes l.count l.progress l.k
