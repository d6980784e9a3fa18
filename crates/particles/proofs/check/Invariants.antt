-- The loop of `check`: what is left of the check, after what is done, is the whole. Assumes nothing.
use Rattle.std.proofs.Common.{◌-◌}
use Rattle.particles.proofs.Turns.{Checking}
use Rattle.particles.proofs.check.Given as goal

abbrev pub invariant-loop-k : goal.invariant-loop-k
invariant-loop-k l = Checking l.nx l.ny l.start l.bytes l.count l.entry l.k
