-- The first k particles are added.
use Rattle.scatter_core.proofs.Sets.{SoFarIn}
use Rattle.scatter_core.proofs.add_all.Given as goal

abbrev pub invariant-loop-k : goal.invariant-loop-k
invariant-loop-k l = SoFarIn l.table l.d l.nx l.ny l.particles l.initial.mass l.initial.px l.initial.py l.mass l.px l.py l.k
