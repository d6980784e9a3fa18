-- The loop of `unpack_set`: the numbers of the first k particles are in their places. Assumes nothing.
use Rattle.particles.specs.Set.{particles_in}
use Rattle.unpacked.specs.Unpacked.{per_particle, unpacked}
use Rattle.unpacking.proofs.Filling.{Filled}
use Rattle.unpacking.proofs.unpack_set.Given as goal

abbrev pub invariant-loop-k : goal.invariant-loop-k
invariant-loop-k l = Filled per_particle unpacked (particles_in l.records) l.array l.k
