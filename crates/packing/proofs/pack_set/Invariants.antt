-- The loop of `pack_set`: the records of the first k particles are in their places, and the others as they were. Assumes nothing.
use Rattle.packing.proofs.Sets.{Packed}
use Rattle.packing.proofs.pack_set.Given as goal

abbrev pub invariant-loop-k : goal.invariant-loop-k
invariant-loop-k l = Packed l.array l.initial.records l.records l.k
