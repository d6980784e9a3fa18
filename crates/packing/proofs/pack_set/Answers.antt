-- `packing::pack_set` meets its contract: the records of the first k particles are in their places, and the others as they were.
-- Assumes nothing.
use Rattle.std.proofs.Common.{arith, ◌+◌, ◌*◌, ◌≤◌, length}
use Rattle.particle.specs.Layout.{record_length}
use Rattle.packing.proofs.Sets.{packable-at, packed_start, packed-next}
use Rattle.packing.proofs.pack_set.Goals as goal

pub loop-k-init : goal.loop-k-init
loop-k-init c = packed_start c.requires.1

pub pack_particle-requires : goal.pack_particle-requires
pack_particle-requires c =
    (packable-at c.requires.0 c.loop-k.k c.loop-k-test.true, omega (arith, c.requires.1, c.loop-k.invariant.long))

pub loop-k-preserved : goal.loop-k-preserved
loop-k-preserved c =
    let room : record_length * c.loop-k.k + record_length ≤ length c.loop-k.records = omega (arith, c.requires.1, c.loop-k.invariant.long) in
    packed-next c.loop-k.invariant (packable-at c.requires.0 c.loop-k.k c.loop-k-test.true) room c.loop-k-test.true c.pack_particle.ensures
