-- `unpacking::unpack_set` meets its contract: the numbers of the first k particles are in their places. Assumes nothing.
use Rattle.std.proofs.Common.{arith, sym, subst, ◌∙◌, ◌<◌, length}
use Rattle.particles.specs.Set.{record_at, particles_in}
use Rattle.unpacked.proofs.Laws.{nobody}
use Rattle.unpacking.specs.Internal.{Narrow}
use Rattle.unpacking.proofs.Filling.{number-parts, filled-start, filled-room, filled_next}
use Rattle.unpacking.proofs.Sets.{count-in, in-at, narrow}
use Rattle.unpacking.proofs.unpack_set.Goals as goal

pub loop-k-init : goal.loop-k-init
loop-k-init c = filled-start number-parts (omega (arith, count-in c.args.records.now))

pub put_particle-requires : goal.put_particle-requires
put_particle-requires c =
    let another : c.loop-k.k < length (particles_in c.args.records.now) = omega (arith, count-in c.args.records.now) in (
      subst Narrow (sym c.particle_in.ensures) (narrow (record_at 0 c.args.records.now c.loop-k.k)),
      filled-room number-parts c.loop-k.invariant another,
    )

pub loop-k-preserved : goal.loop-k-preserved
loop-k-preserved c =
    let another : c.loop-k.k < length (particles_in c.args.records.now) = omega (arith, count-in c.args.records.now) in
    filled_next number-parts c.loop-k.invariant nobody another
    (in-at c.args.records.now c.loop-k.k nobody c.loop-k-test.true ∙ sym c.particle_in.ensures)
    c.put_particle.ensures
