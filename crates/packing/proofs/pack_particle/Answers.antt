-- `packing::pack_particle` meets its contract: the part that is lent holds the particle's record. Assumes nothing.
use Rattle.std.proofs.Common.{arith, refl, sym, ap, ◌∙◌, subst, ◌+◌, ◌*◌}
use borrow.Rule.Slice.PartMut.{mid_len}
use Rattle.arith.specs.Lists.{placed-back}
use Rattle.particle.specs.Layout.{record_length}
use Rattle.particle.specs.Record.{label, record_of, Valid}
use Rattle.particle.proofs.RoundTrip.{record-length}
use Rattle.particle.proofs.Valid.{valid-write}
use Rattle.packing.proofs.Sets.{relabelled, relabelled-at, relabelled-valid}
use Rattle.packing.proofs.pack_particle.Goals as goal

pub pack-requires : goal.pack-requires
pack-requires c =
    let old = label c.particle_in-old.result in
    let readable = c.requires.0.readable in
    let p = relabelled old readable.particle in
    let read = c.particle_at-p.ensures p (relabelled-at old readable.numbers) refl in (
      valid-write c.particle_at-p.result (subst Valid (sym read) (relabelled-valid old c.requires.0.valid)),
      mid_len (record_length * c.args.k) (record_length * c.args.k + record_length) c.args.records.now c.requires.1 ∙ omega arith,
    )

pub returns : goal.returns
returns c p n e =
    let same = e ∙ ap label (sym c.particle_in-old.ensures) in
    placed-back c.args.records.now (record_length * c.args.k) record_length (c.pack.ensures ∙ ap record_of (c.particle_at-p.ensures p n same)) (record-length p)
