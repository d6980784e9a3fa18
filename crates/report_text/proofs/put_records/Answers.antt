-- A turn of the loop puts one record's line. Assumes nothing.
use mathlib.Core.Path.{ap}
use mathlib.Core.List.{[], ◌∷◌}
use lib.ListN.{length-append}
use Rattle.std.specs.Slice.Iter.{chunks_exact_rest}
use Rattle.report.specs.Lines.{particle_line}
use Rattle.report.proofs.Lines.{printed-none, line-room, printed-more, printed-all}
use Rattle.text.proofs.Puts.{put_as}
use Rattle.report_text.proofs.put_records.Goals as goal

pub loop-record-init : goal.loop-record-init
loop-record-init c = rw c.into_iter-record-iterator.ensures.into_iter_gives (printed-none c.args.records.now c.requires c.chunks_exact-record-items.ensures.rest c.chunks_exact-record-items.ensures.size)

pub put_particle-requires : goal.put_particle-requires
put_particle-requires c =
    let parts = c.in-Some.ensures.steps.1 in
    rw c.unpack.ensures (line-room c.args.records.now c.requires c.in-Some.record.now (chunks_exact_rest c.next.new.self) c.loop-record.invariant parts.0 parts.1)

pub loop-record-preserved : goal.loop-record-preserved
loop-record-preserved c =
    let parts = c.in-Some.ensures.steps.1 in
    printed-more c.args.records.now c.requires c.in-Some.record.now (chunks_exact_rest c.next.new.self) c.loop-record.invariant parts.0 parts.1
    c.in-Some.ensures.steps.0
    (length-append c.loop-record.yielded (c.in-Some.record ∷ []))
    (put_as (ap particle_line c.unpack.ensures) c.put_particle.ensures)

pub returns : goal.returns
returns c = printed-all c.args.records.now c.requires c.loop-record.invariant c.in-None.ensures.steps.1.0
