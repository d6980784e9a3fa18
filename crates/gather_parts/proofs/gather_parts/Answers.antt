-- `gather_parts::gather_parts` meets its contract, by the loop's laws. Assumes nothing.
use Rattle.std.proofs.Common.{subst, ◌∙◌, ◌≤◌, ◌<◌}
use Rattle.std.proofs.lemmas.Result.{err_from_is_err_and}
use Rattle.gather_parts.proofs.Loop.{put-back, begin, finish, some-ready, few, some-room, stop, turn}
use Rattle.gather_parts.proofs.gather_parts.Goals as goal

pub loop-part-init : goal.loop-part-init
loop-part-init c = record { walk = begin c.requires.ready c.requires.room.target-numbers; room = c.requires.room.source-numbers }

pub gather_part-requires : goal.gather_part-requires
gather_part-requires c =
    let w = c.loop-part.invariant.walk in
    let below = subst (λ n. c.loop-part.part < n) c.div_ceil-part-end.ensures c.loop-part-test.true in
    (some-ready c.requires.ready w below c.min-end.ensures, some-room c.requires.ready w below c.min-end.ensures _ c.loop-part.invariant.room)

pub returns-in_err-gather_part : goal.returns-in_err-gather_part
returns-in_err-gather_part c =
    let below = subst (λ n. c.loop-part.part < n) c.div_ceil-part-end.ensures c.loop-part-test.true in
    let p = err_from_is_err_and c.from_residual.result c.from_residual.ensures.1 in
    stop c.requires.ready c.loop-part.invariant.walk below c.min-end.ensures c.gather_part.auto.to p.1 p.2 c.in_err-gather_part.ensures

pub loop-part-preserved : goal.loop-part-preserved
loop-part-preserved c =
    let below = subst (λ n. c.loop-part.part < n) c.div_ceil-part-end.ensures c.loop-part-test.true in
    let w = c.loop-part.invariant.walk in
    let room = c.loop-part.invariant.room in
    record {
      walk = turn c.requires.ready w below c.min-end.ensures c.gather_part.auto.to c.in_ok-gather_part.ensures;
      room = put-back _ c.gather_part.new.from c.loop-part.from c.gather_part.auto.from (few c.requires.ready w below c.min-end.ensures _ room) ∙ room;
    }

pub returns : goal.returns
returns c =
    finish c.requires.ready c.loop-part.invariant.walk (subst (λ n. n ≤ c.loop-part.part) c.div_ceil-part-end.ensures c.loop-part-test.false)
