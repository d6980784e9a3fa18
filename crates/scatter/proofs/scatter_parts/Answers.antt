-- `scatter::scatter_parts` meets its contract. Assumes nothing.
use Rattle.std.proofs.Common.{ap, ◌∙◌, arith}
use Rattle.std.specs.Slice.Iter.{chunks_rest, chunks_size}
use Rattle.scatter.proofs.Looped.{begin, some-ready, array-room, turn, finish}
use Rattle.scatter.proofs.scatter_parts.Goals as goal

pub loop-part-init : goal.loop-part-init
loop-part-init c =
    let items = c.chunks-part-items.ensures in
    let size = ap chunks_size c.into_iter-part-iterator.ensures.into_iter_gives ∙ items.size in
    (omega (arith, size), tt, size, begin c.requires (ap chunks_rest c.into_iter-part-iterator.ensures.into_iter_gives ∙ items.rest))

pub scatter_part-requires : goal.scatter_part-requires
scatter_part-requires c =
    let steps = c.in-Some.ensures.steps in
    let looped = c.loop-part.invariant.3 in
    let size = rw c.loop-part.invariant.2 at steps.1.1 in
    (some-ready c.requires looped _ _ steps.1.0 size, array-room c.requires looped _ _ steps.1.0 size)

pub loop-part-preserved : goal.loop-part-preserved
loop-part-preserved c =
    let steps = c.in-Some.ensures.steps in
    let size = steps.0 ∙ c.loop-part.invariant.2 in (
      omega (arith, size),
      tt,
      size,
      turn c.requires c.loop-part.invariant.3 _ _ steps.1.0 (rw c.loop-part.invariant.2 at steps.1.1) _ _ c.scatter_part.auto.array c.scatter_part.ensures,
    )

pub returns : goal.returns
returns c = finish c.requires c.loop-part.invariant.3 c.in-None.ensures.steps.1.0
