-- `update_rim::clear_part`. Assumes nothing.
use Rattle.std.proofs.Common.{◌≡◌, ℕ, ◌+◌, ◌-◌, ◌≤◌, List, length, take, drop, ℤ, pos, ap, ◌∙◌, arith}
use lib.ListN.{replicate, length-replicate}
use Rattle.arith.specs.Lists.{length_part, placed-back}
use Rattle.update_rim.proofs.Cleared.{cleared-part}
use Rattle.update_rim.proofs.clear_part.Goals as goal

-- the part is as long as it was asked for
zeros : (from count : ℕ) (u : List ℤ) → from + count ≤ length u → replicate (length (take (from + count - from) (drop from u))) (pos 0) ≡ replicate count (pos 0)
zeros from count u room = ap (λ n. replicate (length (take n (drop from u))) (pos 0)) as_many ∙ ap (λ n. replicate n (pos 0)) (length_part from count u room)
  where
    as_many : from + count - from ≡ count
    as_many = omega arith

pub returns : goal.returns
returns c =
    let u = c.args.velocities.now in
    placed-back u c.args.from c.args.count (c.fill.ensures.after (λ y e. e) ∙ zeros c.args.from c.args.count u c.requires) (length-replicate c.args.count (pos 0))
    ∙ cleared-part c.args.from c.args.count u c.requires
