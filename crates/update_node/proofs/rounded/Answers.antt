-- `update_node::rounded`, of a momentum below 0. Assumes nothing.
use Rattle.std.proofs.Common.{◌≡◌, ℕ, ◌<◌, true, ℤ, pos, negsuc, neg_ℤ, nat_abs, sym, ap, ◌∙◌, arith}
use mathlib.Core.Bool.{true≢false}
use mir.Facts.{to_z-of_z}
use lib.Signed.{lt_z}
use borrow.Author.Tests.{le-ltb}
use Rattle.arith.specs.Rounding.{rounded}
use Rattle.arith.proofs.Rounding.{rounded-odd}
use Rattle.update_node.proofs.Sizes.{positive, negated, negated_size}
use Rattle.update_node.proofs.rounded.Goals as goal

by_size : (z : ℤ) (d : ℕ) → 0 < d → lt_z z (pos 0) ≡ true → neg_ℤ (rounded (pos (nat_abs z)) d) ≡ rounded z d
by_size (pos a) d p e = absurd (true≢false (sym e ∙ le-ltb a 0 (omega arith)))
by_size (negsuc a) d p e = sym (rounded-odd (pos (nat_abs (negsuc a))) d p)

pub returns-then-momentum-lt0 : goal.returns-then-momentum-lt0
returns-then-momentum-lt0 c =
    let r = c.rounded_size-size.result in
    let h = c.rounded_size-size.ensures in
    let f = to_z-of_z c.ranges.momentum in
    let e : neg_ℤ (pos r) ≡ rounded c.args.momentum c.args.divisor =
    ap neg_ℤ (h.0 ∙ ap (λ n. rounded (pos n) c.args.divisor) (c.unsigned_abs.ensures.value ∙ ap nat_abs f))
    ∙ by_size c.args.momentum c.args.divisor (positive c.requires) (rw f at c.if-momentum-lt0.true) in
    (negated r h.1 ∙ e, rw (negated r h.1) (negated_size r h.1))
