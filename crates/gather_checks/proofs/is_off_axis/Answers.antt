-- `gather_checks::is_off_axis` meets its contract. Assumes nothing.
use Rattle.std.proofs.Common.{◌≡◌, Bool, sym, ap, ap₂, ◌∙◌, ℤ, pos, w64, to_z, of_z, to_z-of_z}
use Rattle.std.specs.Int.Signed.{lt_z}
use mir.Val.{SFits}
use Rattle.arith.specs.Machine.{read_result}
use Rattle.gather_checks.proofs.Tests.{off-low, off-high}
use Rattle.gather_checks.proofs.is_off_axis.Goals as goal

-- the first test, on the number that is meant
meant : {z : ℤ} {t : Bool} → SFits w64 z → lt_z (to_z w64 (of_z w64 z)) (pos 32) ≡ t → lt_z z (pos 32) ≡ t
meant f e = ap (λ z. lt_z z (pos 32)) (sym (to_z-of_z f)) ∙ e

pub returns-then-z-lt32 : goal.returns-then-z-lt32
returns-then-z-lt32 c = c.if-z-lt32.true ∙ off-low c.args.n c.args.z (meant c.ranges.z c.if-z-lt32.true)

pub returns-else-z-lt32 : goal.returns-else-z-lt32
returns-else-z-lt32 c =
    ap₂ lt_z (read_result w64 c.last_place.type_inv c.last_place.ensures) (to_z-of_z c.ranges.z)
    ∙ off-high c.args.n c.args.z (meant c.ranges.z c.if-z-lt32.false)
