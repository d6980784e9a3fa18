-- The divisor of a momentum is above 0, and a size of at most 2^62, negated, is as the machine holds it. Assumes nothing.
use mathlib.Core.Path.{◌≡◌, ap, ◌∙◌}
use Prim.Native.Nat.{ℕ, ◌^◌, ◌≤◌, ◌<◌}
use native.Mathlib.Omega.{arith}
use lib.IntN.{pos, neg_ℤ, nat_abs, ◌-ℤ◌, +ℤ_idl}
use mir.Syntax.{w64}
use mir.Val.{SFits, to_z, of_z}
use mir.Facts.{to_z_pos}
use Rattle.arith.specs.Size.{nat_abs-neg, sizes, fits}
use Rattle.arith.specs.Machine.{same_read}
use Rattle.update_node.specs.Internal.{Divisor}

pub positive : {d : ℕ} → Divisor d → 0 < d
positive h = omega (arith, h.least)

module _ (r : ℕ) (small : r ≤ 2 ^ 62) where
  negated-is : pos 0 -ℤ to_z w64 r ≡ neg_ℤ (pos r)
  negated-is = +ℤ_idl (neg_ℤ (to_z w64 r)) ∙ ap neg_ℤ (to_z_pos w64 (omega arith))

  negative_fits : SFits w64 (neg_ℤ (pos r))
  negative_fits = fits (search sizes depth 20) tt

  pub negated : to_z w64 (of_z w64 (pos 0 -ℤ to_z w64 r)) ≡ neg_ℤ (pos r)
  negated = same_read negated-is negative_fits

  pub negated_size : nat_abs (neg_ℤ (pos r)) ≤ 2 ^ 62
  negated_size = rw (nat_abs-neg (pos r)) small
