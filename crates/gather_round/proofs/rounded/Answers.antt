-- What `gather_round::rounded` returns, by `rounded-shift`.
-- Assumes nothing.
use Rattle.std.proofs.Common.{◌≡◌, ap, ◌∙◌, ◌^◌, [], ◌∷◌, ℤ, pos, ◌+ℤ◌, ◌-ℤ◌, arith, to_z-of_z, w64}
use Rattle.std.specs.Int.Signed.{shr_z}
use lib.Dec.{lit<}
use mir.Val.{SFits}
use Rattle.arith.specs.Order.{linear, reading, nothing}
use Rattle.arith.specs.Size.{Bound, fits, sizes}
use Rattle.arith.specs.Machine.{lowest-bit}
use Rattle.arith.specs.Rounding.{parity, rounded}
use Rattle.arith.proofs.Rounding.{parity-bound, rounded-shift}
use Rattle.gather_round.proofs.rounded.Goals as goal

-- 2, or 1 where the floor is odd
abbrev less : ℤ → ℤ
less z = pos 2 -ℤ pos (parity (shr_z z 17179869184))

abbrev raised : ℤ → ℤ
raised z = z +ℤ pos 8589934593 -ℤ less z

shifted : (z : ℤ) → shr_z (raised z) 17179869184 ≡ rounded z (2 ^ 34)
shifted z = ap (λ s. shr_z s 17179869184) (same z (pos (parity (shr_z z 17179869184)))) ∙ rounded-shift z 8589934592 (lit< tt)
  where
    same : (z p : ℤ) → z +ℤ pos 8589934593 -ℤ (pos 2 -ℤ p) ≡ z +ℤ pos 8589934591 +ℤ p
    same z p = linear (z ∷ p ∷ []) nothing (search reading depth 30) (omega arith)

record Fit (z : ℤ) : Type 0 where
  above : SFits w64 (z +ℤ pos 8589934593)
  floor : SFits w64 (shr_z z 17179869184)
  less-fits : SFits w64 (less z)
  sum : SFits w64 (raised z)
  result : SFits w64 (shr_z (raised z) 17179869184)

fit : (z : ℤ) → Bound z 1152921504606846976 → Fit z
fit z h =
    let bit = parity-bound (shr_z z 17179869184) in
    record {
      above = fits (search sizes depth 20) tt;
      floor = fits (search sizes depth 20) tt;
      less-fits = fits (search sizes depth 20) tt;
      sum = fits (search sizes depth 20) tt;
      result = fits (search sizes depth 20) tt;
    }

pub returns : goal.returns
returns c =
    let f = fit c.args.sum c.requires in
    simp (to_z-of_z c.ranges.sum, to_z-of_z f.above, lowest-bit _ f.floor, to_z-of_z f.less-fits, to_z-of_z f.sum, to_z-of_z f.result)
    (shifted c.args.sum)
