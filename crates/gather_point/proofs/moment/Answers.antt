-- `gather_point::moment` meets its contract: every number on the way fits. Assumes nothing.
use Rattle.std.proofs.Common.{ℤ, pos, ◌-ℤ◌, ◌*ℤ◌, rules, w64}
use mir.Val.{SFits}
use Rattle.arith.specs.Size.{Bound, fits, bounded, sizes}
use Rattle.gather_point.proofs.moment.Goals as goal

record Fit (sum tilt q : ℤ) : Type 0 where
  rise : SFits w64 (pos 64 *ℤ tilt)
  share : SFits w64 (q *ℤ sum)
  result : SFits w64 (pos 64 *ℤ tilt -ℤ q *ℤ sum)
  size : Bound (pos 64 *ℤ tilt -ℤ q *ℤ sum) 1152921504606846976

fit : {sum tilt q : ℤ} → Bound sum 9007199254740992 × Bound tilt 9007199254740992 × Bound q 32 → Fit sum tilt q
fit (h, k, l) =
    record {
      rise = fits (search sizes depth 20) tt;
      share = fits (search sizes depth 20) tt;
      result = fits (search sizes depth 20) tt;
      size = bounded (search sizes depth 20) tt;
    }

pub returns : goal.returns
returns c = let f = fit c.requires in search rules
