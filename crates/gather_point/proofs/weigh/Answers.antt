-- `gather_point::weigh` meets its contract: every number on the way fits. Assumes nothing.
use Rattle.std.proofs.Common.{◌≡◌, sym, ℤ, pos, ◌+ℤ◌, ◌-ℤ◌, ◌*ℤ◌, rules, w64}
use mir.Val.{SFits}
use Rattle.arith.specs.Size.{Bound, bound-pos, bound-equal, fits, sizes}
use Rattle.spline.specs.declared.AxisWeights.{AxisWeights}
use Rattle.gather_point.specs.Point.{SmallWeights}
use Rattle.gather_point.proofs.weigh.Goals as goal

record Fit (lower nearest upper a b c : ℤ) : Type 0 where
  low : SFits w64 (lower *ℤ a)
  middle : SFits w64 (nearest *ℤ b)
  high : SFits w64 (upper *ℤ c)
  part : SFits w64 (lower *ℤ a +ℤ nearest *ℤ b)
  sum : SFits w64 (lower *ℤ a +ℤ nearest *ℤ b +ℤ upper *ℤ c)
  tilt : SFits w64 (upper *ℤ c -ℤ lower *ℤ a)

-- the weights w as they are widened
fit : {w : AxisWeights} {lower nearest upper a b c : ℤ} → SmallWeights w → lower ≡ pos w.lower → nearest ≡ pos w.nearest → upper ≡ pos w.upper → Bound a 34359738368 × Bound b 34359738368 × Bound c 34359738368 → Fit lower nearest upper a b c
fit {lower} {nearest} {upper} small is-lower is-nearest is_upper (h, k, l) =
    let low : Bound lower 65535 = bound-equal (sym is-lower) (bound-pos small.lower-size) in
    let middle : Bound nearest 65535 = bound-equal (sym is-nearest) (bound-pos small.nearest-size) in
    let high : Bound upper 65535 = bound-equal (sym is_upper) (bound-pos small.upper-size) in
    record {
      low = fits (search sizes depth 20) tt;
      middle = fits (search sizes depth 20) tt;
      high = fits (search sizes depth 20) tt;
      part = fits (search sizes depth 20) tt;
      sum = fits (search sizes depth 20) tt;
      tilt = fits (search sizes depth 20) tt;
    }

pub overflow_add-result : goal.overflow_add-result
overflow_add-result c =
    let small : SmallWeights c.args.w = search rules in
    let f = fit small c.from-lower.ensures c.from-nearest.ensures c.from-upper.ensures c.requires in search rules

pub overflow_add-result-2 : goal.overflow_add-result-2
overflow_add-result-2 c =
    let small : SmallWeights c.args.w = search rules in
    let f = fit small c.from-lower.ensures c.from-nearest.ensures c.from-upper.ensures c.requires in search rules

pub overflow_sub-result : goal.overflow_sub-result
overflow_sub-result c =
    let small : SmallWeights c.args.w = search rules in
    let f = fit small c.from-lower.ensures c.from-nearest.ensures c.from-upper.ensures c.requires in search rules

pub returns : goal.returns
returns c =
    let small : SmallWeights c.args.w = search rules in
    let f = fit small c.from-lower.ensures c.from-nearest.ensures c.from-upper.ensures c.requires in search rules
