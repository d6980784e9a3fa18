-- The values that `weights` computes at an offset within the range: each is its formula's, and the nearest one fits its cast.
-- Assumes nothing.
use mathlib.Core.Path.{◌≡◌, sym, ap, ap₂, subst, ◌∙◌}
use mathlib.Core.Bool.{false}
use mathlib.Core.List.{[], ◌∷◌}
use native.Mathlib.Nat.{lt_of_le_of_lt}
use lib.Dec.{T, lit<}
use lib.IntN.{ℤ, pos, negsuc, nat_abs, ◌+ℤ◌, ◌-ℤ◌, ◌*ℤ◌}
use lib.Signed.{lt_z, non_neg}
use mir.Syntax.{w16, w64}
use mir.Val.{Fits, SFits, to_z, of_z}
use mir.Facts.{to_z-of_z}
use Rattle.arith.specs.Solver.{ring, quote}
use Rattle.arith.specs.Size.{Bound, sizes, size-given, fits, bounded}
use Rattle.arith.specs.Machine.{same-fits, read_as}
use Rattle.refusal.specs.Refused.{gives}
use Rattle.spline.specs.Spline.{lower_weight, nearest_weight, upper_weight}
use Rattle.spline.specs.Answers.{three_of, weights_answer}
use Rattle.spline.proofs.Offsets.{Inside, inside_of}

-- a number as the machine holds it
abbrev held : ℤ → ℤ
held z = to_z w64 (of_z w64 z)

-- a side of the square, and the square, where x is computed and means z
module _ (x z : ℤ) (is : x ≡ z) (small : Bound z 64) where
  side-fits : SFits w64 x
  side-fits = same-fits is (fits (size-given small) tt)

  side-is : held x ≡ z
  side-is = read_as w64 is small tt

  square-fits : SFits w64 (held x *ℤ held x)
  square-fits = rw side-is (fits (search (sizes, small) depth 20) tt)

  square-is : held (held x *ℤ held x) ≡ z *ℤ z
  square-is = to_z-of_z square-fits ∙ ap (λ y. y *ℤ y) side-is

-- a weight z, computed as y, cast
cast : {y z : ℤ} → y ≡ z → pos (nat_abs z) ≡ z → Bound z 8192 → T (non_neg y) × Fits w16 (nat_abs y)
cast {y} {z} e f b =
    subst (λ x. T (non_neg x) × Fits w16 (nat_abs x)) (sym e) (subst (λ x. T (non_neg x)) f tt, record { fits = lt_of_le_of_lt b.size (lit< tt) })

module _ (q : ℤ) (q-fits : SFits w64 q) (low : lt_z (held q) (negsuc 31) ≡ false) (high : lt_z (pos 31) (held q) ≡ false) where
  inside : Inside q
  inside = inside_of q (subst (λ z. lt_z z (negsuc 31) ≡ false) (to_z-of_z q-fits) low) (subst (λ z. lt_z (pos 31) z ≡ false) (to_z-of_z q-fits) high)

  small : Bound q 32
  small = inside.small

  -- 32 − q and 32 + q
  less-is : pos 32 -ℤ held q ≡ pos 32 -ℤ q
  less-is = ap (λ z. pos 32 -ℤ z) (to_z-of_z q-fits)

  less-small : Bound (pos 32 -ℤ q) 64
  less-small = bounded (search (sizes, small) depth 20) tt

  more-is : pos 32 +ℤ held q ≡ pos 32 +ℤ q
  more-is = ap (λ z. pos 32 +ℤ z) (to_z-of_z q-fits)

  more-small : Bound (pos 32 +ℤ q) 64
  more-small = bounded (search (sizes, small) depth 20) tt

  -- 6144 − 2·q·q
  twice-fits : SFits w64 (pos 2 *ℤ held q)
  twice-fits = rw (to_z-of_z q-fits) (fits (search (sizes, small) depth 20) tt)

  twice-is : held (pos 2 *ℤ held q) ≡ pos 2 *ℤ q
  twice-is = to_z-of_z twice-fits ∙ ap (λ z. pos 2 *ℤ z) (to_z-of_z q-fits)

  product-fits : SFits w64 (held (pos 2 *ℤ held q) *ℤ held q)
  product-fits = rw (twice-is, to_z-of_z q-fits) (fits (search (sizes, small) depth 20) tt)

  product_is : held (held (pos 2 *ℤ held q) *ℤ held q) ≡ pos 2 *ℤ (q *ℤ q)
  product_is =
      to_z-of_z product-fits ∙ ap₂ ◌*ℤ◌ twice-is (to_z-of_z q-fits)
      ∙ ring (q ∷ []) (search quote depth 30) (search quote depth 30) tt

  nearest-fits : SFits w64 (pos 6144 -ℤ held (held (pos 2 *ℤ held q) *ℤ held q))
  nearest-fits = rw product_is (fits (search (sizes, small) depth 20) tt)

  -- the weights
  abbrev lower : ℤ
  lower = held (held (pos 32 -ℤ held q) *ℤ held (pos 32 -ℤ held q))

  abbrev nearest : ℤ
  nearest = held (pos 6144 -ℤ held (held (pos 2 *ℤ held q) *ℤ held q))

  abbrev upper : ℤ
  upper = held (held (pos 32 +ℤ held q) *ℤ held (pos 32 +ℤ held q))

  lower-is : lower ≡ lower_weight q
  lower-is = square-is (pos 32 -ℤ held q) (pos 32 -ℤ q) less-is less-small

  nearest-is : nearest ≡ nearest_weight q
  nearest-is = to_z-of_z nearest-fits ∙ ap (λ z. pos 6144 -ℤ z) product_is

  upper_is : upper ≡ upper_weight q
  upper_is = square-is (pos 32 +ℤ held q) (pos 32 +ℤ q) more-is more-small

  pub nearest-cast : T (non_neg nearest) × Fits w16 (nat_abs nearest)
  nearest-cast = cast nearest-is inside.facts.nearest (bounded (search (sizes, small) depth 20) tt)

  pub answer : gives (three_of (record { lower = nat_abs lower; nearest = nat_abs nearest; upper = nat_abs upper })) ≡ weights_answer q
  answer =
      ap gives
      (λ i.
      record {
        lower = (ap (λ z. pos (nat_abs z)) lower-is ∙ inside.facts.lower) i;
        nearest = (ap (λ z. pos (nat_abs z)) nearest-is ∙ inside.facts.nearest) i;
        upper = (ap (λ z. pos (nat_abs z)) upper_is ∙ inside.facts.upper) i;
      })
      ∙ sym inside.accepted
