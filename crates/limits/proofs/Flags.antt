-- The flag that `a || b` or `a && b` leaves, by the way that control took: the first test decided it, or the second did; and
-- what a flag that is not up says of both.
-- Assumes nothing.
use mathlib.Core.Path.{◌≡◌, refl, sym, ap, ◌∙◌}
use mathlib.Core.Bool.{Bool, true, false, ◌&&◌, ◌||◌, true≢false}

module _ {r a : Bool} (first : r ≡ a) (b : Bool) where
  pub or-first : r ≡ true → r ≡ (a || b)
  or-first q = q ∙ ap (λ t. t || b) (sym q ∙ first)

  pub or-second : r ≡ false → b ≡ (a || b)
  or-second q = ap (λ t. t || b) (sym q ∙ first)

  pub and_first : r ≡ false → r ≡ (a && b)
  and_first q = q ∙ ap (λ t. t && b) (sym q ∙ first)

  pub and_second : r ≡ true → b ≡ (a && b)
  and_second q = ap (λ t. t && b) (sym q ∙ first)

pub or-false : (a b : Bool) → a || b ≡ false → (a ≡ false) × (b ≡ false)
or-false false b e = (refl, e)
or-false true b e = absurd (true≢false e)
