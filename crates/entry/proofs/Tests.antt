-- What the code's tests tell: a conjunction taken in turn, the range of a number, a number that is 0.
-- Assumes nothing.
use mathlib.Core.Path.{◌≡◌, refl, sym, ap, ◌∙◌}
use mathlib.Core.Bool.{Bool, true, false, ◌&&◌, true≢false}
use Prim.Native.Nat.{ℕ, zero, suc, ◌<◌, ◌-◌, ◌^◌}
use native.Mathlib.Omega.{arith}
use lib.Dec.{T, leb, eqb, leb-suc-suc}
use lib.IntN.{ℤ, pos, negsuc, neg_ℤ, nat_abs, ◌-ℤ◌, +ℤ_idl}
use lib.Signed.{lt_z, le_z, non_neg}
use mir.Syntax.{w64}
use mir.Val.{SFits, of_z, to_z}
use mir.Facts.{to_z-of_z}
use borrow.Author.Tests.{ne_eqb, le-leb, lt-leb}
use Rattle.arith.specs.Order.{lt_z-true, lt_z-false, ≤ℤ-le_z, <ℤ-le_z}

-- r is the first test's outcome and a its meaning; s and b the second's
pub and-more : {r s a b : Bool} → r ≡ true → r ≡ a → s ≡ b → s ≡ a && b
and-more {a = true} e f g = g
and-more {a = false} e f g = absurd (true≢false (sym e ∙ f))

pub and-less : {r a : Bool} (b : Bool) → r ≡ false → r ≡ a → r ≡ a && b
and-less {a = false} b e f = f
and-less {a = true} b e f = absurd (true≢false (sym f ∙ e))

-- ---- −most to most

pub negative_fits : (most : ℤ) → T (non_neg most) → SFits w64 most → SFits w64 (neg_ℤ most)
negative_fits (pos zero) t h = h
negative_fits (pos (suc m)) t h = record { sfits = below h.sfits }
  where
    below : suc m < 2 ^ 63 → m < 2 ^ 63
    below h = omega arith
negative_fits (negsuc m) t h = absurd t

-- as the machine negates
pub negative-is : {z : ℤ} → SFits w64 z → pos 0 -ℤ to_z w64 (of_z w64 z) ≡ neg_ℤ z
negative-is {z} h = +ℤ_idl (neg_ℤ (to_z w64 (of_z w64 z))) ∙ ap neg_ℤ (to_z-of_z h)

pub at_least : (most number : ℤ) → T (non_neg most) → le_z (neg_ℤ most) number ≡ true → le_z number most ≡ leb (nat_abs number) (nat_abs most)
at_least (pos m) (pos n) t e = refl
at_least (pos zero) (negsuc n) t e = absurd (true≢false (sym e))
at_least (pos (suc m)) (negsuc n) t e = sym (leb-suc-suc n m ∙ e)
at_least (negsuc m) n t e = absurd t

pub too-low : (most number : ℤ) → T (non_neg most) → le_z (neg_ℤ most) number ≡ false → le_z (neg_ℤ most) number ≡ leb (nat_abs number) (nat_abs most)
too-low (pos zero) (pos n) t e = absurd (true≢false (sym (le-leb 0 n (omega arith)) ∙ e))
too-low (pos (suc m)) (pos n) t e = absurd (true≢false e)
too-low (pos zero) (negsuc n) t e = sym (lt-leb (suc n) 0 (omega arith))
too-low (pos (suc m)) (negsuc n) t e = sym (leb-suc-suc n m)
too-low (negsuc m) n t e = absurd t

-- the same by tests of what is past an end
module _ (m : ℕ) (number : ℤ) where
  pub below : lt_z number (neg_ℤ (pos m)) ≡ true → leb (nat_abs number) m ≡ false
  below e = sym (too-low (pos m) number tt low) ∙ low
    where
      low : le_z (neg_ℤ (pos m)) number ≡ false
      low = <ℤ-le_z (lt_z-true number (neg_ℤ (pos m)) e)

  pub not-below : lt_z number (neg_ℤ (pos m)) ≡ false → le_z number (pos m) ≡ leb (nat_abs number) m
  not-below e = at_least (pos m) number tt (≤ℤ-le_z (lt_z-false number (neg_ℤ (pos m)) e))

  pub above : lt_z number (neg_ℤ (pos m)) ≡ false → lt_z (pos m) number ≡ true → leb (nat_abs number) m ≡ false
  above e f = sym (not-below e) ∙ <ℤ-le_z (lt_z-true (pos m) number f)

  pub inside : lt_z number (neg_ℤ (pos m)) ≡ false → lt_z (pos m) number ≡ false → leb (nat_abs number) m ≡ true
  inside e f = sym (not-below e) ∙ ≤ℤ-le_z (lt_z-false (pos m) number f)

-- ---- 0 or not

pub zero_bits : (z : ℤ) → SFits w64 z → eqb (of_z w64 z) 0 ≡ eqb (nat_abs z) 0
zero_bits (pos n) h = refl
zero_bits (negsuc n) h = ne_eqb (of_z w64 (negsuc n)) 0 (not-zero h.sfits) ∙ sym (ne_eqb (suc n) 0 (λ e. omega arith))
  where
    not-zero : n < 2 ^ 63 → 2 ^ 64 - suc n ≡ 0 → ⊥
    not-zero h e = omega arith
