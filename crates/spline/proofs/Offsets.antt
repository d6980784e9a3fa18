-- The range of an offset, as the tests of `weights` see it.
--     below, above            an offset past an end is refused
--     Inside, inside_of       an offset within gets its weights, and what is known of them
-- Assumes nothing.
use mathlib.Core.Path.{◌≡◌, refl, sym, ap, subst, ◌∙◌}
use mathlib.Core.Bool.{true, false}
use Prim.Native.Nat.{ℕ, suc, ◌+◌, ◌-◌, ◌<◌, ◌≤◌}
use native.Mathlib.Omega.{arith}
use lib.Dec.{T}
use lib.IntN.{ℤ, pos, negsuc, ◌+ℤ◌, ◌-ℤ◌, +ℤ-neg_ℤ_cancel}
use lib.Signed.{lt_z}
use borrow.Author.Tests.{ltb-true, ltb-false, lt-leb, le-leb, le-ltb}
use Rattle.arith.specs.Size.{Bound}
use Rattle.refusal.specs.Refused.{gives, refused}
use Rattle.spline.specs.Answers.{three, weights_answer}
use Rattle.spline.proofs.Table.{RowFacts, row-facts}

clash : {A : Type 0} → false ≡ true → A
clash e = absurd (subst T (sym e) tt)

pub below : (q : ℤ) → lt_z q (negsuc 31) ≡ true → weights_answer q ≡ refused 7 0
below (pos n) e = clash e
below (negsuc n) e = rw (lt-leb n 31 (ltb-true 31 n e))

pub above : (q : ℤ) → lt_z (pos 31) q ≡ true → weights_answer q ≡ refused 7 0
above (pos n) e = rw (lt-leb n 31 (ltb-true 31 n e))
above (negsuc n) e = clash e

pub record Inside (q : ℤ) : Type 0 where
  pub small : Bound q 32
  pub facts : RowFacts q
  pub accepted : weights_answer q ≡ gives (three q)

-- the facts of the offset's row
at_row : (q : ℤ) (k : ℕ) → k < 64 → q +ℤ pos 32 ≡ pos k → RowFacts q
at_row q k h e = subst RowFacts back (row-facts k h)
  where
    back : pos k -ℤ pos 32 ≡ q
    back = ap (λ z. z -ℤ pos 32) (sym e) ∙ +ℤ-neg_ℤ_cancel q (pos 32)

pub inside_of : (q : ℤ) → lt_z q (negsuc 31) ≡ false → lt_z (pos 31) q ≡ false → Inside q
inside_of (pos n) l h =
    let top : n ≤ 31 = ltb-false 31 n h in
    record {
      small = record { size = omega arith };
      facts = at_row (pos n) (n + 32) (omega arith) refl;
      accepted = rw (le-leb n 31 top);
    }
inside_of (negsuc n) l h =
    let low : n ≤ 31 = ltb-false 31 n l in
    let less : suc n ≤ 32 = omega arith in
    record {
      small = record { size = less };
      facts = at_row (negsuc n) (31 - n) (omega arith) (rw (le-ltb 32 (suc n) less) (ap pos (omega arith)));
      accepted = rw (le-leb n 31 low);
    }
