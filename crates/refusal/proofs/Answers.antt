-- Laws of answers: a result is no refusal, two equal answers have equal parts, a check that is passed is not seen, and a group
-- of places passes where each place does.
--     each-end, each_turn                  a group at its end, and its next place
--     each_start, each_on, each-stop       the loop over a group
--     each-pass, pass-each                 a group passes where each place does, and only there
-- Assumes nothing.
use mathlib.Core.Path.{◌≡◌, refl, sym, ap, subst, ◌∙◌}
use mathlib.Core.Bool.{Bool, true, false, not}
use borrow.Author.Tests.{eq-eqb, ne_eqb, eqb-true, not-false}
use lib.Dec.{eqb}
use Prim.Native.Nat.{ℕ, zero, suc, ◌+◌, ◌-◌, ◌≤◌, ◌<◌}
use native.Mathlib.Nat.{add-zero, add-suc, suc-add, le_of_suc-le-suc, not-suc-le-zero}
use native.Mathlib.Numerals.{add-one}
use native.Mathlib.Omega.{arith}
use Rattle.refusal.specs.Refused.{Answer, gives, refused, refuse_if, and_then, done, for_each, Leaves}

never : ◌≡◌ {A = ℕ} 0 1 → ⊥
never z = omega arith

module _ {A : Type 0} where
  pub same-result : {a b : A} → ◌≡◌ {A = Answer A} (gives a) (gives b) → a ≡ b
  same-result e = cc

  pub not-refused : {X : Type 0} {a : A} {n k : ℕ} → ◌≡◌ {A = Answer A} (gives a) (refused n k) → X
  not-refused e = let z : ◌≡◌ {A = ℕ} 0 1 = cc in absurd (never z)

  pub not-result : {X : Type 0} {a : A} {n k : ℕ} → ◌≡◌ {A = Answer A} (refused n k) (gives a) → X
  not-result e = let z : ◌≡◌ {A = ℕ} 0 1 = cc in absurd (never z)

  -- the same refusal, of another result's type
  pub same-refusal : {B : Type 0} {m n j k : ℕ} → ◌≡◌ {A = Answer A} (refused m j) (refused n k) → ◌≡◌ {A = Answer B} (refused m j) (refused n k)
  same-refusal e = cc

  -- an accepted call passed the check
  pub passed : (b : Bool) (n k : ℕ) (rest : Answer A) {a : A} → refuse_if b n k rest ≡ gives a → (b ≡ false) × (rest ≡ gives a)
  passed true n k rest e = not-result e
  passed false n k rest e = (refl, e)

-- an accepted call had a result on the way
pub went_on : {A B : Type 0} (a : Answer A) (next : A → Answer B) {b : B} → and_then a next ≡ gives b → (x : A) × (a ≡ gives x) × (next x ≡ gives b)
went_on (gives x) next e = (x, refl, e)
went_on (refused n k) next e = not-result e

-- ---- the check of a length in front of the rest of a list

module _ {A : Type 0} (length wanted : ℕ) (rest : Answer A) where
  pub wrong-length : (length ≡ wanted → ⊥) → refuse_if (not (eqb length wanted)) 1 0 rest ≡ refused 1 0
  wrong-length h = rw (ne_eqb length wanted h)

  pub right-length : length ≡ wanted → refuse_if (not (eqb length wanted)) 1 0 rest ≡ rest
  right-length h = rw (eq-eqb length wanted h)

  pub length-passed : {a : A} → refuse_if (not (eqb length wanted)) 1 0 rest ≡ gives a → (length ≡ wanted) × (rest ≡ gives a)
  length-passed e =
      let t = passed (not (eqb length wanted)) 1 0 rest e in
      (eqb-true length wanted (not-false (eqb length wanted) t.0), t.1)

-- ---- what a call leaves, by its answer

module _ {A B : Type 0} {a : Answer A} {new : A → B} {old : B} where
  pub refused-leaves : {n k : ℕ} → a ≡ refused n k → Leaves a new old (refused n k) old
  refused-leaves {n} {k} e = subst (λ b. Leaves b new old (refused n k) old) (sym e) (record { answer = refl; left_is = refl })

  pub done-leaves : {x : A} {left : B} → a ≡ gives x → left ≡ new x → Leaves a new old done left
  done-leaves {left = left} e l = subst (λ b. Leaves b new old done left) (sym e) (record { answer = refl; left_is = l })

-- ---- a group

module _ (check : ℕ → Answer Unit) where
  pub each-end : (k n : ℕ) → n ≤ k → for_each check k (n - k) ≡ done
  each-end k n h = ap (λ m. for_each check k m) none
    where
      none : n - k ≡ zero
      none = omega arith

  pub each_turn : (k n : ℕ) → k < n → for_each check k (n - k) ≡ and_then (check k) (λ _. for_each check (k + 1) (n - (k + 1)))
  each_turn k n h = ap (λ m. for_each check k m) next ∙ ap (λ j. and_then (check k) (λ _. for_each check j (n - (k + 1)))) (sym (add-one k))
    where
      next : n - k ≡ suc (n - (k + 1))
      next = omega arith

  -- a loop over n places: its start, past a place that passes, and at one that is refused
  pub each_start : (n : ℕ) → for_each check 0 n ≡ for_each check 0 (n - 0)
  each_start n = ap (for_each check 0) whole
    where
      whole : n ≡ n - 0
      whole = omega arith

  pub each_on : (k n : ℕ) → k < n → check k ≡ done → for_each check k (n - k) ≡ for_each check (k + 1) (n - (k + 1))
  each_on k n h e = each_turn k n h ∙ ap (λ a. and_then a (λ _. for_each check (k + 1) (n - (k + 1)))) e

  pub each-stop : (k n : ℕ) {m j : ℕ} → k < n → check k ≡ refused m j → for_each check k (n - k) ≡ refused m j
  each-stop k n h e = each_turn k n h ∙ ap (λ a. and_then a (λ _. for_each check (k + 1) (n - (k + 1)))) e

  pub each-pass : (i n : ℕ) → ((k : ℕ) → k < n → check (i + k) ≡ done) → for_each check i n ≡ done
  each-pass i zero h = refl
  each-pass i (suc n) h =
      ap (λ a. and_then a (λ _. for_each check (suc i) n)) (ap check (sym (add-zero i)) ∙ h zero (omega arith))
      ∙ each-pass (suc i) n (λ k l. ap check (suc-add i k ∙ sym (add-suc i k)) ∙ h (suc k) (omega arith))

  pub pass-each : (i n : ℕ) → for_each check i n ≡ done → (k : ℕ) → k < n → check (i + k) ≡ done
  pass-each i zero e k h = absurd (not-suc-le-zero h)
  pass-each i (suc n) e zero h = ap check (add-zero i) ∙ (went_on (check i) (λ _. for_each check (suc i) n) e).1
  pass-each i (suc n) e (suc k) h =
      ap check (add-suc i k ∙ sym (suc-add i k))
      ∙ pass-each (suc i) n (went_on (check i) (λ _. for_each check (suc i) n) e).2 k (le_of_suc-le-suc h)
