-- The tests for limits as facts about sizes.
--     two-within, two-within-back    both numbers are within a limit, and back
--     above-lowest, size             a number within a limit is not the one below the limits, and back for what a field holds
-- Assumes nothing.
use Prim.Native.Nat.{ℕ, zero, suc, ◌≤◌, ◌<◌}
use native.Mathlib.Omega.{arith}
use mathlib.Core.Path.{◌≡◌, refl, sym, subst}
use mathlib.Core.Bool.{Bool, true, false, ◌&&◌}
use borrow.Author.Tests.{leb-true, leb-false, le-leb, lt-leb}
use lib.Dec.{T, leb}
use lib.IntN.{ℤ, pos, negsuc, neg_ℤ, nat_abs}
use lib.Signed.{le_z, mag}
use Rattle.limits.specs.Limits.{isℤ, within}

pub both : (a b : Bool) → (a && b) ≡ true → (a ≡ true) × (b ≡ true)
both true b e = (refl, e)
both false b e = absurd (subst T (sym e) tt)

pub both-back : (a b : Bool) → a ≡ true → b ≡ true → (a && b) ≡ true
both-back a b p q = rw (p, q)

is_within : (k : ℕ) (z : ℤ) → within k z ≡ true → nat_abs z ≤ k
is_within k (pos n) e = leb-true n k (both (le_z (neg_ℤ (pos k)) (pos n)) (leb n k) e).1
is_within zero (negsuc n) e = absurd (subst T (sym e) tt)
is_within (suc m) (negsuc n) e = omega (arith, leb-true n m (both (leb n m) true e).0)

within-back : (k : ℕ) (z : ℤ) → nat_abs z ≤ k → within k z ≡ true
within-back zero (pos n) h = simp (le-leb n zero h, le-leb zero n (omega arith))
within-back (suc m) (pos n) h = le-leb n (suc m) h
within-back zero (negsuc n) h = absurd (omega arith)
within-back (suc m) (negsuc n) h = simp (le-leb n m (omega arith))

pub two-within : (k : ℕ) (a b : ℤ) → (within k a && within k b) ≡ true → (nat_abs a ≤ k) × (nat_abs b ≤ k)
two-within k a b e =
    let t = both (within k a) (within k b) e in
    (is_within k a t.0, is_within k b t.1)

pub two-within-back : (k : ℕ) (a b : ℤ) → nat_abs a ≤ k → nat_abs b ≤ k → (within k a && within k b) ≡ true
two-within-back k a b p q = both-back (within k a) (within k b) (within-back k a p) (within-back k b q)

pub above-lowest : (k : ℕ) (z : ℤ) → nat_abs z < k → isℤ (neg_ℤ (pos k)) z ≡ false
above-lowest zero z h = absurd (omega arith)
above-lowest (suc m) (pos n) h = refl
above-lowest (suc m) (negsuc n) h = simp (le-leb n m (omega arith), lt-leb m n (omega arith))

pub size : (k : ℕ) (z : ℤ) → mag z < k → isℤ (neg_ℤ (pos k)) z ≡ false → nat_abs z < k
size k (pos n) h e = h
size zero (negsuc n) h e = absurd (omega arith)
size (suc m) (negsuc n) h e =
    let rest : leb m n ≡ false = simp (le-leb n m (omega arith)) at e in
    omega (arith, leb-false m n rest)
