-- Bounds on the size of an integer, and that it fits a machine number.
--     Bound z n                     |z| ≤ n
--     nat_abs-sum, -product, -neg    the size of a sum, a product, a negative
--     bound-sum .. bound-shift      a bound of a sum, a product, .., from bounds of the parts
--     bound-within, within-bound    to Order's Within and back
--     Size z, sizes                 some bound of z, found by search
--     fits, bounded, bounded-by     what a found bound gives
-- In one line: `fits (search sizes depth 20) tt : SFits w64 (m *ℤ w *ℤ (pos 4096 *ℤ v +ℤ b *ℤ x))`, where `Bound m 1000` and so on are in scope: the bound is found from these by the operations, and `tt` compares two numerals.
-- Parts that need no `Bound`: a numeral; `pos n` with `n ≤ k` or `n < k` in scope; an integer with `Within (pos k) z` or `SFits w z` in scope. A fact that is not in scope is listed: `search (sizes, h.small) depth 20`. Of two bounds in scope the last one serves.
-- Assumes nothing.
use Rattle.std.specs.Prelude.{◌≡◌, refl, [], ℕ, zero, suc, ◌+◌, ◌*◌, ◌-◌, ◌/◌, ◌^◌, ◌≤◌, ◌<◌, T, leb, ltb, eqb, ℤ, pos, negsuc, neg_ℤ, nat_abs, ◌+ℤ◌, ◌*ℤ◌}
use Rattle.std.proofs.Common.{sym, ◌∙◌, subst, le_refl, le_trans, mul-le-mul, lt_of_le_of_lt, le_of_eq, le-div_iff_mul-le, div-mul-le_self, arith, leb→le, ltb→lt}
use Rattle.std.proofs.Math.Nat.{div-zero}
use Rattle.std.specs.Int.Signed.{mag, shr_z, nat_abs-le}
use Rattle.std.specs.Int.{Width}
use mir.Val.{SFits, hbits}
use Rattle.arith.specs.Order.{Within, linear, reading, within-sum}

pub record Bound (z : ℤ) (n : ℕ) : Type 0 where
  pub size : nat_abs z ≤ n

-- ---- as an allowance

pub nat_abs-neg : (z : ℤ) → nat_abs (neg_ℤ z) ≡ nat_abs z
nat_abs-neg (pos zero) = refl
nat_abs-neg (pos (suc n)) = refl
nat_abs-neg (negsuc n) = refl

pub bound-within : {z : ℤ} {n : ℕ} → Bound z n → Within (pos n) z
bound-within {z = pos m} {n} h = linear [] h.size (search reading depth 30) (omega arith)
bound-within {z = negsuc m} {n} h = linear [] h.size (search reading depth 30) (omega arith)

pub within-bound : {z : ℤ} {n : ℕ} → Within (pos n) z → Bound z n
within-bound {z = pos m} {n} h = record { size = linear [] h (search reading depth 30) (omega arith) }
within-bound {z = negsuc m} {n} h = record { size = linear [] h (search reading depth 30) (omega arith) }

-- ---- the size of a sum, a difference, a product

pub bound-self : (z : ℤ) → Bound z (nat_abs z)
bound-self z = record { size = le_refl (nat_abs z) }

pub bound-sum : {a b : ℤ} {m n : ℕ} → Bound a m → Bound b n → Bound (a +ℤ b) (m + n)
bound-sum h k = within-bound (within-sum (bound-within h) (bound-within k))

pub bound-neg : {a : ℤ} {m : ℕ} → Bound a m → Bound (neg_ℤ a) m
bound-neg {a} {m} h = record { size = rw (nat_abs-neg a) h.size }

pub nat_abs-product : (a b : ℤ) → nat_abs (a *ℤ b) ≡ nat_abs a * nat_abs b
nat_abs-product (pos a) (pos b) = refl
nat_abs-product (pos a) (negsuc b) = nat_abs-neg (pos (a * suc b))
nat_abs-product (negsuc a) (pos b) = nat_abs-neg (pos (suc a * b))
nat_abs-product (negsuc a) (negsuc b) = refl

pub nat_abs-sum : (a b : ℤ) → nat_abs (a +ℤ b) ≤ nat_abs a + nat_abs b
nat_abs-sum a b = (bound-sum (bound-self a) (bound-self b)).size

pub bound-product : {a b : ℤ} {m n : ℕ} → Bound a m → Bound b n → Bound (a *ℤ b) (m * n)
bound-product {a} {b} h k = record { size = rw (nat_abs-product a b) (mul-le-mul h.size k.size) }

pub bound-pos : {m n : ℕ} → m ≤ n → Bound (pos m) n
bound-pos h = record { size = h }

pub bound-widen : {z : ℤ} {m n : ℕ} → m ≤ n → Bound z m → Bound z n
bound-widen h k = record { size = le_trans k.size h }

pub bound-equal : {y z : ℤ} {n : ℕ} → y ≡ z → Bound y n → Bound z n
bound-equal {y} {z} {n} e h = subst (λ x. Bound x n) e h

-- ---- machine numbers

pub bound-machine : {w : Width} {z : ℤ} → SFits w z → Bound z (2 ^ hbits w)
bound-machine {w} {z} f = record { size = nat_abs-le z f.sfits }

mag-le : (z : ℤ) → mag z ≤ nat_abs z
mag-le (pos n) = le_refl n
mag-le (negsuc n) = omega arith

pub bound-fits : {w : Width} {z : ℤ} {n : ℕ} → Bound z n → n < 2 ^ hbits w → SFits w z
bound-fits {w} {z} h l = record { sfits = lt_of_le_of_lt (le_trans (mag-le z) h.size) l }

quotient_le : {a b : ℕ} (m : ℕ) → a ≤ b → a / m ≤ b / m
quotient_le {a} {b} zero h = le_of_eq (div-zero a ∙ sym (div-zero b))
quotient_le {a} {b} (suc m) h = (le-div_iff_mul-le {k = suc m} (omega arith)).1 (le_trans (div-mul-le_self a (suc m)) h)

-- the shift that rounds down
pub bound-shift : {z : ℤ} {n : ℕ} (m : ℕ) → Bound z n → Bound (shr_z z m) (n / m + 1)
bound-shift {z = pos a} m h = record { size = le_trans (quotient_le m h.size) (omega arith) }
bound-shift {z = negsuc a} m h = record { size = suc-le (quotient_le m (before h.size)) }
  where
    suc-le : {a b : ℕ} → a ≤ b → suc a ≤ b + 1
    suc-le h = omega arith

    before : {a n : ℕ} → suc a ≤ n → a ≤ n
    before h = omega arith

-- ---- found by search

pub record Size (z : ℤ) : Type 0 where
  pub most : ℕ
  pub holds : Bound z most

abbrev pub size-given : {z : ℤ} {n : ℕ} → Bound z n → Size z
size-given {z} {n} h = record { most = n; holds = h }

abbrev pub size-within : {z : ℤ} {n : ℕ} → Within (pos n) z → Size z
size-within {z} {n} h = record { most = n; holds = within-bound h }

abbrev pub size-machine : {w : Width} {z : ℤ} → SFits w z → Size z
size-machine {w} {z} f = record { most = 2 ^ hbits w; holds = bound-machine f }

-- a numeral: the test computes at numerals only
abbrev pub size-numeral : (n : ℕ) → T (eqb n n) → Size (pos n)
size-numeral n t = record { most = n; holds = bound-self (pos n) }

abbrev pub size-negative : (n : ℕ) → T (eqb n n) → Size (negsuc n)
size-negative n t = record { most = suc n; holds = bound-self (negsuc n) }

abbrev pub size-pos : {m n : ℕ} → m ≤ n → Size (pos m)
size-pos {m} {n} h = record { most = n; holds = bound-pos h }

pub below : {m n : ℕ} → m < n → m ≤ n - 1
below h = omega arith

abbrev pub size_below : {m n : ℕ} → m < n → Size (pos m)
size_below {m} {n} h = record { most = n - 1; holds = bound-pos (below h) }

abbrev pub size-sum : (a b : ℤ) → Size a → Size b → Size (a +ℤ b)
size-sum a b s t = record { most = s.most + t.most; holds = bound-sum s.holds t.holds }

abbrev pub size-neg : (a : ℤ) → Size a → Size (neg_ℤ a)
size-neg a s = record { most = s.most; holds = bound-neg s.holds }

abbrev pub size-product : (a b : ℤ) → Size a → Size b → Size (a *ℤ b)
size-product a b s t = record { most = s.most * t.most; holds = bound-product s.holds t.holds }

abbrev pub size-shift : (a : ℤ) (m : ℕ) → Size a → Size (shr_z a m)
size-shift a m s = record { most = s.most / m + 1; holds = bound-shift m s.holds }

-- `pos m +ℤ pos n` and `pos m *ℤ pos n` compute to these
abbrev pub size-pos-sum : (m n : ℕ) → Size (pos m) → Size (pos n) → Size (pos (m + n))
size-pos-sum m n s t = record { most = s.most + t.most; holds = bound-sum s.holds t.holds }

abbrev pub size-pos-product : (m n : ℕ) → Size (pos m) → Size (pos n) → Size (pos (m * n))
size-pos-product m n s t = record { most = s.most * t.most; holds = bound-product s.holds t.holds }

pub ruleset sizes = (size-given, size-numeral, size-negative, size-pos, size_below, size-within, size-machine, size-sum, size-neg, size-product, size-shift, size-pos-sum, size-pos-product, tt)

-- by one comparison of numerals
pub fits : {w : Width} {z : ℤ} (s : Size z) → T (ltb s.most (2 ^ hbits w)) → SFits w z
fits {w} s t = bound-fits s.holds (ltb→lt s.most (2 ^ hbits w) t)

pub bounded : {z : ℤ} {n : ℕ} (s : Size z) → T (leb s.most n) → Bound z n
bounded {n} s t = bound-widen (leb→le s.most n t) s.holds

-- where the bound names variables
pub bounded-by : {z : ℤ} {n : ℕ} (s : Size z) → s.most ≤ n → Bound z n
bounded-by s h = bound-widen h s.holds
