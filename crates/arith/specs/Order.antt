-- The order of the integers of lib.IntN: linear facts in one line, the laws by name, and allowances.
--     linear                        a linear fact from others, in one line (below)
--     ≤ℤ-trans, ≤ℤ-antisym, ≤ℤ-of-eq, ≤ℤ-of-<ℤ, ≤ℤ-total                   the order
--     le_z-true, le_z-false, lt_z-true, lt_z-false      what a test's flag tells; is_true, ≤ℤ-le_z, <ℤ-le_z     the flag from the fact
--     pos-mono, pos-cancel, pos-nonneg, pos-positive, nonneg_pos     the natural numbers among the integers
--     +ℤ-mono, difference-nonneg                    sums and differences
--     *ℤ-nonneg, *ℤ-mono-left, *ℤ-cancel-left, *ℤ-cancel-equal       products
--     both_zero, factor-zero, square-nonneg, square-zero     a sum, a product and a square that are 0
--     Within k z                    -k ≤ z ≤ k: within-sum, -difference, -scale, -cancel, -widen, -zero, -of
-- In one line: `linear (x ∷ y ∷ []) (h & k) (search reading depth 30) (omega arith)` proves a goal `a ≤ℤ b`, `a <ℤ b`, `a ≡ b`, `Within k z` or `⊥`, or one between natural numbers, from h and k, which are such facts (`nothing` for none).
-- The list holds what counts as an unknown: variables, or any other integers. What is made of these, of numerals and of `pos n` by +ℤ, -ℤ, neg_ℤ and *ℤ is read; a product of unknowns is multiplied out, and its terms are unknowns.
-- Facts of natural numbers in scope are used unasked, and more may be listed: `omega (arith, fact)`. A longer goal wants `depth 30 fits 20000`. `◌≤ℤ◌` binds tighter than `+ℤ`: parenthesise.
-- Assumes nothing.
use Rattle.std.specs.Prelude.{◌≡◌, refl, Bool, true, false, not, List, [], ◌∷◌, ◌⊎◌, ℕ, zero, suc, ◌+◌, ◌*◌, ◌≤◌, ◌<◌, T, leb, ℤ, pos, negsuc, neg_ℤ, ◌+ℤ◌, ◌-ℤ◌, ◌*ℤ◌, nat_abs, ◌≤ℤ◌, ◌<ℤ◌}
use Rattle.std.proofs.Common.{sym, ap, ap₂, ◌∙◌, subst, subst₂, inl, inr, ⊎_elim, arith, leb→le, le→leb, lt→ltb}
use Rattle.std.proofs.Math.Dec.{leb-suc-suc, nleb→lt}
use Rattle.std.proofs.Math.IntN.{suc_ℤ, pred_ℤ, +ℤ_idl, +ℤ_idr, +ℤ_one, +ℤ-suc_ℤ, +ℤ-pred_ℤ, *ℤ-zero}
use Rattle.std.specs.Int.Signed.{le_z, lt_z, ≤ℤ_refl, le_z_yes, lt_z_yes, clash_ℤ, yes_non_neg, pos-nat_abs}
use Rattle.arith.specs.Ring.{ℤ-steps}
use Rattle.arith.specs.Solver.{ring, quote}

-- ---- the same added to both sides

leb-suc : (m n : ℕ) → T (leb m n) → T (leb (suc m) (suc n))
leb-suc m n t = rw (leb-suc-suc m n) t

leb-pred : (m n : ℕ) → T (leb (suc m) (suc n)) → T (leb m n)
leb-pred m n t = rw (leb-suc-suc m n) at t

zero-leb : (n : ℕ) → T (leb zero n)
zero-leb n = le→leb zero n (omega arith)

not-leb-zero : (n : ℕ) → T (leb (suc n) zero) → ⊥
not-leb-zero n t = below n (leb→le (suc n) zero t)
  where
    below : (n : ℕ) → suc n ≤ zero → ⊥
    below n h = omega arith

suc-mono : (a b : ℤ) → T (le_z a b) → T (le_z (suc_ℤ a) (suc_ℤ b))
suc-mono (pos a) (pos b) t = leb-suc a b t
suc-mono (pos a) (negsuc b) t = absurd t
suc-mono (negsuc zero) (pos b) t = zero-leb (suc b)
suc-mono (negsuc (suc a)) (pos b) t = tt
suc-mono (negsuc zero) (negsuc zero) t = tt
suc-mono (negsuc zero) (negsuc (suc b)) t = absurd (not-leb-zero b t)
suc-mono (negsuc (suc a)) (negsuc zero) t = tt
suc-mono (negsuc (suc a)) (negsuc (suc b)) t = leb-pred b a t

pred-mono : (a b : ℤ) → T (le_z a b) → T (le_z (pred_ℤ a) (pred_ℤ b))
pred-mono (pos zero) (pos zero) t = tt
pred-mono (pos zero) (pos (suc b)) t = tt
pred-mono (pos (suc a)) (pos zero) t = absurd (not-leb-zero a t)
pred-mono (pos (suc a)) (pos (suc b)) t = leb-pred a b t
pred-mono (pos a) (negsuc b) t = absurd t
pred-mono (negsuc a) (pos zero) t = zero-leb (suc a)
pred-mono (negsuc a) (pos (suc b)) t = tt
pred-mono (negsuc a) (negsuc b) t = leb-suc b a t

translate : {a b : ℤ} (c : ℤ) → a ≤ℤ b → (a +ℤ c) ≤ℤ (b +ℤ c)
translate {a} {b} c h =
    ℤ-steps (λ c. (a +ℤ c) ≤ℤ (b +ℤ c))
    (rw (+ℤ_idr a, +ℤ_idr b) h)
    (λ m k. rw (+ℤ-suc_ℤ a m, +ℤ-suc_ℤ b m) (le_z_yes (suc-mono (a +ℤ m) (b +ℤ m) k.le)))
    (λ m k. rw (+ℤ-pred_ℤ a m, +ℤ-pred_ℤ b m) (le_z_yes (pred-mono (a +ℤ m) (b +ℤ m) k.le)))
    c

-- below is at least one below
lt-suc : (a b : ℤ) → T (lt_z a b) → T (le_z (suc_ℤ a) b)
lt-suc (pos a) (pos b) t = t
lt-suc (pos a) (negsuc b) t = absurd t
lt-suc (negsuc zero) (pos b) t = zero-leb b
lt-suc (negsuc (suc a)) (pos b) t = tt
lt-suc (negsuc zero) (negsuc b) t = absurd (not-leb-zero b t)
lt-suc (negsuc (suc a)) (negsuc b) t = leb-pred b a t

suc-lt : (a b : ℤ) → T (le_z (suc_ℤ a) b) → T (lt_z a b)
suc-lt (pos a) (pos b) t = t
suc-lt (pos a) (negsuc b) t = absurd t
suc-lt (negsuc a) (pos b) t = tt
suc-lt (negsuc zero) (negsuc b) t = absurd t
suc-lt (negsuc (suc a)) (negsuc b) t = leb-suc b a t

pub pos-mono : {m n : ℕ} → m ≤ n → pos m ≤ℤ pos n
pos-mono {m} {n} h = le_z_yes (le→leb m n h)

pub pos-cancel : {m n : ℕ} → pos m ≤ℤ pos n → m ≤ n
pos-cancel {m} {n} h = leb→le m n h.le

-- ---- an integer as the difference of two natural numbers

unfoldable pub plus : ℤ → ℕ
plus (pos n) = n
plus (negsuc n) = zero

unfoldable pub minus : ℤ → ℕ
minus (pos n) = zero
minus (negsuc n) = suc n

pub parted : (z : ℤ) → z ≡ pos (plus z) -ℤ pos (minus z)
unfolding plus minus
parted (pos n) = sym (+ℤ_idr (pos n))
parted (negsuc n) = sym (+ℤ_idl (negsuc n))

pub neg-diff : (p n : ℕ) → neg_ℤ (pos p -ℤ pos n) ≡ pos n -ℤ pos p
neg-diff p n = ring (pos p ∷ pos n ∷ []) (search quote depth 30) (search quote depth 30) tt

pub add-diff : (p n q m : ℕ) → (pos p -ℤ pos n) +ℤ (pos q -ℤ pos m) ≡ pos (p + q) -ℤ pos (n + m)
add-diff p n q m = ring (pos p ∷ pos n ∷ pos q ∷ pos m ∷ []) (search quote depth 30) (search quote depth 30) tt

pub mul-diff : (p n q m : ℕ) → (pos p -ℤ pos n) *ℤ (pos q -ℤ pos m) ≡ pos (p * q + n * m) -ℤ pos (p * m + n * q)
mul-diff p n q m = ring (pos p ∷ pos n ∷ pos q ∷ pos m ∷ []) (search quote depth 30) (search quote depth 30) tt

-- p - n from (p + m) - (n + m), and from (p + m) - (m + n)
less : (p n m : ℕ) → pos (p + m) -ℤ pos (n + m) ≡ pos p -ℤ pos n
less p n m = ring (pos p ∷ pos n ∷ pos m ∷ []) (search quote depth 30) (search quote depth 30) tt

less' : (p n m : ℕ) → pos (p + m) -ℤ pos (m + n) ≡ pos p -ℤ pos n
less' p n m = ring (pos p ∷ pos n ∷ pos m ∷ []) (search quote depth 30) (search quote depth 30) tt

more : (p n m : ℕ) → (pos p -ℤ pos n) +ℤ pos (n + m) ≡ pos (p + m)
more p n m = ring (pos p ∷ pos n ∷ pos m ∷ []) (search quote depth 30) (search quote depth 30) tt

more' : (p n m : ℕ) → (pos p -ℤ pos n) +ℤ pos (m + n) ≡ pos (p + m)
more' p n m = ring (pos p ∷ pos n ∷ pos m ∷ []) (search quote depth 30) (search quote depth 30) tt

diff-le : (p n q m : ℕ) → (pos p -ℤ pos n) ≤ℤ (pos q -ℤ pos m) → p + m ≤ q + n
diff-le p n q m h = pos-cancel (subst₂ (λ x y. x ≤ℤ y) (more p n m) (more' q m n) (translate (pos (n + m)) h))

le-diff : (p n q m : ℕ) → p + m ≤ q + n → (pos p -ℤ pos n) ≤ℤ (pos q -ℤ pos m)
le-diff p n q m h = subst₂ (λ x y. x ≤ℤ y) (less p n m) (less' q m n) (translate (neg_ℤ (pos (n + m))) (pos-mono h))

eq-diff : (p n q m : ℕ) → p + m ≡ q + n → pos p -ℤ pos n ≡ pos q -ℤ pos m
eq-diff p n q m h = sym (less p n m) ∙ ap (λ x. pos x -ℤ pos (n + m)) h ∙ less' q m n

-- ---- reading an integer over a list of unknowns

pub data Unknown : List ℤ → ℤ → Type 0 where
  here : {z : ℤ} {ρ : List ℤ} → Unknown (z ∷ ρ) z
  there : {x z : ℤ} {ρ : List ℤ} → Unknown ρ z → Unknown (x ∷ ρ) z

pub record Parts (ρ : List ℤ) (z : ℤ) : Type 0 where
  pub up : ℕ
  pub down : ℕ
  pub is : z ≡ pos up -ℤ pos down

module _ {ρ : List ℤ} where
  abbrev pub parts-unknown : (z : ℤ) → Unknown ρ z → Parts ρ z
  parts-unknown z i = record { up = plus z; down = minus z; is = parted z }

  abbrev pub parts-pos : (n : ℕ) → Parts ρ (pos n)
  parts-pos n = record { up = n; down = zero; is = sym (+ℤ_idr (pos n)) }

  abbrev pub parts-negsuc : (n : ℕ) → Parts ρ (negsuc n)
  parts-negsuc n = record { up = zero; down = suc n; is = sym (+ℤ_idl (negsuc n)) }

  abbrev pub parts-neg : (a : ℤ) → Parts ρ a → Parts ρ (neg_ℤ a)
  parts-neg a p = record { up = p.down; down = p.up; is = ap neg_ℤ p.is ∙ neg-diff p.up p.down }

  abbrev pub parts_add : (a b : ℤ) → Parts ρ a → Parts ρ b → Parts ρ (a +ℤ b)
  parts_add a b p q =
      record { up = p.up + q.up; down = p.down + q.down; is = ap₂ ◌+ℤ◌ p.is q.is ∙ add-diff p.up p.down q.up q.down }

  abbrev pub parts-mul : (a b : ℤ) → Parts ρ a → Parts ρ b → Parts ρ (a *ℤ b)
  parts-mul a b p q =
      record { up = p.up * q.up + p.down * q.down; down = p.up * q.down + p.down * q.up; is = ap₂ ◌*ℤ◌ p.is q.is ∙ mul-diff p.up p.down q.up q.down }

-- ---- reading a fact

pub record Within (k z : ℤ) : Type 0 where
  pub low : neg_ℤ k ≤ℤ z
  pub high : z ≤ℤ k

-- what a fact says of natural numbers
pub record Reading (ρ : List ℤ) (A : Type 0) : Type 1 where
  pub says : Type 0
  pub to : A → says
  pub from : says → A

module _ {ρ : List ℤ} {a b : ℤ} (p : Parts ρ a) (q : Parts ρ b) where
  pub le-to : a ≤ℤ b → p.up + q.down ≤ q.up + p.down
  le-to h = diff-le p.up p.down q.up q.down (subst₂ (λ x y. x ≤ℤ y) p.is q.is h)

  pub le_from : p.up + q.down ≤ q.up + p.down → a ≤ℤ b
  le_from h = subst₂ (λ x y. x ≤ℤ y) (sym p.is) (sym q.is) (le-diff p.up p.down q.up q.down h)

  abbrev pub reads-le : Reading ρ (a ≤ℤ b)
  reads-le = record { says = p.up + q.down ≤ q.up + p.down; to = le-to; from = le_from }

antisym' : {m n : ℕ} → m ≤ n → n ≤ m → m ≡ n
antisym' h k = omega arith

module _ {ρ : List ℤ} {a b : ℤ} (p : Parts ρ a) (q : Parts ρ b) where
  pub lt-to : a <ℤ b → p.up + 1 + q.down ≤ q.up + p.down
  lt-to h = fits p.up p.down q.up q.down (le-to (parts_add a (pos 1) p (parts-pos 1)) q (subst (λ x. x ≤ℤ b) (sym (+ℤ_one a)) (le_z_yes (lt-suc a b h.lt))))
    where
      fits : (p n q m : ℕ) → p + 1 + m ≤ q + (n + zero) → p + 1 + m ≤ q + n
      fits p n q m h = omega arith

  pub lt-from : p.up + 1 + q.down ≤ q.up + p.down → a <ℤ b
  lt-from h = lt_z_yes (suc-lt a b (subst (λ x. x ≤ℤ b) (+ℤ_one a) (le_from (parts_add a (pos 1) p (parts-pos 1)) q (fits p.up p.down q.up q.down h))).le)
    where
      fits : (p n q m : ℕ) → p + 1 + m ≤ q + n → p + 1 + m ≤ q + (n + zero)
      fits p n q m h = omega arith

  abbrev pub reads-lt : Reading ρ (a <ℤ b)
  reads-lt = record { says = p.up + 1 + q.down ≤ q.up + p.down; to = lt-to; from = lt-from }

  pub eq-to : a ≡ b → p.up + q.down ≡ q.up + p.down
  eq-to e = antisym' (le-to p q (subst (λ x. a ≤ℤ x) e (≤ℤ_refl a))) (le-to q p (subst (λ x. x ≤ℤ a) e (≤ℤ_refl a)))

  pub eq-from : p.up + q.down ≡ q.up + p.down → a ≡ b
  eq-from e = p.is ∙ eq-diff p.up p.down q.up q.down e ∙ sym q.is

  abbrev pub reads-eq : Reading ρ (a ≡ b)
  reads-eq = record { says = p.up + q.down ≡ q.up + p.down; to = eq-to; from = eq-from }

  abbrev pub reads-within : Reading ρ (Within a b)
  reads-within =
      record {
        says = (p.down + q.down ≤ q.up + p.up) × (q.up + p.down ≤ p.up + q.down);
        to = λ h. (le-to (parts-neg a p) q h.low, le-to q p h.high);
        from = λ s. record { low = le_from (parts-neg a p) q s.0; high = le_from q p s.1 };
      }

module _ {ρ : List ℤ} where
  abbrev pub reads-fun : {A B : Type 0} → Reading ρ A → Reading ρ B → Reading ρ (A → B)
  reads-fun r s = record { says = r.says → s.says; to = λ f x. s.to (f (r.from x)); from = λ f x. s.from (f (r.to x)) }

  abbrev pub reads-pair : {A B : Type 0} → Reading ρ A → Reading ρ B → Reading ρ (A × B)
  reads-pair r s =
      record { says = r.says × s.says; to = λ x. (r.to x.0, s.to x.1); from = λ x. (r.from x.0, s.from x.1) }

  -- what speaks of natural numbers already
  abbrev pub reads-itself : (A : Type 0) → Reading ρ A
  reads-itself A = record { says = A; to = λ x. x; from = λ x. x }

  abbrev pub reads-unit : Reading ρ (Unit {0})
  reads-unit = reads-itself (Unit {0})

  abbrev pub reads-empty : Reading ρ ⊥
  reads-empty = reads-itself ⊥

  abbrev pub reads-nat-le : (m n : ℕ) → Reading ρ (m ≤ n)
  reads-nat-le m n = reads-itself (m ≤ n)

  abbrev pub reads-nat-eq : (m n : ℕ) → Reading ρ (m ≡ n)
  reads-nat-eq m n = reads-itself (m ≡ n)

pub ruleset reading = (here, there, parts-unknown, parts-pos, parts-negsuc, parts-neg, parts_add, parts-mul, reads-le, reads-lt, reads-eq, reads-within, reads-fun, reads-pair, reads-unit, reads-empty, reads-nat-le, reads-nat-eq)

infixr 4 ◌&◌
abbrev pub ◌&◌ : {A B : Type 0} → A → B → A × B
x & y = (x, y)

abbrev pub nothing : Unit {0}
nothing = tt

pub linear : (ρ : List ℤ) {A G : Type 0} → A → (r : Reading ρ (A → G)) → r.says → G
linear ρ h r f = r.from f h

-- ---- the order

pub ≤ℤ-trans : {a b c : ℤ} → a ≤ℤ b → b ≤ℤ c → a ≤ℤ c
≤ℤ-trans {a} {b} {c} h k = linear (a ∷ b ∷ c ∷ []) (h & k) (search reading depth 30) (omega arith)

pub ≤ℤ-antisym : {a b : ℤ} → a ≤ℤ b → b ≤ℤ a → a ≡ b
≤ℤ-antisym {a} {b} h k = linear (a ∷ b ∷ []) (h & k) (search reading depth 30) (omega arith)

pub ≤ℤ-of-eq : {a b : ℤ} → a ≡ b → a ≤ℤ b
≤ℤ-of-eq {a} {b} e = linear (a ∷ b ∷ []) e (search reading depth 30) (omega arith)

pub ≤ℤ-of-<ℤ : {a b : ℤ} → a <ℤ b → a ≤ℤ b
≤ℤ-of-<ℤ {a} {b} h = linear (a ∷ b ∷ []) h (search reading depth 30) (omega arith)

-- the one or the other, as the test says
tested : (a b : ℤ) (t : Bool) → le_z a b ≡ t → (a ≤ℤ b) ⊎ (b <ℤ a)
tested a b true e = inl (le_z_yes (subst T (sym e) tt))
tested a b false e = inr (not-le a b (subst (λ t. T (not t)) (sym e) tt))
  where
    not-le : (a b : ℤ) → T (not (le_z a b)) → b <ℤ a
    not-le (pos a) (pos b) t = lt_z_yes (lt→ltb b a (nleb→lt a b t))
    not-le (pos a) (negsuc b) t = lt_z_yes tt
    not-le (negsuc a) (pos b) t = absurd t
    not-le (negsuc a) (negsuc b) t = lt_z_yes (lt→ltb a b (nleb→lt b a t))

pub ≤ℤ-total : (a b : ℤ) → (a ≤ℤ b) ⊎ (b <ℤ a)
≤ℤ-total a b = tested a b (le_z a b) refl

-- ---- a test's flag

pub le_z-true : (a b : ℤ) → le_z a b ≡ true → a ≤ℤ b
le_z-true a b e = le_z_yes (subst T (sym e) tt)

pub le_z-false : (a b : ℤ) → le_z a b ≡ false → b <ℤ a
le_z-false a b e = ⊎_elim (λ h. absurd (subst T e h.le)) (λ h. h) (≤ℤ-total a b)

pub lt_z-true : (a b : ℤ) → lt_z a b ≡ true → a <ℤ b
lt_z-true a b e = lt_z_yes (subst T (sym e) tt)

pub lt_z-false : (a b : ℤ) → lt_z a b ≡ false → b ≤ℤ a
lt_z-false a b e = ⊎_elim (λ h. h) (λ h. absurd (subst T e h.lt)) (≤ℤ-total b a)

pub is_true : (t : Bool) → T t → t ≡ true
is_true true h = refl
is_true false h = absurd h

is_false : (t : Bool) → (T t → ⊥) → t ≡ false
is_false true h = absurd (h tt)
is_false false h = refl

pub ≤ℤ-le_z : {a b : ℤ} → a ≤ℤ b → le_z a b ≡ true
≤ℤ-le_z {a} {b} h = is_true (le_z a b) h.le

pub <ℤ-le_z : {a b : ℤ} → b <ℤ a → le_z a b ≡ false
<ℤ-le_z {a} {b} h = is_false (le_z a b) (λ t. clash_ℤ h (le_z_yes t))

-- ---- the order and the operations

pub +ℤ-mono : {a b c d : ℤ} → a ≤ℤ b → c ≤ℤ d → (a +ℤ c) ≤ℤ (b +ℤ d)
+ℤ-mono {a} {b} {c} {d} h k = linear (a ∷ b ∷ c ∷ d ∷ []) (h & k) (search reading depth 30) (omega arith)

pub difference-nonneg : {a b : ℤ} → a ≤ℤ b → pos 0 ≤ℤ (b -ℤ a)
difference-nonneg {a} {b} h = linear (a ∷ b ∷ []) h (search reading depth 30) (omega arith)

pub pos-nonneg : (n : ℕ) → pos 0 ≤ℤ pos n
pos-nonneg n = pos-mono (omega arith)

pub pos-positive : {n : ℕ} → zero < n → pos 0 <ℤ pos n
pos-positive h = linear [] h (search reading depth 30) (omega arith)

-- an integer that is not negative is a natural number
pub nonneg_pos : {z : ℤ} → pos 0 ≤ℤ z → z ≡ pos (nat_abs z)
nonneg_pos {z} h = sym (pos-nat_abs z (yes_non_neg h))

pub *ℤ-nonneg : {a b : ℤ} → pos 0 ≤ℤ a → pos 0 ≤ℤ b → pos 0 ≤ℤ (a *ℤ b)
*ℤ-nonneg {a} {b} h k = subst₂ (λ x y. pos 0 ≤ℤ (x *ℤ y)) (pos-nat_abs a (yes_non_neg h)) (pos-nat_abs b (yes_non_neg k)) (pos-nonneg (nat_abs a * nat_abs b))

pub *ℤ-mono-left : {a b c : ℤ} → pos 0 ≤ℤ c → a ≤ℤ b → (c *ℤ a) ≤ℤ (c *ℤ b)
*ℤ-mono-left {a} {b} {c} h k =
    linear (a ∷ b ∷ c ∷ []) (*ℤ-nonneg h (difference-nonneg k)) (search reading depth 30) (omega arith)

pub *ℤ-cancel-left : {a b c : ℤ} → pos 0 <ℤ c → (c *ℤ a) ≤ℤ (c *ℤ b) → a ≤ℤ b
*ℤ-cancel-left {a} {b} {c} h k = ⊎_elim (λ l. l) (λ l. absurd (never (*ℤ-mono-left (≤ℤ-of-<ℤ h) (next l)))) (≤ℤ-total a b)
  where
    next : b <ℤ a → (b +ℤ pos 1) ≤ℤ a
    next l = linear (a ∷ b ∷ []) l (search reading depth 30) (omega arith)

    never : (c *ℤ (b +ℤ pos 1)) ≤ℤ (c *ℤ a) → ⊥
    never m = linear (a ∷ b ∷ c ∷ []) (h & k & m) (search reading depth 30) (omega arith)

pub *ℤ-cancel-equal : {a b c : ℤ} → pos 0 <ℤ c → c *ℤ a ≡ c *ℤ b → a ≡ b
*ℤ-cancel-equal h e = ≤ℤ-antisym (*ℤ-cancel-left h (≤ℤ-of-eq e)) (*ℤ-cancel-left h (≤ℤ-of-eq (sym e)))

-- ---- what is zero

pub both_zero : {a b : ℤ} → pos 0 ≤ℤ a → pos 0 ≤ℤ b → a +ℤ b ≡ pos 0 → (a ≡ pos 0) × (b ≡ pos 0)
both_zero {a} {b} h k e = (
  linear (a ∷ b ∷ []) (h & k & e) (search reading depth 30) (omega arith),
  linear (a ∷ b ∷ []) (h & k & e) (search reading depth 30) (omega arith),
)

pub factor-zero : {c z : ℤ} → pos 0 <ℤ c → c *ℤ z ≡ pos 0 → z ≡ pos 0
factor-zero {c} h e = *ℤ-cancel-equal h (e ∙ sym (*ℤ-zero c))

pub square-nonneg : (z : ℤ) → pos 0 ≤ℤ (z *ℤ z)
square-nonneg (pos n) = pos-nonneg (n * n)
square-nonneg (negsuc n) = pos-nonneg (suc n * suc n)

pub square-zero : {z : ℤ} → z *ℤ z ≡ pos 0 → z ≡ pos 0
square-zero {z = pos zero} e = refl
square-zero {z = pos (suc n)} e = factor-zero (pos-positive (omega arith)) e
square-zero {z = negsuc n} e =
    linear [] (factor-zero {c = pos (suc n)} {z = pos (suc n)} (pos-positive (omega arith)) e) (search reading depth 30) (omega arith)

-- ---- allowances

module _ {k m x y : ℤ} where
  pub within-sum : Within k x → Within m y → Within (k +ℤ m) (x +ℤ y)
  within-sum p q = linear (k ∷ m ∷ x ∷ y ∷ []) (p & q) (search reading depth 30) (omega arith)

  pub within-difference : Within k x → Within m y → Within (k +ℤ m) (x -ℤ y)
  within-difference p q = linear (k ∷ m ∷ x ∷ y ∷ []) (p & q) (search reading depth 30) (omega arith)

module _ {k x : ℤ} where
  pub within-scale : {c : ℤ} → pos 0 ≤ℤ c → Within k x → Within (c *ℤ k) (c *ℤ x)
  within-scale {c} h p =
      linear (c ∷ k ∷ x ∷ []) (*ℤ-mono-left h p.low & *ℤ-mono-left h p.high) (search reading depth 30) (omega arith)

  pub within-widen : {m : ℤ} → k ≤ℤ m → Within k x → Within m x
  within-widen {m} h p = linear (k ∷ x ∷ m ∷ []) (h & p) (search reading depth 30) (omega arith)

  pub within_of : pos 0 ≤ℤ x → x ≤ℤ k → Within k x
  within_of h l = linear (k ∷ x ∷ []) (h & l) (search reading depth 30) (omega arith)

pub within-zero : {k : ℤ} → pos 0 ≤ℤ k → Within k (pos 0)
within-zero {k} h = linear (k ∷ []) h (search reading depth 30) (omega arith)

pub within-cancel : {c k x : ℤ} → pos 0 <ℤ c → Within (c *ℤ k) (c *ℤ x) → Within k x
within-cancel {c} {k} {x} h p =
    record {
      low = *ℤ-cancel-left h (linear (c ∷ k ∷ x ∷ []) p (search reading depth 30) (omega arith));
      high = *ℤ-cancel-left h p.high;
    }
