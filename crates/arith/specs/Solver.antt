-- A solver for polynomial identities between integers, by reflection.
--     Exp, value           expressions over a list of variables, and what one denotes
--     Poly, poly-value     normal forms: k, or p + x·q with x the first variable and p without it
--     normal, sound        the normal form of an expression, which denotes the same
--     Quote, quote         an expression for an integer, found by search
--     ring                 an identity in one line: ring (x ∷ y ∷ []) (search quote depth 30) (search quote depth 30) tt
-- The list holds whatever is to count as a variable: an integer, or `pos n` for a natural number n.
-- Assumes nothing.
use Rattle.std.specs.Prelude.{◌≡◌, refl, Bool, true, false, ◌&&◌, List, [], ◌∷◌, ℕ, zero, suc, ◌+◌, ◌*◌, T, eqb, ℤ, pos, negsuc, neg_ℤ, ◌+ℤ◌, ◌*ℤ◌}
use Rattle.std.proofs.Common.{sym, ap, ap₂, ◌∙◌, mul-one}
use Rattle.std.proofs.Math.IntN.{+ℤ_assoc, +ℤ_comm, +ℤ_idl, +ℤ_idr, *ℤ-zero, *ℤ_comm}
use Rattle.std.proofs.Math.Facts.{and_yes}
use Rattle.arith.specs.Ring.{+ℤ-*ℤ, *ℤ-+ℤ, *ℤ-assoc, negℤ-*ℤ, *ℤ-left-comm, sum-ac, eq-of-difference}

-- ---- expressions

pub data Exp : Type 0 where
  con : ℤ → Exp
  var : ℕ → Exp
  add : Exp → Exp → Exp
  mul : Exp → Exp → Exp
  neg : Exp → Exp

-- the first variable and the others; past the end of the list a variable is zero
abbrev pub first : List ℤ → ℤ
first [] = pos zero
first (x ∷ ρ) = x

abbrev pub others : List ℤ → List ℤ
others [] = []
others (x ∷ ρ) = ρ

abbrev pub look : ℕ → List ℤ → ℤ
look zero ρ = first ρ
look (suc i) ρ = look i (others ρ)

abbrev pub value : Exp → List ℤ → ℤ
value (con k) ρ = k
value (var i) ρ = look i ρ
value (add a b) ρ = value a ρ +ℤ value b ρ
value (mul a b) ρ = value a ρ *ℤ value b ρ
value (neg a) ρ = neg_ℤ (value a ρ)

-- ---- normal forms

pub data Poly : Type 0 where
  constant : ℤ → Poly
  horner : Poly → Poly → Poly

abbrev pub poly-value : Poly → List ℤ → ℤ
poly-value (constant k) ρ = k
poly-value (horner p q) ρ = poly-value p (others ρ) +ℤ first ρ *ℤ poly-value q ρ

abbrev pub plus-constant : ℤ → Poly → Poly
plus-constant k (constant j) = constant (k +ℤ j)
plus-constant k (horner p q) = horner (plus-constant k p) q

abbrev pub plus : Poly → Poly → Poly
plus (constant k) r = plus-constant k r
plus (horner p q) (constant k) = horner (plus-constant k p) q
plus (horner p q) (horner p' q') = horner (plus p p') (plus q q')

abbrev pub scale : ℤ → Poly → Poly
scale k (constant j) = constant (k *ℤ j)
scale k (horner p q) = horner (scale k p) (scale k q)

-- a product by a polynomial without the first variable, which f multiplies by
abbrev pub times-others : (Poly → Poly) → Poly → Poly
times-others f (constant k) = horner (f (constant k)) (constant (pos zero))
times-others f (horner p q) = horner (f p) (times-others f q)

abbrev pub times : Poly → Poly → Poly
times (constant k) r = scale k r
times (horner p q) r = plus (times-others (times p) r) (horner (constant (pos zero)) (times q r))

abbrev pub variable : ℕ → Poly
variable zero = horner (constant (pos zero)) (constant (pos 1))
variable (suc i) = horner (variable i) (constant (pos zero))

abbrev pub normal : Exp → Poly
normal (con k) = constant k
normal (var i) = variable i
normal (add a b) = plus (normal a) (normal b)
normal (mul a b) = times (normal a) (normal b)
normal (neg a) = scale (negsuc zero) (normal a)

abbrev pub is_zero : Poly → Bool
is_zero (constant (pos zero)) = true
is_zero (constant (pos (suc n))) = false
is_zero (constant (negsuc n)) = false
is_zero (horner p q) = is_zero p && is_zero q

-- ---- a normal form denotes what its expression does

plus-constant-sound : (k : ℤ) (p : Poly) (ρ : List ℤ) → poly-value (plus-constant k p) ρ ≡ k +ℤ poly-value p ρ
plus-constant-sound k (constant j) ρ = refl
plus-constant-sound k (horner p q) ρ =
    ap (λ z. z +ℤ first ρ *ℤ poly-value q ρ) (plus-constant-sound k p (others ρ)) ∙ +ℤ_assoc k (poly-value p (others ρ)) (first ρ *ℤ poly-value q ρ)

cross : (x a b c d : ℤ) → (a +ℤ b) +ℤ x *ℤ (c +ℤ d) ≡ (a +ℤ x *ℤ c) +ℤ (b +ℤ x *ℤ d)
cross x a b c d = rw (*ℤ-+ℤ x c d) (simp sum-ac)

plus-sound : (p r : Poly) (ρ : List ℤ) → poly-value (plus p r) ρ ≡ poly-value p ρ +ℤ poly-value r ρ
plus-sound (constant k) r ρ = plus-constant-sound k r ρ
plus-sound (horner p q) (constant k) ρ = plus-constant-sound k (horner p q) ρ ∙ +ℤ_comm k (poly-value (horner p q) ρ)
plus-sound (horner p q) (horner p' q') ρ =
    ap₂ (λ y z. y +ℤ first ρ *ℤ z) (plus-sound p p' (others ρ)) (plus-sound q q' ρ)
    ∙ cross (first ρ) (poly-value p (others ρ)) (poly-value p' (others ρ)) (poly-value q ρ) (poly-value q' ρ)

scaled : (k a x b : ℤ) → k *ℤ a +ℤ x *ℤ (k *ℤ b) ≡ k *ℤ (a +ℤ x *ℤ b)
scaled k a x b = ap (λ z. k *ℤ a +ℤ z) (*ℤ-left-comm x k b) ∙ sym (*ℤ-+ℤ k a (x *ℤ b))

scale-sound : (k : ℤ) (p : Poly) (ρ : List ℤ) → poly-value (scale k p) ρ ≡ k *ℤ poly-value p ρ
scale-sound k (constant j) ρ = refl
scale-sound k (horner p q) ρ =
    ap₂ (λ y z. y +ℤ first ρ *ℤ z) (scale-sound k p (others ρ)) (scale-sound k q ρ)
    ∙ scaled k (poly-value p (others ρ)) (first ρ) (poly-value q ρ)

times-others-sound : (f : Poly → Poly) (m : ℤ) (r : Poly) (ρ : List ℤ) → ((s : Poly) → poly-value (f s) (others ρ) ≡ m *ℤ poly-value s (others ρ)) → poly-value (times-others f r) ρ ≡ m *ℤ poly-value r ρ
times-others-sound f m (constant k) ρ h = ap₂ (λ y z. y +ℤ z) (h (constant k)) (*ℤ-zero (first ρ)) ∙ +ℤ_idr (m *ℤ k)
times-others-sound f m (horner p q) ρ h =
    ap₂ (λ y z. y +ℤ first ρ *ℤ z) (h p) (times-others-sound f m q ρ h)
    ∙ scaled m (poly-value p (others ρ)) (first ρ) (poly-value q ρ)

shifted : (a x b r : ℤ) → a *ℤ r +ℤ (pos zero +ℤ x *ℤ (b *ℤ r)) ≡ (a +ℤ x *ℤ b) *ℤ r
shifted a x b r =
    ap (λ z. a *ℤ r +ℤ z) (+ℤ_idl (x *ℤ (b *ℤ r)) ∙ sym (*ℤ-assoc x b r)) ∙ sym (+ℤ-*ℤ a (x *ℤ b) r)

times-sound : (p r : Poly) (ρ : List ℤ) → poly-value (times p r) ρ ≡ poly-value p ρ *ℤ poly-value r ρ
times-sound (constant k) r ρ = scale-sound k r ρ
times-sound (horner p q) r ρ =
    plus-sound (times-others (times p) r) (horner (constant (pos zero)) (times q r)) ρ
    ∙ ap₂ (λ y z. y +ℤ (pos zero +ℤ first ρ *ℤ z))
    (times-others-sound (times p) (poly-value p (others ρ)) r ρ (λ s. times-sound p s (others ρ)))
    (times-sound q r ρ)
    ∙ shifted (poly-value p (others ρ)) (first ρ) (poly-value q ρ) (poly-value r ρ)

times-one : (x : ℤ) → x *ℤ pos 1 ≡ x
times-one (pos n) = ap pos (mul-one n)
times-one (negsuc n) = ap (λ z. neg_ℤ (pos z)) (mul-one (suc n))

variable-sound : (i : ℕ) (ρ : List ℤ) → poly-value (variable i) ρ ≡ look i ρ
variable-sound zero ρ = +ℤ_idl (first ρ *ℤ pos 1) ∙ times-one (first ρ)
variable-sound (suc i) ρ = ap₂ (λ y z. y +ℤ z) (variable-sound i (others ρ)) (*ℤ-zero (first ρ)) ∙ +ℤ_idr (look i (others ρ))

minus_one : (x : ℤ) → negsuc zero *ℤ x ≡ neg_ℤ x
minus_one x = negℤ-*ℤ (pos 1) x ∙ ap neg_ℤ (*ℤ_comm (pos 1) x ∙ times-one x)

pub sound : (e : Exp) (ρ : List ℤ) → poly-value (normal e) ρ ≡ value e ρ
sound (con k) ρ = refl
sound (var i) ρ = variable-sound i ρ
sound (add a b) ρ = plus-sound (normal a) (normal b) ρ ∙ ap₂ ◌+ℤ◌ (sound a ρ) (sound b ρ)
sound (mul a b) ρ = times-sound (normal a) (normal b) ρ ∙ ap₂ ◌*ℤ◌ (sound a ρ) (sound b ρ)
sound (neg a) ρ = scale-sound (negsuc zero) (normal a) ρ ∙ minus_one (poly-value (normal a) ρ) ∙ ap neg_ℤ (sound a ρ)

zero-sound : (p : Poly) (ρ : List ℤ) → T (is_zero p) → poly-value p ρ ≡ pos zero
zero-sound (constant (pos zero)) ρ t = refl
zero-sound (constant (pos (suc n))) ρ t = absurd t
zero-sound (constant (negsuc n)) ρ t = absurd t
zero-sound (horner p q) ρ t =
    ap₂ (λ y z. y +ℤ first ρ *ℤ z) (zero-sound p (others ρ) (and_yes (is_zero p) (is_zero q) t).0) (zero-sound q ρ (and_yes (is_zero p) (is_zero q) t).1)
    ∙ +ℤ_idl (first ρ *ℤ pos zero)
    ∙ *ℤ-zero (first ρ)

-- ---- quoting

-- a variable of the list, by its place
pub record Variable (ρ : List ℤ) (z : ℤ) : Type 0 where
  pub index : ℕ
  pub found : look index ρ ≡ z

pub record Quote (ρ : List ℤ) (z : ℤ) : Type 0 where
  pub exp : Exp
  pub denotes : value exp ρ ≡ z

abbrev pub var-here : {z : ℤ} {ρ : List ℤ} → Variable (z ∷ ρ) z
var-here = record { index = zero; found = refl }

abbrev pub var-there : {x z : ℤ} {ρ : List ℤ} → Variable ρ z → Variable (x ∷ ρ) z
var-there v = record { index = suc v.index; found = v.found }

abbrev pub quote-var : {z : ℤ} {ρ : List ℤ} → Variable ρ z → Quote ρ z
quote-var v = record { exp = var v.index; denotes = v.found }

-- a numeral: the test computes at numerals only
abbrev pub quote-pos : {ρ : List ℤ} (n : ℕ) → T (eqb n n) → Quote ρ (pos n)
quote-pos n t = record { exp = con (pos n); denotes = refl }

abbrev pub quote-negsuc : {ρ : List ℤ} (n : ℕ) → T (eqb n n) → Quote ρ (negsuc n)
quote-negsuc n t = record { exp = con (negsuc n); denotes = refl }

abbrev pub quote-add : {ρ : List ℤ} (a b : ℤ) → Quote ρ a → Quote ρ b → Quote ρ (a +ℤ b)
quote-add a b p q = record { exp = add p.exp q.exp; denotes = ap₂ ◌+ℤ◌ p.denotes q.denotes }

abbrev pub quote-mul : {ρ : List ℤ} (a b : ℤ) → Quote ρ a → Quote ρ b → Quote ρ (a *ℤ b)
quote-mul a b p q = record { exp = mul p.exp q.exp; denotes = ap₂ ◌*ℤ◌ p.denotes q.denotes }

abbrev pub quote-neg : {ρ : List ℤ} (a : ℤ) → Quote ρ a → Quote ρ (neg_ℤ a)
quote-neg a p = record { exp = neg p.exp; denotes = ap neg_ℤ p.denotes }

-- `pos m +ℤ pos n` and `pos m *ℤ pos n` compute to these
abbrev pub quote-pos-add : {ρ : List ℤ} (m n : ℕ) → Quote ρ (pos m) → Quote ρ (pos n) → Quote ρ (pos (m + n))
quote-pos-add m n p q = record { exp = add p.exp q.exp; denotes = ap₂ ◌+ℤ◌ p.denotes q.denotes }

abbrev pub quote-pos-mul : {ρ : List ℤ} (m n : ℕ) → Quote ρ (pos m) → Quote ρ (pos n) → Quote ρ (pos (m * n))
quote-pos-mul m n p q = record { exp = mul p.exp q.exp; denotes = ap₂ ◌*ℤ◌ p.denotes q.denotes }

pub ruleset quote = (var-here, var-there, quote-var, quote-pos, quote-negsuc, quote-add, quote-mul, quote-neg, quote-pos-add, quote-pos-mul, tt)

pub ring : (ρ : List ℤ) {a b : ℤ} (p : Quote ρ a) (q : Quote ρ b) → T (is_zero (normal (add p.exp (neg q.exp)))) → a ≡ b
ring ρ {a} {b} p q t =
    sym p.denotes
    ∙ eq-of-difference (value p.exp ρ) (value q.exp ρ)
    (sym (sound (add p.exp (neg q.exp)) ρ) ∙ zero-sound (normal (add p.exp (neg q.exp))) ρ t)
    ∙ q.denotes
