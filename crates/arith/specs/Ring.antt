-- The commutative ring of the integers of lib.IntN, as far as that module leaves it open, and what follows at once.
--     ℤ-steps                              induction by successor and predecessor
--     *ℤ-assoc, *ℤ-+ℤ, +ℤ-*ℤ               the product associates and distributes
--     negℤ-*ℤ                              a sign moves out of a product
--     +ℤ-left-comm, *ℤ-left-comm           for sorting
--     sum-ac                               a ruleset: a sum is sorted
--     eq-of-difference                     two integers are equal where their difference is zero
-- Assumes nothing.
use Rattle.std.specs.Prelude.{◌≡◌, zero, suc, ℤ, pos, negsuc, neg_ℤ, ◌+ℤ◌, ◌-ℤ◌, ◌*ℤ◌}
use Rattle.std.proofs.Common.{sym, ap, ◌∙◌}
use Rattle.std.proofs.Math.IntN.{suc_ℤ, pred_ℤ, +ℤ_assoc, +ℤ_comm, +ℤ_idl, +ℤ_idr, +ℤ_invr, +ℤ_invl, suc_ℤ-+ℤ, pred_ℤ-+ℤ, suc_ℤ-*ℤ, pred_ℤ-*ℤ, zero-*ℤ, *ℤ_comm, neg_ℤ-neg_ℤ}

pub ℤ-steps : (P : ℤ → Type 0) → P (pos zero) → ((m : ℤ) → P m → P (suc_ℤ m)) → ((m : ℤ) → P m → P (pred_ℤ m)) → (k : ℤ) → P k
ℤ-steps P z s p (pos zero) = z
ℤ-steps P z s p (pos (suc n)) = s (pos n) (ℤ-steps P z s p (pos n))
ℤ-steps P z s p (negsuc zero) = p (pos zero) z
ℤ-steps P z s p (negsuc (suc n)) = p (negsuc n) (ℤ-steps P z s p (negsuc n))

pub +ℤ-left-comm : (a b c : ℤ) → a +ℤ (b +ℤ c) ≡ b +ℤ (a +ℤ c)
+ℤ-left-comm a b c = sym (+ℤ_assoc a b c) ∙ ap (λ s. s +ℤ c) (+ℤ_comm a b) ∙ +ℤ_assoc b a c

pub ruleset sum-ac = (+ℤ_assoc, +ℤ_comm, +ℤ-left-comm)

swap-last : (a b c : ℤ) → a +ℤ b +ℤ c ≡ a +ℤ c +ℤ b
swap-last a b c = simp sum-ac

pub +ℤ-*ℤ : (a b c : ℤ) → (a +ℤ b) *ℤ c ≡ a *ℤ c +ℤ b *ℤ c
+ℤ-*ℤ a b c =
    ℤ-steps (λ z. (z +ℤ b) *ℤ c ≡ z *ℤ c +ℤ b *ℤ c)
    (ap (λ z. z *ℤ c) (+ℤ_idl b) ∙ sym (+ℤ_idl (b *ℤ c)) ∙ ap (λ z. z +ℤ b *ℤ c) (sym (zero-*ℤ c)))
    (λ m h.
    ap (λ z. z *ℤ c) (suc_ℤ-+ℤ m b)
    ∙ suc_ℤ-*ℤ (m +ℤ b) c
    ∙ ap (λ z. z +ℤ c) h
    ∙ swap-last (m *ℤ c) (b *ℤ c) c
    ∙ ap (λ z. z +ℤ b *ℤ c) (sym (suc_ℤ-*ℤ m c)))
    (λ m h.
    ap (λ z. z *ℤ c) (pred_ℤ-+ℤ m b)
    ∙ pred_ℤ-*ℤ (m +ℤ b) c
    ∙ ap (λ z. z -ℤ c) h
    ∙ swap-last (m *ℤ c) (b *ℤ c) (neg_ℤ c)
    ∙ ap (λ z. z +ℤ b *ℤ c) (sym (pred_ℤ-*ℤ m c)))
    a

pub *ℤ-+ℤ : (a b c : ℤ) → a *ℤ (b +ℤ c) ≡ a *ℤ b +ℤ a *ℤ c
*ℤ-+ℤ a b c = *ℤ_comm a (b +ℤ c) ∙ +ℤ-*ℤ b c a ∙ ap (λ z. z +ℤ c *ℤ a) (*ℤ_comm b a) ∙ ap (λ z. a *ℤ b +ℤ z) (*ℤ_comm c a)

-- the only number that adds to a given one to make zero is its negative
neg_unique : (a b : ℤ) → a +ℤ b ≡ pos zero → a ≡ neg_ℤ b
neg_unique a b h =
    sym (+ℤ_idr a) ∙ ap (λ z. a +ℤ z) (sym (+ℤ_invr b)) ∙ sym (+ℤ_assoc a b (neg_ℤ b)) ∙ ap (λ z. z +ℤ neg_ℤ b) h ∙ +ℤ_idl (neg_ℤ b)

pub negℤ-*ℤ : (a b : ℤ) → neg_ℤ a *ℤ b ≡ neg_ℤ (a *ℤ b)
negℤ-*ℤ a b =
    neg_unique (neg_ℤ a *ℤ b) (a *ℤ b) (sym (+ℤ-*ℤ (neg_ℤ a) a b) ∙ ap (λ z. z *ℤ b) (+ℤ_invl a) ∙ zero-*ℤ b)

pub *ℤ-assoc : (a b c : ℤ) → (a *ℤ b) *ℤ c ≡ a *ℤ (b *ℤ c)
*ℤ-assoc a b c =
    ℤ-steps (λ z. (z *ℤ b) *ℤ c ≡ z *ℤ (b *ℤ c))
    (ap (λ z. z *ℤ c) (zero-*ℤ b) ∙ zero-*ℤ c ∙ sym (zero-*ℤ (b *ℤ c)))
    (λ m h.
    ap (λ z. z *ℤ c) (suc_ℤ-*ℤ m b)
    ∙ +ℤ-*ℤ (m *ℤ b) b c
    ∙ ap (λ z. z +ℤ b *ℤ c) h
    ∙ sym (suc_ℤ-*ℤ m (b *ℤ c)))
    (λ m h.
    ap (λ z. z *ℤ c) (pred_ℤ-*ℤ m b)
    ∙ +ℤ-*ℤ (m *ℤ b) (neg_ℤ b) c
    ∙ ap (λ z. (m *ℤ b) *ℤ c +ℤ z) (negℤ-*ℤ b c)
    ∙ ap (λ z. z -ℤ b *ℤ c) h
    ∙ sym (pred_ℤ-*ℤ m (b *ℤ c)))
    a

pub *ℤ-left-comm : (a b c : ℤ) → a *ℤ (b *ℤ c) ≡ b *ℤ (a *ℤ c)
*ℤ-left-comm a b c = sym (*ℤ-assoc a b c) ∙ ap (λ z. z *ℤ c) (*ℤ_comm a b) ∙ *ℤ-assoc b a c

pub eq-of-difference : (a b : ℤ) → a -ℤ b ≡ pos zero → a ≡ b
eq-of-difference a b h = neg_unique a (neg_ℤ b) h ∙ neg_ℤ-neg_ℤ b
