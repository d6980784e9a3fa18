-- Three numbers at neighbouring places, and 0 at every other.
--     neighbours                            u, v and w at places c − 1, c and c + 1
--     by_place, Place, place                a place is another or is not; it is one of the three or far from them
--     at-lower, at-nearest, at-upper, at-far
--                                           what stands there
--     by-neighbour                          what holds of each of the three and of 0
--     neighbours-inside                     what keeps 0 may go inside
--     neighbours-sum                        a sum over a range of what keeps 0 is a sum over the three
-- Assumes nothing.
use Rattle.std.specs.Prelude.{◌≡◌, refl, Bool, true, false, cond, ℕ, ◌+◌, ◌-◌, ◌<◌, ◌≤◌, eqb, ℤ, pos, ◌+ℤ◌}
use Rattle.std.proofs.Common.{sym, ap, ap₂, ◌∙◌, arith}
use borrow.Author.Tests.{eqb-true, eqb-false, eq-eqb, ne_eqb}
use Rattle.arith.specs.Sums.{sum_over, up_to, sum-three}

unfoldable pub neighbours : ℕ → ℤ → ℤ → ℤ → ℕ → ℤ
neighbours c u v w i = cond (eqb (i + 1) c) u (cond (eqb i c) v (cond (eqb i (c + 1)) w (pos 0)))

-- ---- places

pub by_place : (m k : ℕ) (P : Type 0) → (m ≡ k → P) → ((m ≡ k → ⊥) → P) → P
by_place m k P here else = go (eqb m k) refl
  where
    go : (b : Bool) → eqb m k ≡ b → P
    go true e = here (eqb-true m k e)
    go false e = else (eqb-false m k e)

pub data Place (c i : ℕ) : Type 0 where
  lower : i + 1 ≡ c → Place c i
  nearest : i ≡ c → Place c i
  upper : i ≡ c + 1 → Place c i
  far : (i + 1 ≡ c → ⊥) → (i ≡ c → ⊥) → (i ≡ c + 1 → ⊥) → Place c i

pub place : (c i : ℕ) → Place c i
place c i =
    by_place (i + 1) c (Place c i) lower
    (λ a. by_place i c (Place c i) nearest (λ b. by_place i (c + 1) (Place c i) upper (λ d. far a b d)))

module _ (c : ℕ) (u v w : ℤ) (i : ℕ) where
  pub at-lower : i + 1 ≡ c → neighbours c u v w i ≡ u
  unfolding neighbours
  at-lower e = rw (eq-eqb (i + 1) c e)

  pub at-nearest : i ≡ c → neighbours c u v w i ≡ v
  unfolding neighbours
  at-nearest e = rw (ne_eqb (i + 1) c (λ f. omega arith), eq-eqb i c e)

  pub at-upper : i ≡ c + 1 → neighbours c u v w i ≡ w
  unfolding neighbours
  at-upper e = rw (ne_eqb (i + 1) c (λ f. omega arith), ne_eqb i c (λ f. omega arith), eq-eqb i (c + 1) e)

  pub at-far : (i + 1 ≡ c → ⊥) → (i ≡ c → ⊥) → (i ≡ c + 1 → ⊥) → neighbours c u v w i ≡ pos 0
  unfolding neighbours
  at-far a b d = rw (ne_eqb (i + 1) c a, ne_eqb i c b, ne_eqb i (c + 1) d)

  -- what holds of each of the three and of 0
  pub by-neighbour : (P : ℤ → Type 0) → (i + 1 ≡ c → P u) → (i ≡ c → P v) → (i ≡ c + 1 → P w) → P (pos 0) → P (neighbours c u v w i)
  by-neighbour P p q r none = go (place c i)
    where
      go : Place c i → P (neighbours c u v w i)
      go (lower e) = rw (at-lower e) (p e)
      go (nearest e) = rw (at-nearest e) (q e)
      go (upper e) = rw (at-upper e) (r e)
      go (far a b d) = rw (at-far a b d) none

-- ---- what keeps 0

module _ (f : ℕ → ℤ → ℤ) (keeps : (i : ℕ) → f i (pos 0) ≡ pos 0) (c : ℕ) (u v w : ℤ) where
  pub neighbours-inside : (i : ℕ) → 1 ≤ c → f i (neighbours c u v w i) ≡ neighbours c (f (c - 1) u) (f c v) (f (c + 1) w) i
  neighbours-inside i h = go (place c i)
    where
      before : i + 1 ≡ c → i ≡ c - 1
      before e = omega arith

      go : Place c i → f i (neighbours c u v w i) ≡ neighbours c (f (c - 1) u) (f c v) (f (c + 1) w) i
      go (lower e) = ap₂ f (before e) (at-lower c u v w i e) ∙ sym (at-lower c (f (c - 1) u) (f c v) (f (c + 1) w) i e)
      go (nearest e) = ap₂ f e (at-nearest c u v w i e) ∙ sym (at-nearest c (f (c - 1) u) (f c v) (f (c + 1) w) i e)
      go (upper e) = ap₂ f e (at-upper c u v w i e) ∙ sym (at-upper c (f (c - 1) u) (f c v) (f (c + 1) w) i e)
      go (far a b d) =
          ap (f i) (at-far c u v w i a b d) ∙ keeps i ∙ sym (at-far c (f (c - 1) u) (f c v) (f (c + 1) w) i a b d)

  pub neighbours-sum : (n : ℕ) → 1 ≤ c → c + 1 < n → sum_over (up_to n) (λ i. f i (neighbours c u v w i)) ≡ f (c - 1) u +ℤ f c v +ℤ f (c + 1) w
  neighbours-sum n low high =
      sum-three (λ i. f i (neighbours c u v w i)) c n low high
      (λ i below. ap (f i) (at-far c u v w i (λ e. omega arith) (λ e. omega arith) (λ e. omega arith)) ∙ keeps i)
      (λ i above. ap (f i) (at-far c u v w i (λ e. omega arith) (λ e. omega arith) (λ e. omega arith)) ∙ keeps i)
      ∙ ap₂ ◌+ℤ◌
      (ap₂ ◌+ℤ◌ (ap (f (c - 1)) (at-lower c u v w (c - 1) (omega arith))) (ap (f c) (at-nearest c u v w c refl)))
      (ap (f (c + 1)) (at-upper c u v w (c + 1) refl))
