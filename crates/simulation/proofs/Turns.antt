-- Back and forth between two arrays.
--     swap                        one step more exchanges the arrays
--     current-length              two arrays of one length
--     Home                        what the way home asks
-- Assumes nothing.
use mathlib.Core.Path.{◌≡◌, refl, sym, ap, ◌∙◌}
use mathlib.Core.Bool.{Bool, true, false, cond}
use mathlib.Core.List.{List}
use Prim.Native.Nat.{ℕ, suc, ◌*◌, ◌/◌, ◌%◌}
use native.Mathlib.Omega.{arith}
use lib.Dec.{eqb}
use lib.ListN.{length}
use lib.IntN.{ℤ}
use borrow.Author.Tests.{eqb-true, eqb-false, eq-eqb, ne_eqb}
use Rattle.particle.specs.Layout.{record_length}
use Rattle.unpacked.specs.Unpacked.{per_particle}
use Rattle.packing.specs.Packing.{Packable}
use Rattle.simulation.specs.Internal.{current, other}

module _ (k : ℕ) (a b : List ℤ) where
  pub even : k % 2 ≡ 0 → current k a b ≡ a
  even e = ap (λ t. cond t a b) (eq-eqb (k % 2) 0 e)

  pub odd : (k % 2 ≡ 0 → ⊥) → current k a b ≡ b
  odd e = ap (λ t. cond t a b) (ne_eqb (k % 2) 0 e)

pub swap : (k : ℕ) (a b : List ℤ) → current (suc k) a b ≡ other k a b
swap k a b = go (eqb (k % 2) 0) refl
  where
    odd-next : k % 2 ≡ 0 → suc k % 2 ≡ 0 → ⊥
    odd-next e f = omega arith

    even-next : (k % 2 ≡ 0 → ⊥) → suc k % 2 ≡ 0
    even-next e = omega arith

    go : (t : Bool) → eqb (k % 2) 0 ≡ t → current (suc k) a b ≡ other k a b
    go true e =
        let h = eqb-true (k % 2) 0 e in
        odd (suc k) a b (odd-next h) ∙ sym (even k b a h)
    go false e =
        let h = eqb-false (k % 2) 0 e in
        even (suc k) a b (even-next h) ∙ sym (odd k b a h)

pub current-length : {n : ℕ} (k : ℕ) (a b : List ℤ) → length a ≡ n → length b ≡ n → length (current k a b) ≡ n
current-length {n} k a b e f = go (eqb (k % 2) 0)
  where
    go : (t : Bool) → length (cond t a b) ≡ n
    go true = e
    go false = f

-- ---- the way home

-- what the function that packs asks
abbrev pub Home : List ℕ → List ℤ → Type 0
Home records l = Packable l × (length records ≡ record_length * (length l / per_particle))
