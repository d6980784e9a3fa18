-- `all_zero` by the bits of all bytes, and block by block.
--     zero-joined                the bits that are joined are none where each byte has none
--     zero-blocks, zero-found    so many whole blocks, and what is left behind them
-- Assumes nothing.
use mathlib.Core.Path.{◌≡◌, refl, sym, ap, ap₂, ◌∙◌}
use mathlib.Core.Bool.{Bool, true, false, ◌&&◌, and-true, and_assoc}
use mathlib.Core.List.{List, [], ◌∷◌}
use Prim.Native.Nat.{ℕ, zero, suc, ◌+◌, ◌*◌}
use native.Mathlib.Omega.{arith}
use borrow.Author.Tests.{eqb-true, eqb-false, eq-eqb, ne_eqb}
use lib.Bits.{bit_or, or_add_and, and_le_l, and_le_r, or_zero_l}
use lib.Dec.{eqb}
use lib.ListN.{take, drop, take-append-drop}
use lib.Seq.{drop-drop}
use Rattle.std.specs.List.{fold, list_all}
use Rattle.std.specs.Simd.{first_chunks}
use Rattle.store.specs.Names.{all_zero}
use Rattle.store.proofs.Bytes.{zero-append}

or-zero : (a b : ℕ) → eqb (bit_or a b) 0 ≡ (eqb a 0 && eqb b 0)
or-zero a b = go (eqb a 0) refl (eqb b 0) refl
  where
    go : (s : Bool) → eqb a 0 ≡ s → (t : Bool) → eqb b 0 ≡ t → eqb (bit_or a b) 0 ≡ (s && t)
    go true e true f = eq-eqb (bit_or a b) 0 (ap₂ bit_or (eqb-true a 0 e) (eqb-true b 0 f) ∙ or_zero_l 0)
    go true e false f = ne_eqb (bit_or a b) 0 (λ z. eqb-false b 0 f (omega (arith, z, or_add_and a b, and_le_l a b, and_le_r a b)))
    go false e t f = ne_eqb (bit_or a b) 0 (λ z. eqb-false a 0 e (omega (arith, z, or_add_and a b, and_le_l a b, and_le_r a b)))

pub zero-joined : (l : List ℕ) (a : ℕ) → eqb (fold bit_or a l) 0 ≡ (eqb a 0 && all_zero l)
unfolding all_zero
zero-joined [] a = sym (and-true (eqb a 0))
zero-joined (b ∷ l) a = zero-joined l (bit_or a b) ∙ ap (λ t. t && all_zero l) (or-zero a b) ∙ and_assoc (eqb a 0) (eqb b 0) (all_zero l)

pub zero-blocks : (n k : ℕ) (l : List ℕ) → (list_all all_zero (first_chunks n k l) && all_zero (drop (k * n) l)) ≡ all_zero l
zero-blocks n zero l = ap (λ m. all_zero (drop m l)) {x = 0 * n} {y = 0} (omega arith)
zero-blocks n (suc k) l =
    and_assoc (all_zero (take n l)) (list_all all_zero (first_chunks n k (drop n l))) (all_zero (drop (suc k * n) l))
    ∙ ap (λ r. all_zero (take n l) && (list_all all_zero (first_chunks n k (drop n l)) && all_zero r)) rest
    ∙ ap (λ t. all_zero (take n l) && t) (zero-blocks n k (drop n l))
    ∙ sym (zero-append (take n l) (drop n l))
    ∙ ap all_zero (take-append-drop n l)
  where
    rest : drop (suc k * n) l ≡ drop (k * n) (drop n l)
    rest = ap (λ m. drop m l) {x = suc k * n} {y = n + k * n} (omega arith) ∙ sym (drop-drop (k * n) n l)

-- by what is found of the blocks
pub zero-found : (n k : ℕ) (l : List ℕ) {blocks : List (List ℕ)} {rest : List ℕ} {t : Bool} → blocks ≡ first_chunks n k l → rest ≡ drop (k * n) l → t ≡ list_all all_zero blocks → (t && all_zero rest) ≡ all_zero l
zero-found n k l {rest = rest} p q e =
    ap (λ t. t && all_zero rest) e
    ∙ ap₂ (λ b r. list_all all_zero b && all_zero r) p q
    ∙ zero-blocks n k l
