-- Laws of cleared velocities.
--     length-cleared, cleared-long, cleared_at
--                                      their number, and each of them
--     cleared-cong, cleared-none       two tests that agree; one that clears nothing
--     cleared-twice                    one after the other
--     cleared-part                     a part put back with every element 0
-- Assumes nothing.
use mathlib.Core.Path.{◌≡◌, refl, sym, ap, ap₂, ◌∙◌, subst}
use mathlib.Core.Bool.{Bool, true, false, cond, ◌&&◌, ◌||◌}
use mathlib.Core.List.{List, [], ◌∷◌, ◌++◌, map}
use Prim.Native.Nat.{ℕ, ◌+◌, ◌-◌, ◌≤◌, ◌<◌}
use native.Mathlib.Omega.{arith}
use lib.Dec.{ltb}
use lib.ListN.{length, get_or, take, drop, replicate, length-replicate, get_or-replicate, get_or-append}
use lib.Seq.{ext_get_or, get_or-take, get_or-drop, get_or-append-add, length-take-le}
use lib.IntN.{ℤ, pos}
use borrow.Author.Tests.{ltb-true, ltb-false, lt-ltb, le-ltb, le-leb, lt-leb}
use Rattle.arith.specs.Sums.{up_to, each-up_to}
use Rattle.arith.specs.Lists.{length-tabulated, get_or-tabulated, map_each, mapped, placed, placed-length}
use Rattle.update_rim.specs.Internal.{cleared, in_part}

module _ (at : ℕ → Bool) (u : List ℤ) where
  length-cleared : length (cleared at u) ≡ length u
  unfolding cleared
  length-cleared = length-tabulated (λ k. cond (at k) (pos 0) (get_or u k (pos 0))) (length u)

  pub cleared-long : {v : List ℤ} → v ≡ cleared at u → length v ≡ length u
  cleared-long e = ap length e ∙ length-cleared

  cleared_at : (k : ℕ) → k < length u → get_or (cleared at u) k (pos 0) ≡ cond (at k) (pos 0) (get_or u k (pos 0))
  unfolding cleared
  cleared_at k h = get_or-tabulated (λ k. cond (at k) (pos 0) (get_or u k (pos 0))) (length u) k (pos 0) h

  pub cleared-cong : (at' : ℕ → Bool) → ((k : ℕ) → k < length u → at k ≡ at' k) → cleared at u ≡ cleared at' u
  unfolding cleared
  cleared-cong at' same =
      map_each _ _ (up_to (length u)) (each-up_to _ (length u) (λ k h. ap (λ t. cond t (pos 0) (get_or u k (pos 0))) (same k h)))

  pub cleared-none : ((k : ℕ) → at k ≡ false) → cleared at u ≡ u
  unfolding cleared
  cleared-none none =
      map_each _ _ (up_to (length u)) (each-up_to _ (length u) (λ k h. ap (λ t. cond t (pos 0) (get_or u k (pos 0))) (none k)))
      ∙ mapped (λ v. v) (pos 0) u ∙ all u
    where
      all : (l : List ℤ) → map (λ v. v) l ≡ l
      all [] = refl
      all (v ∷ l) = ap (λ r. v ∷ r) (all l)

pub cleared-twice : (at at' : ℕ → Bool) (u : List ℤ) → cleared at' (cleared at u) ≡ cleared (λ k. at k || at' k) u
cleared-twice at at' u =
    ext_get_or (pos 0) (cleared at' (cleared at u)) (cleared (λ k. at k || at' k) u)
    (long ∙ sym (length-cleared (λ k. at k || at' k) u))
    (λ k h. same k (subst (λ n. k < n) long h))
  where
    long : length (cleared at' (cleared at u)) ≡ length u
    long = length-cleared at' (cleared at u) ∙ length-cleared at u

    nested : (a b : Bool) (v : ℤ) → cond b (pos 0) (cond a (pos 0) v) ≡ cond (a || b) (pos 0) v
    nested true true v = refl
    nested true false v = refl
    nested false b v = refl

    same : (k : ℕ) → k < length u → get_or (cleared at' (cleared at u)) k (pos 0) ≡ get_or (cleared (λ k. at k || at' k) u) k (pos 0)
    same k h =
        cleared_at at' (cleared at u) k (subst (λ n. k < n) (sym (length-cleared at u)) h)
        ∙ ap (λ v. cond (at' k) (pos 0) v) (cleared_at at u k h)
        ∙ nested (at k) (at' k) (get_or u k (pos 0))
        ∙ sym (cleared_at (λ k. at k || at' k) u k h)

-- ---- a part

module _ (from count : ℕ) (u : List ℤ) (room : from + count ≤ length u) where
  abbrev zeros : List ℤ
  zeros = replicate count (pos 0)

  abbrev rest : List ℤ
  rest = drop (from + length zeros) u

  first : length (take from u) ≡ from
  first = length-take-le from u (omega arith)

  before : (k : ℕ) → k < from → get_or (placed u from zeros) k (pos 0) ≡ get_or u k (pos 0)
  before k h = get_or-append (take from u) (zeros ++ rest) (pos 0) k (subst (λ n. k < n) (sym first) h) ∙ get_or-take from u k (pos 0) h

  -- from the part's begin on
  behind : (m : ℕ) → get_or (placed u from zeros) (from + m) (pos 0) ≡ get_or (zeros ++ rest) m (pos 0)
  behind m = ap (λ n. get_or (placed u from zeros) (n + m) (pos 0)) (sym first) ∙ get_or-append-add (take from u) (zeros ++ rest) m (pos 0)

  inside : (m : ℕ) → m < count → get_or (placed u from zeros) (from + m) (pos 0) ≡ pos 0
  inside m h =
      behind m ∙ get_or-append zeros rest (pos 0) m (subst (λ n. m < n) (sym (length-replicate count (pos 0))) h) ∙ get_or-replicate count m (pos 0) (pos 0) h

  past : (m : ℕ) → get_or (placed u from zeros) (from + (count + m)) (pos 0) ≡ get_or u (from + (count + m)) (pos 0)
  past m =
      behind (count + m)
      ∙ ap (λ n. get_or (zeros ++ rest) (n + m) (pos 0)) (sym (length-replicate count (pos 0)))
      ∙ get_or-append-add zeros rest m (pos 0)
      ∙ get_or-drop (from + length zeros) u m (pos 0)
      ∙ ap (λ n. get_or u n (pos 0)) (omega (arith, length-replicate count (pos 0)))

  each : (k : ℕ) → k < length u → get_or (placed u from zeros) k (pos 0) ≡ cond (in_part from count k) (pos 0) (get_or u k (pos 0))
  each k h = go (ltb k from) (ltb k (from + count)) refl refl
    where
      low : k < from → get_or (placed u from zeros) k (pos 0) ≡ cond (in_part from count k) (pos 0) (get_or u k (pos 0))
      low l = before k l ∙ ap (λ t. cond (t && ltb k (from + count)) (pos 0) (get_or u k (pos 0))) (sym (lt-leb from k l))

      middle : from ≤ k → k < from + count → get_or (placed u from zeros) k (pos 0) ≡ cond (in_part from count k) (pos 0) (get_or u k (pos 0))
      middle l m =
          ap (λ n. get_or (placed u from zeros) n (pos 0)) (split k l) ∙ inside (k - from) (omega arith)
          ∙ ap₂ (λ s t. cond (s && t) (pos 0) (get_or u k (pos 0))) (sym (le-leb from k l)) (sym (lt-ltb k (from + count) m))
        where
          split : (k : ℕ) → from ≤ k → k ≡ from + (k - from)
          split k l = omega arith

      high : from ≤ k → from + count ≤ k → get_or (placed u from zeros) k (pos 0) ≡ cond (in_part from count k) (pos 0) (get_or u k (pos 0))
      high l m =
          ap (λ n. get_or (placed u from zeros) n (pos 0)) (split k m) ∙ past (k - (from + count)) ∙ ap (λ n. get_or u n (pos 0)) (sym (split k m))
          ∙ ap₂ (λ s t. cond (s && t) (pos 0) (get_or u k (pos 0))) (sym (le-leb from k l)) (sym (le-ltb k (from + count) m))
        where
          split : (k : ℕ) → from + count ≤ k → k ≡ from + (count + (k - (from + count)))
          split k m = omega arith

      go : (a b : Bool) → ltb k from ≡ a → ltb k (from + count) ≡ b → get_or (placed u from zeros) k (pos 0) ≡ cond (in_part from count k) (pos 0) (get_or u k (pos 0))
      go true b e f = low (ltb-true k from e)
      go false true e f = middle (ltb-false k from e) (ltb-true k (from + count) f)
      go false false e f = high (ltb-false k from e) (ltb-false k (from + count) f)

  pub cleared-part : placed u from zeros ≡ cleared (in_part from count) u
  cleared-part =
      ext_get_or (pos 0) (placed u from zeros) (cleared (in_part from count) u)
      (long ∙ sym (length-cleared (in_part from count) u))
      (λ k h. let l : k < length u = subst (λ n. k < n) long h in each k l ∙ sym (cleared_at (in_part from count) u k l))
    where
      long : length (placed u from zeros) ≡ length u
      long = placed-length u from zeros (subst (λ n. from + n ≤ length u) (sym (length-replicate count (pos 0))) room)
