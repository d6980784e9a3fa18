-- A list whose first k elements are those of a function of the index, and whose rest is as it was: what a loop that stores
-- one element a turn has made. Assumes nothing.
use Rattle.std.specs.Prelude.{◌≡◌, ℕ, suc, ◌+◌, ◌<◌, length, get_or}
use Rattle.std.proofs.Math.Path.{refl, sym, ap}
use Rattle.std.proofs.Common.{ap₂, ◌∙◌, zero-add, add-one, drop-cons}
use mathlib.Core.List.{List, [], ◌∷◌, ◌++◌, map, map-append, append-nil, append_assoc}
use Rattle.std.proofs.Math.ListN.{set, drop}
use Rattle.std.proofs.lemmas.List.{length-map, get_or_at, set-get_or}
use Rattle.std.proofs.Math.Seq.{drop-length, set_at}
use Rattle.arith.specs.Sums.{up_to, from, from-append, length_from}

module _ {A : Type 0} (f : ℕ → A) where
  unfoldable pub filled : ℕ → List A → List A
  filled k l = map f (up_to k) ++ drop k l

  first : (k : ℕ) → length (map f (up_to k)) ≡ k
  first k = length-map (up_to k) f ∙ length_from 0 k

  pub filled_none : (l : List A) → l ≡ filled 0 l
  unfolding filled
  filled_none l = refl

  pub filled-all : (l : List A) (n : ℕ) → length l ≡ n → filled n l ≡ map f (up_to n)
  unfolding filled
  filled-all l n e =
      ap (λ r. map f (up_to n) ++ r) (ap (λ m. drop m l) (sym e) ∙ drop-length l) ∙ append-nil (map f (up_to n))

  -- the next element is as it was, and what is stored there
  module _ (d : A) (l : List A) (k : ℕ) (h : k < length l) where
    split : filled k l ≡ map f (up_to k) ++ get_or l k d ∷ drop (suc k) l
    unfolding filled
    split = ap (λ r. map f (up_to k) ++ r) (drop-cons l k d h)

    pub filled-read : get_or (filled k l) k d ≡ get_or l k d
    filled-read = ap (λ r. get_or r k d) split ∙ get_or_at (map f (up_to k)) (get_or l k d) (drop (suc k) l) d k (first k)

    pub filled_more : set (filled k l) k (f k) ≡ filled (k + 1) l
    unfolding filled
    filled_more = ap (λ r. set r k (f k)) split ∙ set_at (map f (up_to k)) (get_or l k d) (drop (suc k) l) (f k) k (first k) ∙ sym next
      where
        one_more : map f (up_to (k + 1)) ≡ map f (up_to k) ++ f k ∷ []
        one_more = ap (map f) (from-append 0 k 1) ∙ map-append f (up_to k) (from (0 + k) 1) ∙ ap (λ j. map f (up_to k) ++ f j ∷ []) (zero-add k)

        next : map f (up_to (k + 1)) ++ drop (k + 1) l ≡ map f (up_to k) ++ f k ∷ drop (suc k) l
        next = ap₂ ◌++◌ one_more (ap (λ m. drop m l) (add-one k)) ∙ append_assoc (map f (up_to k)) (f k ∷ []) (drop (suc k) l)

    -- an element that is already what would be stored
    pub filled-kept : f k ≡ get_or l k d → filled k l ≡ filled (k + 1) l
    filled-kept e = sym (set-get_or (filled k l) k d) ∙ ap (λ a. set (filled k l) k a) (filled-read ∙ sym e) ∙ filled_more
