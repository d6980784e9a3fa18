-- The places of a store one after the other, as loops go over them.
--     place-cut, name-cut                  a place and its name, as the code cuts them out
--     next_place, no_place, places-left    the places from k on
--     named, none_named, unnamed           `first_named` from k on
--     valid-next, valid-end                `valid_places` from k on
-- Assumes nothing.
use mathlib.Core.Path.{◌≡◌, sym, ap, subst, ◌∙◌}
use mathlib.Core.Bool.{Bool, true, false, not, cond, ◌&&◌}
use mathlib.Core.List.{List, [], ◌∷◌}
use Prim.Native.Nat.{ℕ, suc, ◌+◌, ◌-◌, ◌*◌, ◌≤◌, ◌<◌}
use native.Mathlib.Numerals.{add-one}
use native.Mathlib.Omega.{arith}
use borrow.Author.Tests.{lt-ltb, le-ltb}
use lib.Dec.{ltb}
use lib.ListN.{length, take, drop, length-drop, drop_of_length-le}
use lib.Seq.{drop-cons, take-take}
use Rattle.store.specs.Names.{name_length, same_bytes}
use Rattle.store.specs.Form.{place_length, place_count, name_in, place_at, places, first_named, is_named, valid_places}
use Rattle.std.specs.Prelude.{Option, Some, None}
use Rattle.std.specs.Option.{is_some}
use Rattle.store.specs.Internal.{valid_at, Found}
use Rattle.store.proofs.Stores.{places-long, place_is}

module _ (store : List ℕ) where
  -- ---- a place

  room : (at n : ℕ) → at + n - at ≡ n
  room at n = omega arith

  pub place-cut : (k : ℕ) → take (place_length * k + place_length - place_length * k) (drop (place_length * k) store) ≡ place_at store k
  unfolding place_at
  place-cut k = ap (λ n. take n (drop (place_length * k) store)) (room (place_length * k) place_length)

  pub name-cut : (k : ℕ) → take (place_length * k + name_length - place_length * k) (drop (place_length * k) store) ≡ name_in (place_at store k)
  unfolding place_at
  name-cut k =
      ap (λ n. take n (drop (place_length * k) store)) (room (place_length * k) name_length)
      ∙ sym (take-take name_length place_length (drop (place_length * k) store) (omega arith))

  -- ---- the places from k on

  next_place : (k : ℕ) → k < place_count → drop k (places store) ≡ place_at store k ∷ drop (suc k) (places store)
  next_place k h =
      drop-cons (places store) k [] (omega (arith, places-long store))
      ∙ ap (λ p. p ∷ drop (suc k) (places store)) (place_is store k h)

  no_place : (k : ℕ) → place_count ≤ k → drop k (places store) ≡ []
  no_place k h = drop_of_length-le (places store) {i = k} (omega (arith, places-long store))

  places-left : (k : ℕ) → length (drop k (places store)) ≡ place_count - k
  places-left k = length-drop k (places store) ∙ ap (λ n. n - k) (places-long store)

  pub named : (k : ℕ) (held : List ℕ) {t : Bool} → k < place_count → same_bytes (name_in (place_at store k)) held ≡ t → first_named held (drop k (places store)) ≡ cond t 0 (suc (first_named held (drop (suc k) (places store))))
  unfolding first_named
  named k held h e =
      ap (first_named held) (next_place k h)
      ∙ ap (λ t. cond t 0 (suc (first_named held (drop (suc k) (places store))))) e

  pub none_named : (k : ℕ) (held : List ℕ) → place_count ≤ k → first_named held (drop k (places store)) ≡ 0
  unfolding first_named
  none_named k held h = ap (first_named held) (no_place k h)

  -- the search from k + 1 on finds a place with the name, or none
  pub unnamed : (k : ℕ) (held : List ℕ) (r : Option ℕ) {t : Bool} → k < place_count → Found (k + 1 + first_named held (drop (k + 1) (places store))) r → is_some r ≡ not t → t ≡ not (is_named held (drop (suc k) (places store)))
  unnamed k held r {t} h e is =
      turned t is
      ∙ ap not (there (suc k) (first_named held (drop (suc k) (places store))) r h (subst (λ n. Found (n + first_named held (drop n (places store))) r) (add-one k) e))
      ∙ ap (λ n. not (ltb (first_named held (drop (suc k) (places store))) n)) (sym (places-left (suc k)))
    where
      turned : {s : Bool} (t : Bool) → s ≡ not t → t ≡ not s
      turned true e = ap not (sym e)
      turned false e = ap not (sym e)

      there : (n f : ℕ) (r : Option ℕ) → n ≤ place_count → Found (n + f) r → is_some r ≡ ltb f (place_count - n)
      there n f None h e = sym (le-ltb f (place_count - n) (omega arith))
      there n f (Some k) h e = sym (lt-ltb f (place_count - n) (omega (arith, e.0, e.1)))

  pub valid-next : (k : ℕ) {t : Bool} → k < place_count → valid_at store k ≡ t → valid_places (drop k (places store)) ≡ (t && valid_places (drop (suc k) (places store)))
  unfolding valid_places
  valid-next k h e = ap valid_places (next_place k h) ∙ ap (λ t. t && valid_places (drop (suc k) (places store))) e

  pub valid-end : (k : ℕ) → place_count ≤ k → valid_places (drop k (places store)) ≡ true
  unfolding valid_places
  valid-end k h = ap valid_places (no_place k h)
