-- A store of zeros is of its form and holds nothing: `zeros-are-empty`. Assumes nothing.
use mathlib.Core.Path.{◌≡◌, refl, sym, ap, ap₂, subst, ◌∙◌}
use mathlib.Core.Bool.{Bool, true, false, cond, ◌&&◌, ◌||◌, not}
use mathlib.Core.List.{List, [], ◌∷◌}
use mathlib.Core.Option.{none, some}
use Prim.Native.Nat.{ℕ, suc, ◌*◌, ◌<◌}
use native.Mathlib.Omega.{arith}
use lib.ListN.{drop, length-replicate}
use Rattle.arith.specs.Sums.{Each}
use Rattle.store.specs.Names.{name_length, all_zero, padded, valid_name}
use Rattle.store.specs.Form.{place_length, place_count, store_length, name_in, file_in, occupied, place_at, places, is_named, valid_places, held_count, file_under, holds}
use Rattle.store.specs.Calls.{empty_store, ZerosAreEmpty}
use Rattle.store.proofs.Bytes.{zero-zeros, zero-front, zero-behind}
use Rattle.store.proofs.Places.{free-name}
use Rattle.store.proofs.Tells.{has_room}
use Rattle.store.proofs.Calls.{held-store, free_other, holds-is, holds-nothing}

-- places that are all free

all-free : (ps : List (List ℕ)) → Each (λ p. all_zero p ≡ true) ps → valid_places ps ≡ true
unfolding valid_places
all-free [] e = refl
all-free (p ∷ ps) e = ap₂ (λ z v. (z || occupied p && not (is_named (name_in p) ps)) && v) e.0 (all-free ps e.1)

none-under : (name : List ℕ) → valid_name name ≡ true → (ps : List (List ℕ)) → Each (λ p. all_zero p ≡ true) ps → file_under (padded name_length name) ps ≡ none
unfolding file_under
none-under name v [] e = refl
none-under name v (p ∷ ps) e =
    ap (λ t. cond t (some (file_in p)) (file_under (padded name_length name) ps)) (free_other name (name_in p) v (free-name p e.0))
    ∙ none-under name v ps e.1

none-held : (ps : List (List ℕ)) → Each (λ p. all_zero p ≡ true) ps → held_count ps ≡ 0
unfolding held_count
none-held [] e = refl
none-held (p ∷ ps) e = ap (λ t. cond t (held_count ps) (suc (held_count ps))) e.0 ∙ none-held ps e.1

-- every place of a store of zeros is

free-place : (store : List ℕ) → all_zero store ≡ true → (k : ℕ) → all_zero (place_at store k) ≡ true
unfolding place_at
free-place store z k = zero-front place_length (drop (place_length * k) store) (zero-behind (place_length * k) store z)

free-places : (store : List ℕ) → all_zero store ≡ true → Each (λ p. all_zero p ≡ true) (places store)
unfolding places
free-places store z = (free-place store z 0, (free-place store z 1, (free-place store z 2, (free-place store z 3, tt))))

all-zero : all_zero empty_store ≡ true
unfolding empty_store
all-zero = zero-zeros store_length

pub zeros-are-empty : ZerosAreEmpty
unfolding empty_store
zeros-are-empty =
    let free = free-places empty_store all-zero in
    record {
      form = held-store empty_store (length-replicate {A = ℕ} store_length 0) (all-free (places empty_store) free);
      nothing = λ name. go name (valid_name name) refl free;
      room = has_room empty_store (subst (λ n. n < place_count) (sym (none-held (places empty_store) free)) (omega arith));
    }
  where
    go : (name : List ℕ) (t : Bool) → valid_name name ≡ t → Each (λ p. all_zero p ≡ true) (places empty_store) → holds empty_store name ≡ none
    go name true v free = holds-is name v empty_store ∙ none-under name v (places empty_store) free
    go name false v free = holds-nothing empty_store name v
