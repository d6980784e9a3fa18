-- A place of a store, as the code writes it and reads it.
--     name-place           the first place with a name that an array holds
--     held_place, free-place    the place that a bath takes
--     place-written        a name and a file, one behind the other
--     placed-there, place-cleared    a place of a store, lent and come back changed; or cleared
--     room_cut, file-cut, file-copied    the file of a place
-- Assumes nothing.
use mathlib.Core.Path.{◌≡◌, sym, ap, ap₂, subst, ◌∙◌}
use mathlib.Core.Bool.{cond}
use mathlib.Core.List.{List, [], ◌++◌, append-nil}
use Prim.Native.Nat.{ℕ, ◌+◌, ◌-◌, ◌*◌, ◌≤◌, ◌<◌}
use native.Mathlib.Nat.{zero-add}
use native.Mathlib.Omega.{arith}
use borrow.Rule.Slice.PartMut.{mid_of, put_mid, Post-is}
use borrow.Author.Tests.{lt-ltb, le-ltb}
use lib.ListN.{length, take, drop, replicate, length-append, length-drop}
use lib.Seq.{take_at, take-length, drop-drop, drop-length, length-take-le}
use Rattle.std.specs.Prelude.{Option, Some, None}
use Rattle.arith.specs.Lists.{length_part, drop-take, placed-back}
use Rattle.store.specs.Names.{name_length, padded}
use Rattle.store.specs.Form.{most_file, place_length, place_count, store_length, room_in, file_length, file_in, place_at, places, first_named, place_of}
use Rattle.store.specs.Operations.{with_place, place_for, kept_place, free_place}
use Rattle.store.specs.Internal.{Found}
use Rattle.store.proofs.Bytes.{padded-length}

-- ---- a place by its name

pub name-place : (store name : List ℕ) (r : Option ℕ) {held : List ℕ} → held ≡ padded name_length name → Found (0 + first_named held (drop 0 (places store))) r → Found (place_of store name) r
unfolding place_of
name-place store name r {held} h f =
    subst (λ n. Found n r) (zero-add (first_named held (places store)) ∙ ap (λ n. first_named n (places store)) h) f

module _ (store name : List ℕ) where
  pub held_place : {k : ℕ} → Found (place_of store name) (Some k) → Found (place_for store name) (Some k)
  unfolding place_for
  held_place {k} f =
      subst (λ n. Found n (Some k)) (sym (ap (λ t. cond t (place_of store name) (place_of store [])) (lt-ltb (place_of store name) place_count (omega (arith, f.0, f.1))))) f

  pub free-place : (r : Option ℕ) → Found (place_of store name) None → Found (place_of store []) r → Found (place_for store name) r
  unfolding place_for
  free-place r n f =
      subst (λ n. Found n r) (sym (ap (λ t. cond t (place_of store name) (place_of store [])) (le-ltb (place_of store name) place_count (omega (arith, n))))) f

-- ---- a place written

module _ (place name file : List ℕ) (long : length place ≡ place_length) (name-long : length name ≤ name_length) (file-long : length file ≤ most_file) where
  pub name-room : length (take name_length place) ≡ name_length
  name-room = length-take-le name_length place (omega arith)

  module _ {first : List ℕ} (e : first ≡ padded (length (take name_length place)) name) where
    named : first ≡ padded name_length name
    named = e ∙ ap (λ n. padded n name) name-room

    abbrev half : List ℕ
    half = first ++ drop name_length place

    first-long : length first ≡ name_length
    first-long = ap length named ∙ padded-length name_length name name-long

    half-long : length half ≡ place_length
    half-long = length-append first (drop name_length place) ∙ omega (arith, first-long, length-drop name_length place)

    pub place-written : {second : List ℕ} → second ≡ padded (length (mid_of name_length (length half - name_length) half)) file → put_mid name_length (length half - name_length) half second ≡ kept_place name file
    unfolding kept_place
    place-written {second} f =
        ap₂ ◌++◌ (take_at first (drop name_length place) name_length first-long ∙ named)
        (ap₂ ◌++◌ (f ∙ ap (λ n. padded n file) (length_part name_length (length half - name_length) half (omega (arith, half-long)) ∙ omega (arith, half-long)))
        (Post-is name_length (length half) half (omega (arith, half-long)) ∙ drop-length half)
        ∙ append-nil (padded most_file file))

-- ---- a place of a store

pub placed-there : (store : List ℕ) (k : ℕ) {new place : List ℕ} → new ≡ place → length place ≡ place_length → put_mid (place_length * k) (place_length * k + place_length - place_length * k) store new ≡ with_place store k place
placed-there store k e long = placed-back store (place_length * k) place_length e long

-- every byte of it zero
pub place-cleared : (store : List ℕ) (k : ℕ) → length store ≡ store_length → k < place_count → {new : List ℕ} → new ≡ replicate (length (mid_of (place_length * k) (place_length * k + place_length - place_length * k) store)) 0 → new ≡ free_place
unfolding free_place
place-cleared store k long below e =
    let size : place_length * k + place_length - place_length * k ≡ place_length = omega arith in
    e ∙ ap (λ n. replicate n 0) (length_part (place_length * k) (place_length * k + place_length - place_length * k) store (omega arith) ∙ size)

-- ---- the file of a place

module _ (store : List ℕ) (k : ℕ) (long : length store ≡ store_length) (below : k < place_count) (fits : file_length (room_in (place_at store k)) ≤ most_file) where
  abbrev start : ℕ
  start = place_length * k + name_length

  abbrev cut : List ℕ
  cut = take (start + most_file - start) (drop start store)

  room_cut : cut ≡ room_in (place_at store k)
  unfolding place_at
  room_cut =
      ap₂ take {x = start + most_file - start} {y = most_file} (omega arith) (sym (drop-drop name_length (place_length * k) store))
      ∙ sym (drop-take name_length most_file (drop (place_length * k) store) (omega (arith, length-drop (place_length * k) store)))

  room-long : length cut ≡ most_file
  room-long = length_part start (start + most_file - start) store (omega arith) ∙ omega arith

  module _ {end : ℕ} (e : end ≡ file_length cut) where
    file-cut : take end cut ≡ file_in (place_at store k)
    unfolding file_in
    file-cut = ap₂ take (e ∙ ap file_length room_cut) room_cut

    pub end_fits : end ≤ most_file
    end_fits = subst (λ n. n ≤ most_file) (sym (e ∙ ap file_length room_cut)) fits

    pub end_is : end ≡ length (take end cut)
    end_is = sym (length-take-le end cut (omega (arith, room-long, end_fits)))

    pub file-copied : (buffer : List ℕ) {n : ℕ} {left : List ℕ} → n ≡ length (take end cut) → left ≡ take (length (take end cut)) (take end cut) ++ drop (length (take end cut)) buffer → (n ≡ length (file_in (place_at store k))) × (left ≡ file_in (place_at store k) ++ drop (length (file_in (place_at store k))) buffer)
    file-copied buffer p q =
        (p ∙ ap length file-cut, q ∙ ap (λ l. l ++ drop (length (take end cut)) buffer) (take-length (take end cut)) ∙ ap (λ l. l ++ drop (length l) buffer) file-cut)
