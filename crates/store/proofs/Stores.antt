-- The places of a store: as many as it has, each of its length, and what a changed place changes; a place that a keep writes, and
-- a free one.
--     places-long, place_is, place-long    the places, one by one
--     with-long, places-with               a store with another place
--     FileLong, file-long                  what an accepted file says of its length
--     kept-long, kept-name, kept-file, kept-occupied    a place that a keep writes
--     free-long, free-zero                 a free place
--     occupied-file, occupied-fits         what an occupied place holds
-- Assumes nothing.
use mathlib.Core.Path.{◌≡◌, refl, sym, ap, ap₂, subst, ◌∙◌}
use mathlib.Core.Bool.{Bool, true, false, ◌&&◌, false≢true}
use mathlib.Core.List.{List, [], ◌++◌}
use Prim.Native.Nat.{ℕ, ◌+◌, ◌-◌, ◌*◌, ◌≤◌, ◌<◌}
use native.Mathlib.Omega.{arith}
use borrow.Author.Tests.{le-leb, leb-true, ltb-true, ltb-false, eqb-true, eqb-false}
use lib.Dec.{leb, ltb, eqb}
use lib.ListN.{length, get_or, set, take, drop, replicate, length-append, length-drop, length-set}
use lib.Seq.{take_at, drop_at, take-append-le, drop-append-le, take-take, length-take-le, ext_get_or, get_or-set_same, get_or-set_other}
use Rattle.arith.specs.Lists.{length-tabulated, get_or-tabulated, length_part, drop-take, placed-length, placed-drop}
use Rattle.refusal.specs.Refused.{Answer, gives, refused, accepted}
use Rattle.refusal.proofs.Answers.{went_on}
use Rattle.particle.specs.Layout.{record_length}
use Rattle.bath_file.specs.declared.Header.{Header}
use Rattle.bath_file.specs.Layout.{header_length}
use Rattle.limits.specs.declared.Caller.TheVariants.{Bench}
use Rattle.bath_file.specs.File.{header_in, header_answer, records_answer, file_answer}
use Rattle.bath_file.proofs.Answers.{header-held, records-passed}
use Rattle.store.specs.Names.{name_length, all_zero, padded, valid_name, valid_held_name}
use Rattle.store.specs.Form.{most_file, place_length, place_count, store_length, name_in, room_in, file_length, file_in, valid_room, occupied, place_at, places}
use Rattle.store.specs.Operations.{with_place, kept_place, free_place}
use Rattle.limits.proofs.Within.{both}
use Rattle.store.proofs.Bytes.{zero-zeros, padded-length, padded-take, padded-drop, held-name}

-- ---- the places

module _ (store : List ℕ) where
  pub places-long : length (places store) ≡ place_count
  unfolding places
  places-long = length-tabulated (place_at store) place_count

  pub place_is : (k : ℕ) → k < place_count → get_or (places store) k [] ≡ place_at store k
  unfolding places
  place_is k l = get_or-tabulated (place_at store) place_count k [] l

  pub place-long : (k : ℕ) → length store ≡ store_length → k < place_count → length (place_at store k) ≡ place_length
  unfolding place_at
  place-long k e l = length_part (place_length * k) place_length store (omega arith)

module _ (store : List ℕ) (k : ℕ) (q : List ℕ) (long : length store ≡ store_length) (below : k < place_count) (size : length q ≡ place_length) where
  fits : place_length * k + length q ≤ length store
  fits = omega arith

  pub with-long : length (with_place store k q) ≡ store_length
  with-long = placed-length store (place_length * k) q fits ∙ long

  rest : List ℕ
  rest = q ++ drop (place_length * k + length q) store

  here : place_at (with_place store k q) k ≡ q
  unfolding place_at rest
  here =
      ap (take place_length) (drop_at (take (place_length * k) store) rest (place_length * k) (length-take-le (place_length * k) store (omega arith)))
      ∙ take_at q (drop (place_length * k + length q) store) place_length size

  before : (j : ℕ) → j < k → place_at (with_place store k q) j ≡ place_at store j
  unfolding place_at rest
  before j l =
      let front = take (place_length * k) store in
      let front_long : length front ≡ place_length * k = length-take-le (place_length * k) store (omega arith) in
      let gap : place_length * k ≡ place_length * j + (place_length * k - place_length * j) = omega arith in
      let part : drop (place_length * j) front ≡ take (place_length * k - place_length * j) (drop (place_length * j) store) =
      ap (λ n. drop (place_length * j) (take n store)) gap ∙ drop-take (place_length * j) (place_length * k - place_length * j) store (omega arith) in
      let part-long : length (drop (place_length * j) front) ≡ place_length * k - place_length * j =
      ap length part ∙ length_part (place_length * j) (place_length * k - place_length * j) store (omega arith) in
      ap (take place_length) (drop-append-le (place_length * j) front rest (omega (arith, front_long)))
      ∙ take-append-le place_length (drop (place_length * j) front) rest (omega (arith, part-long))
      ∙ ap (take place_length) part
      ∙ take-take place_length (place_length * k - place_length * j) (drop (place_length * j) store) (omega arith)

  behind : (j : ℕ) → k < j → place_at (with_place store k q) j ≡ place_at store j
  unfolding place_at
  behind j l =
      let at : place_length * j ≡ place_length * k + length q + (place_length * j - (place_length * k + place_length)) = omega arith in
      ap (take place_length)
      (ap (λ n. drop n (with_place store k q)) at
      ∙ placed-drop store (place_length * k) q fits (place_length * j - (place_length * k + place_length))
      ∙ ap (λ n. drop n store) (sym at))

  -- place k is q, and any other what it was
  place-with : (j : ℕ) → j < place_count → place_at (with_place store k q) j ≡ get_or (set (places store) k q) j []
  place-with j l = go (eqb j k) refl (ltb j k) refl
    where
      go : (same : Bool) → eqb j k ≡ same → (less : Bool) → ltb j k ≡ less → place_at (with_place store k q) j ≡ get_or (set (places store) k q) j []
      go true e less f =
          let is = eqb-true j k e in
          ap (place_at (with_place store k q)) is
          ∙ here
          ∙ sym (ap (λ n. get_or (set (places store) k q) n []) is ∙ get_or-set_same (places store) k q [] (omega (arith, places-long store)))
      go false e true f = before j (ltb-true j k f) ∙ sym (get_or-set_other (places store) k j q [] (eqb-false j k e) ∙ place_is store j l)
      go false e false f =
          behind j (more (eqb-false j k e) (ltb-false j k f)) ∙ sym (get_or-set_other (places store) k j q [] (eqb-false j k e) ∙ place_is store j l)
        where
          more : (j ≡ k → ⊥) → k ≤ j → k < j
          more n h = omega arith

  pub places-with : places (with_place store k q) ≡ set (places store) k q
  places-with =
      ext_get_or [] (places (with_place store k q)) (set (places store) k q)
      (places-long (with_place store k q) ∙ sym (length-set (places store) k q ∙ places-long store))
      (λ j l.
      let under : j < place_count = subst (λ n. j < n) (places-long (with_place store k q)) l in
      place_is (with_place store k q) j under ∙ place-with j under)

-- ---- a file

pub record FileLong (file : List ℕ) : Type 0 where
  pub header : header_length ≤ length file
  pub is : length file ≡ header_length + record_length * (header_in (take header_length file)).count
  pub most : length file ≤ most_file

pub file-long : (file : List ℕ) {h : Header} → file_answer Bench file ≡ gives h → FileLong file
file-long file e =
    let w = went_on (header_answer Bench file) (λ g. records_answer g file) e in
    let held = header-held Bench file w.1 in
    let n = (records-passed w.0 file w.2).0 in
    record {
      header = held.long;
      is = n ∙ ap (λ g. header_length + record_length * g.count) (sym held.holds);
      most = omega (arith, n, held.valid.count-to);
    }

pub accepted-is : {A : Type 0} (a : Answer A) → accepted a ≡ true → (x : A) × (a ≡ gives x)
accepted-is (gives x) e = (x, refl)
accepted-is (refused n k) e = absurd (false≢true e)

-- ---- a place that a keep writes

module _ (name file : List ℕ) where
  abbrev room : List ℕ
  room = padded most_file file

  pub kept-long : length name ≤ name_length → length file ≤ most_file → length (kept_place name file) ≡ place_length
  unfolding kept_place
  kept-long n f = length-append (padded name_length name) room ∙ ap₂ ◌+◌ (padded-length name_length name n) (padded-length most_file file f)

  module _ (short : length name ≤ name_length) where
    pub kept-name : name_in (kept_place name file) ≡ padded name_length name
    unfolding kept_place
    kept-name = take_at (padded name_length name) room name_length (padded-length name_length name short)

    kept-room : room_in (kept_place name file) ≡ room
    unfolding kept_place
    kept-room = drop_at (padded name_length name) room name_length (padded-length name_length name short)

    module _ {h : Header} (accepts : file_answer Bench file ≡ gives h) where
      long : FileLong file
      long = file-long file accepts

      room-file : file_length room ≡ length file
      unfolding file_length
      room-file =
          ap (λ l. header_length + record_length * (header_in l).count) (take-append-le header_length file (replicate (most_file - length file) 0) long.header)
          ∙ sym long.is

      pub kept-file : file_in (kept_place name file) ≡ file
      unfolding file_in
      kept-file = ap (λ r. take (file_length r) r) kept-room ∙ ap (λ n. take n room) room-file ∙ padded-take most_file file

      valid-room : valid_room room ≡ true
      unfolding valid_room
      valid-room =
          ap₂ ◌&&◌
          (ap₂ ◌&&◌ (ap₂ leb room-file (padded-length most_file file long.most) ∙ le-leb (length file) most_file long.most)
          (ap (λ n. accepted (file_answer Bench (take n room))) room-file ∙ ap (λ l. accepted (file_answer Bench l)) (padded-take most_file file) ∙ ap accepted accepts))
          (ap (λ n. all_zero (drop n room)) room-file ∙ ap all_zero (padded-drop most_file file) ∙ zero-zeros (most_file - length file))

      pub kept-occupied : valid_name name ≡ true → occupied (kept_place name file) ≡ true
      unfolding occupied
      kept-occupied v = ap₂ ◌&&◌ (ap valid_held_name kept-name ∙ held-name name v) (ap valid_room kept-room ∙ valid-room)

-- ---- a free place

pub free-long : length free_place ≡ place_length
unfolding free_place
free-long = padded-length place_length [] (omega arith)

pub free-zero : all_zero free_place ≡ true
unfolding free_place
free-zero = zero-zeros place_length

-- ---- an occupied place

pub record RoomHeld (p : List ℕ) : Type 0 where
  pub fits : file_length (room_in p) ≤ length (room_in p)
  pub accepts : accepted (file_answer Bench (file_in p)) ≡ true

room-held : (p : List ℕ) → occupied p ≡ true → RoomHeld p
unfolding occupied valid_room file_in
room-held p o =
    let room = room_in p in
    let n = file_length room in
    let t = (both (valid_held_name (name_in p)) (valid_room room) o).1 in
    let a = (both (leb n (length room) && accepted (file_answer Bench (take n room))) (all_zero (drop n room)) t).0 in
    let b = both (leb n (length room)) (accepted (file_answer Bench (take n room))) a in
    record { fits = leb-true n (length room) b.0; accepts = b.1 }

pub occupied-file : (p : List ℕ) → occupied p ≡ true → (h : Header) × (file_answer Bench (file_in p) ≡ gives h)
occupied-file p o = accepted-is (file_answer Bench (file_in p)) (room-held p o).accepts

pub occupied-fits : (p : List ℕ) → length p ≡ place_length → occupied p ≡ true → file_length (room_in p) ≤ most_file
occupied-fits p long o = omega (arith, length-drop name_length p, (room-held p o).fits, long)
