-- Document 02, Paper 8: the form of a store, and what it holds under a name. docs/STORE.md has the form as a table.
--     place_length, place_count, store_length    four places, each a name and room for the longest file
--     valid_room, occupied                     a place that holds a bath file under a name
--     valid_store                              the form, as a test
--     held_count                               how many places are not free
--     place_of, holds                          where a store holds a name, and the file that it holds under it, or nothing
-- Assumes nothing.
use Rattle.std.specs.Prelude.{Bool, true, not, cond, ◌&&◌, ◌||◌, List, [], ◌∷◌, map, ℕ, suc, ◌+◌, ◌*◌, leb, ltb, eqb, length, take, drop}
use Rattle.std.proofs.Math.Option.{Option, none, some}
use Rattle.arith.specs.Sums.{up_to}
use Rattle.refusal.specs.Refused.{accepted}
use Rattle.limits.specs.declared.Caller.TheVariants.{Bench}
use Rattle.particle.specs.Layout.{record_length}
use Rattle.particles.specs.Set.{set_length}
use Rattle.bath_file.specs.Layout.{header_length}
use Rattle.bath_file.specs.File.{header_in, file_answer}
use Rattle.store.specs.Names.{name_length, all_zero, same_bytes, padded, valid_name, valid_held_name}

-- ---- sizes, in bytes

-- the longest file that is accepted: 61,451
abbrev pub most_file : ℕ
most_file = header_length + set_length

abbrev pub place_length : ℕ
place_length = name_length + most_file

abbrev pub place_count : ℕ
place_count = 4

-- 245,836
abbrev pub store_length : ℕ
store_length = place_length * place_count

-- ---- a place

-- its name, and the room behind it
abbrev pub name_in : List ℕ → List ℕ
name_in place = take name_length place

abbrev pub room_in : List ℕ → List ℕ
room_in place = drop name_length place

-- the length of the file at the front of a room, by the count in its header, and that file
unfoldable pub file_length : List ℕ → ℕ
file_length room = header_length + record_length * (header_in (take header_length room)).count

unfoldable pub file_in : List ℕ → List ℕ
file_in place = take (file_length (room_in place)) (room_in place)

-- a room with one bath file that the bench accepts, whoever calls, and zeros after it
unfoldable pub valid_room : List ℕ → Bool
valid_room room =
    (leb (file_length room) (length room) && accepted (file_answer Bench (take (file_length room) room)))
    && all_zero (drop (file_length room) room)

unfoldable pub occupied : List ℕ → Bool
occupied place = valid_held_name (name_in place) && valid_room (room_in place)

-- ---- the places

unfoldable pub place_at : List ℕ → ℕ → List ℕ
place_at store k = take place_length (drop (place_length * k) store)

unfoldable pub places : List ℕ → List (List ℕ)
places store = map (place_at store) (up_to place_count)

-- how many places come before the first that has these eight bytes as its name: all of them where none has
unfoldable pub first_named : List ℕ → List (List ℕ) → ℕ
first_named held [] = 0
first_named held (p ∷ ps) = cond (same_bytes (name_in p) held) 0 (suc (first_named held ps))

abbrev pub is_named : List ℕ → List (List ℕ) → Bool
is_named held ps = ltb (first_named held ps) (length ps)

-- each place is free, with every byte zero, or holds a file under a name that no place behind it has
unfoldable pub valid_places : List (List ℕ) → Bool
valid_places [] = true
valid_places (p ∷ ps) = (all_zero p || occupied p && not (is_named (name_in p) ps)) && valid_places ps

-- the form
unfoldable pub valid_store : List ℕ → Bool
valid_store store = eqb (length store) store_length && valid_places (places store)

-- how many places are not free
unfoldable pub held_count : List (List ℕ) → ℕ
held_count [] = 0
held_count (p ∷ ps) = cond (all_zero p) (held_count ps) (suc (held_count ps))

-- ---- what a store holds

-- the place that has a name, or 4 where none has
unfoldable pub place_of : List ℕ → List ℕ → ℕ
place_of store name = first_named (padded name_length name) (places store)

-- the file of the first place that has these eight bytes as its name, or nothing
unfoldable pub file_under : List ℕ → List (List ℕ) → Option (List ℕ)
file_under held [] = none
file_under held (p ∷ ps) = cond (same_bytes (name_in p) held) (some (file_in p)) (file_under held ps)

-- the file under a name, or nothing
unfoldable pub holds : List ℕ → List ℕ → Option (List ℕ)
holds store name = cond (valid_name name) (file_under (padded name_length name) (places store)) none
