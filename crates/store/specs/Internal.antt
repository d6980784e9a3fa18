-- What the internal functions are given, compute and leave: their contracts name these, and no public operation's does.
-- Assumes nothing.
use Rattle.std.specs.Prelude.{◌≡◌, Bool, true, not, ◌&&◌, ◌||◌, List, ℕ, suc, ◌≤◌, ◌<◌, ltb, length, drop, Option, Some, None}
use Rattle.refusal.specs.Refused.{Answer, gives, refuse_if, Leaves}
use Rattle.store.specs.Names.{name_length, all_zero, valid_name}
use Rattle.store.specs.Form.{most_file, place_count, store_length, name_in, room_in, file_length, occupied, place_at, places, is_named, valid_store}
use Rattle.store.specs.Operations.{with_place, place_for, kept_place}

-- place k is free, or holds a file under a name that no place behind it has
abbrev pub valid_at : List ℕ → ℕ → Bool
valid_at store k =
    all_zero (place_at store k) || occupied (place_at store k) && not (is_named (name_in (place_at store k)) (drop (suc k) (places store)))

-- a place that is looked for: none where its number is 4
abbrev pub Found : ℕ → Option ℕ → Type 0
Found n (Some k) = (k ≡ n) × (k < place_count)
Found n None = n ≡ place_count

-- a store and a name that have passed their checks
pub record Begun (store name : List ℕ) : Type 0 where
  pub form : valid_store store ≡ true
  pub named : valid_name name ≡ true

-- and a buffer that has room for the longest file
pub record Returnable (store name buffer : List ℕ) : Type 0 where
  pub begun : Begun store name
  pub room : most_file ≤ length buffer

-- a store of its length, and a name and a file that a place has room for
pub record Keepable (store name file : List ℕ) : Type 0 where
  pub store_long : length store ≡ store_length
  pub name-long : length name ≤ name_length
  pub file-long : length file ≤ most_file

-- a place of a store, with a file in its room, and a buffer that has room for the longest
pub record Copyable (store : List ℕ) (k : ℕ) (buffer : List ℕ) : Type 0 where
  pub store_long : length store ≡ store_length
  pub below : k < place_count
  pub fits : file_length (room_in (place_at store k)) ≤ most_file
  pub buffer-long : most_file ≤ length buffer

-- what a keep that passed all checks but 24 tells and leaves
abbrev pub KeepsAt : List ℕ → List ℕ → List ℕ → Answer Unit → List ℕ → Type 0
KeepsAt store name file told left =
    Leaves (refuse_if (not (ltb (place_for store name) place_count)) 24 0 (gives (place_for store name)))
    (λ k. with_place store k (kept_place name file)) store told left
