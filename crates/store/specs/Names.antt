-- Document 02, Paper 8: names of 1 to 8 letters A to Z, as they are given and as a place of a store holds them; bytes with zeros
-- after them. Assumes nothing.
use Rattle.std.specs.Prelude.{Bool, true, false, cond, ◌&&◌, List, [], ◌∷◌, ◌++◌, ℕ, suc, ◌-◌, leb, ltb, eqb, length, drop, replicate}

abbrev pub name_length : ℕ
name_length = 8

unfoldable pub all_zero : List ℕ → Bool
all_zero [] = true
all_zero (b ∷ bytes) = eqb b 0 && all_zero bytes

unfoldable pub same_bytes : List ℕ → List ℕ → Bool
same_bytes [] [] = true
same_bytes [] (c ∷ other) = false
same_bytes (b ∷ bytes) [] = false
same_bytes (b ∷ bytes) (c ∷ other) = eqb b c && same_bytes bytes other

-- the bytes, with zeros after them up to this length
abbrev pub padded : ℕ → List ℕ → List ℕ
padded size bytes = bytes ++ replicate (size - length bytes) 0

-- A to Z
abbrev pub is_letter : ℕ → Bool
is_letter b = leb 65 b && leb b 90

-- how many letters bytes begin with
unfoldable pub letters : List ℕ → ℕ
letters [] = 0
letters (b ∷ bytes) = cond (is_letter b) (suc (letters bytes)) 0

-- a name as it is given: 1 to 8 bytes, all of them letters
unfoldable pub valid_name : List ℕ → Bool
valid_name name = (leb 1 (length name) && leb (length name) name_length) && eqb (letters name) (length name)

-- as a place holds it: letters, at least one, and zeros after them
unfoldable pub valid_held_name : List ℕ → Bool
valid_held_name held = ltb 0 (letters held) && all_zero (drop (letters held) held)
