-- What the internal functions compute: their contracts name these, and no public one does.
-- Assumes nothing.
use Rattle.std.specs.Prelude.{ℕ, ◌+◌, ◌*◌, ◌/◌, ◌%◌, ◌^◌, ◌<◌, List, [], ◌∷◌, ◌++◌, length, get_or, take, drop, replicate}
use Rattle.bits.specs.Bits.{cut}

-- eight bytes from a place on as one number, the first the least significant
abbrev pub little_at : List ℕ → ℕ → ℕ
little_at bytes at = get_or bytes at 0 + get_or bytes (at + 1) 0 * 256 + get_or bytes (at + 2) 0 * 65536 + get_or bytes (at + 3) 0 * 16777216 + get_or bytes (at + 4) 0 * 4294967296 + get_or bytes (at + 5) 0 * 1099511627776 + get_or bytes (at + 6) 0 * 281474976710656 + get_or bytes (at + 7) 0 * 72057594037927936

-- eight bytes from a place on as one number, the first the most significant
abbrev pub word_at : List ℕ → ℕ → ℕ
word_at bytes at = get_or bytes at 0 * 72057594037927936 + get_or bytes (at + 1) 0 * 281474976710656 + get_or bytes (at + 2) 0 * 1099511627776 + get_or bytes (at + 3) 0 * 4294967296 + get_or bytes (at + 4) 0 * 16777216 + get_or bytes (at + 5) 0 * 65536 + get_or bytes (at + 6) 0 * 256 + get_or bytes (at + 7) 0

-- the eight bytes of a number, the least significant first
abbrev pub little_bytes : ℕ → List ℕ
little_bytes w = w % 256 ∷ w / 256 % 256 ∷ w / 65536 % 256 ∷ w / 16777216 % 256 ∷ w / 4294967296 % 256 ∷ w / 1099511627776 % 256 ∷ w / 281474976710656 % 256 ∷ w / 72057594037927936 ∷ []

-- the eight bytes of a number, the most significant first
abbrev pub word_bytes : ℕ → List ℕ
word_bytes w = cut (replicate 8 8) w

-- a buffer with these bytes in it from a place on
abbrev pub stored : List ℕ → List ℕ → ℕ → List ℕ
stored new bytes at = take at bytes ++ new ++ drop (at + length new) bytes

-- as many parts as widths, each of at most its width in bits
abbrev pub Below : List ℕ → List ℕ → Type 0
Below [] [] = Unit
Below [] (d ∷ ds) = ⊥
Below (w ∷ ws) [] = ⊥
Below (w ∷ ws) (d ∷ ds) = (d < 2 ^ w) × Below ws ds
