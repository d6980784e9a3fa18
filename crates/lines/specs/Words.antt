-- The number that a word makes, as far as 64 bits hold it.
use Rattle.std.specs.Prelude.{◌≡◌, ℕ, ◌+◌, ◌-◌, ◌*◌, ◌%◌, ◌^◌, min, Bool, true, false, cond, leb, eqb, List, [], ◌∷◌, bit_or}
use Rattle.std.specs.List.{list_any}
use Rattle.lines.specs.declared.words.Number.{Number}

-- with one more letter, as a byte behind what stands before in 64 bits, or with one more digit, or the largest where that is too large
unfoldable pub with_byte : ℕ → ℕ → ℕ
with_byte n b = cond (leb 97 b) (bit_or (n * 2 ^ 8 % 2 ^ 64) b) (min (n * 10 + b % 48) (2 ^ 64 - 1))

-- with more bytes, of which a minus is passed over
unfoldable pub with_word : ℕ → List ℕ → ℕ
with_word n [] = n
with_word n (b ∷ word) = with_word (cond (eqb b 45) n (with_byte n b)) word

-- whether a minus stands in a word
abbrev pub has_minus : List ℕ → Bool
has_minus word = list_any (λ b. eqb b 45) word

abbrev pub bits : Number → ℕ
bits number = number.0

-- a number in 64 bits is this one, or this one below zero, as two's complement
abbrev pub Signed : ℕ → Bool → ℕ → Type 0
Signed m negative n = (negative ≡ true → (m + n) % 2 ^ 64 ≡ 0) × (negative ≡ false → m ≡ n)
