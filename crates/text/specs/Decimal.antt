-- Text as bytes: characters, and decimal numbers with sign.
--     bytes_of      the bytes of a text of ASCII characters
--     space, line_feed
--     decimal      the decimal digits of a number, the most significant first
--     signed       those of an integer, after a minus sign where it is below zero
-- Assumes nothing.
use Rattle.std.specs.Prelude.{ℕ, zero, suc, ◌+◌, ◌/◌, ◌%◌, cond, List, [], ◌∷◌, ◌++◌, ltb, ℤ, pos, negsuc}
use Prim.Native.Char.{code}
use Prim.Native.String as string

abbrev pub bytes_of : string.String → List ℕ
bytes_of string.[] = []
bytes_of (string.◌∷◌ c s) = code c ∷ bytes_of s

abbrev pub space : ℕ
space = 32

abbrev pub line_feed : ℕ
line_feed = 10

-- the character of a digit
abbrev pub digit : ℕ → ℕ
digit d = 48 + d

-- the digits of a tenth of the number, where there are any, and then the last one; `most` bounds the number of digits
unfoldable pub digits_within : ℕ → ℕ → List ℕ
digits_within zero n = []
digits_within (suc most) n =
    let before = digits_within most (n / 10) in
    cond (ltb n 10) [] before ++ (digit (n % 10) ∷ [])

-- a number has no more digits than itself and one
unfoldable pub decimal : ℕ → List ℕ
decimal n = digits_within (suc n) n

unfoldable pub signed : ℤ → List ℕ
signed (pos n) = decimal n
signed (negsuc n) = 45 ∷ decimal (suc n)
