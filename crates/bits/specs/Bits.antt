-- A number of bits in parts of given widths, and two's complement.
--     total             the bits of parts of these widths
--     cut, join         the parts of a number, most significant first, and the number that such parts make
--     twos_complement    the integer that a number below twice `half` stands for in two's complement
--     residue           the number that stands for an integer modulo `span`
-- Assumes nothing.
use Rattle.std.specs.Prelude.{ℕ, suc, ◌+◌, ◌-◌, ◌*◌, ◌/◌, ◌%◌, ◌^◌, cond, List, [], ◌∷◌, ltb, ℤ, pos, negsuc, ◌-ℤ◌}

abbrev pub total : List ℕ → ℕ
total [] = 0
total (w ∷ ws) = w + total ws

abbrev pub cut : List ℕ → ℕ → List ℕ
cut [] n = []
cut (w ∷ ws) n = n / 2 ^ total ws % 2 ^ w ∷ cut ws n

abbrev pub join : List ℕ → List ℕ → ℕ
join [] ds = 0
join (w ∷ ws) [] = 0
join (w ∷ ws) (d ∷ ds) = d * 2 ^ total ws + join ws ds

abbrev pub twos_complement : ℕ → ℕ → ℤ
twos_complement half d = cond (ltb d half) (pos d) (pos d -ℤ pos (half + half))

abbrev pub residue : ℕ → ℤ → ℕ
residue span (pos n) = n
residue span (negsuc n) = span - suc n
