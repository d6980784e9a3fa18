-- The two words of a header, from the parts of its fields: its first eight bytes and its last three.
--     number                     the number that the parts make
--     first_word, second_word    the code's two numbers are its high 64 and its low 24 bits
--     both_words                 and a buffer in which the second is stored, and then the first, is the header
-- Assumes nothing.
use Prim.Native.Nat.{ℕ, ◌+◌, ◌*◌, ◌/◌, ◌%◌, ◌^◌}
use native.Mathlib.Omega.{arith}
use mathlib.Core.Path.{◌≡◌, ap, ap₂, ◌∙◌}
use mathlib.Core.List.{List, [], ◌∷◌}
use lib.Dec.{lit≤}
use lib.ListN.{length}
use Rattle.bits.specs.Bits.{join}
use Rattle.bits.specs.Internal.{Below, word_bytes, stored}
use Rattle.bits.specs.Layout.{widths, filled}
use Rattle.bits.proofs.Bytes.{two-words}
use Rattle.bath_file.specs.Layout.{layout, header_length}

module _ (nx ny gx gy count steps kind width drag : ℕ) where
  abbrev parts : List ℕ
  parts = nx ∷ ny ∷ gx ∷ gy ∷ count ∷ steps ∷ 0 ∷ kind ∷ width ∷ drag ∷ 0 ∷ []

  abbrev number : ℕ
  number = join (widths layout) parts

  abbrev first : ℕ
  first = nx * 288230376151711744 + ny * 4503599627370496 + gx * 274877906944 + gy * 16777216 + count * 2048 + steps / 8

  abbrev second : ℕ
  second = steps % 8 * 2097152 + kind * 16384 + width * 4096 + drag * 16

  module _ (below : Below (widths layout) parts) where
    first_word : first ≡ number / 2 ^ 24
    first_word = omega arith

    second_word : second ≡ number % 2 ^ 24
    second_word = omega arith

    pub both_words : (l : List ℕ) {half whole : List ℕ} → length l ≡ header_length → half ≡ stored (word_bytes second) l 3 → whole ≡ stored (word_bytes first) half 0 → whole ≡ filled layout parts
    both_words l long p q =
        q
        ∙ ap (λ h. stored (word_bytes first) h 0) p
        ∙ ap₂ (λ v w. stored (word_bytes v) (stored (word_bytes w) l 3) 0) first_word second_word
        ∙ two-words 3 (lit≤ tt) number l long
