-- The two words of a record: its first eight bytes and its last seven.
--     number                     the number that the parts of the fields make
--     first_word, second_word    the code's two numbers are its high 64 and its low 56 bits
-- Assumes nothing.
use Prim.Native.Nat.{ℕ, ◌+◌, ◌*◌, ◌/◌, ◌%◌, ◌^◌}
use native.Mathlib.Omega.{arith}
use mathlib.Core.Path.{◌≡◌}
use mathlib.Core.List.{[], ◌∷◌}
use Rattle.bits.specs.Bits.{join}
use Rattle.bits.specs.Internal.{Below}
use Rattle.bits.specs.Layout.{widths}
use Rattle.particle.specs.Layout.{layout}

module _ (identifier mass x y vx vy bxx bxy byx byy marks : ℕ) (below : Below (widths layout) (identifier ∷ mass ∷ x ∷ y ∷ vx ∷ vy ∷ bxx ∷ bxy ∷ byx ∷ byy ∷ marks ∷ [])) where
  abbrev pub number : ℕ
  number = join (widths layout) (identifier ∷ mass ∷ x ∷ y ∷ vx ∷ vy ∷ bxx ∷ bxy ∷ byx ∷ byy ∷ marks ∷ [])

  abbrev first : ℕ
  first = identifier * 281474976710656 + mass * 274877906944 + x * 67108864 + y * 16384 + vx * 128 + vy

  pub first_word : first ≡ number / 2 ^ 56
  first_word = omega arith

  pub second_word : bxx * 17592186044416 + bxy * 4294967296 + byx * 1048576 + byy * 256 + marks ≡ number % 2 ^ 56
  second_word = omega arith
