-- Names, computed: those that are taken and those that are not, as they are given and as a place holds them. Assumes nothing.
use mathlib.Core.Path.{◌≡◌, refl}
use mathlib.Core.Bool.{true, false}
use mathlib.Core.List.{[], ◌∷◌, map}
use Rattle.store.specs.Names.{all_zero, letters, valid_name, valid_held_name}

-- A, ABCDEFGH, Z; no letter, nine, a lower-case one, a digit, the characters before A and behind Z, a gap, and zeros after it
given : map valid_name ((65 ∷ []) ∷ (65 ∷ 66 ∷ 67 ∷ 68 ∷ 69 ∷ 70 ∷ 71 ∷ 72 ∷ []) ∷ (90 ∷ []) ∷ [] ∷ (65 ∷ 66 ∷ 67 ∷ 68 ∷ 69 ∷ 70 ∷ 71 ∷ 72 ∷ 73 ∷ []) ∷ (65 ∷ 98 ∷ []) ∷ (65 ∷ 49 ∷ []) ∷ (64 ∷ []) ∷ (91 ∷ []) ∷ (65 ∷ 0 ∷ 66 ∷ []) ∷ (65 ∷ 0 ∷ []) ∷ []) ≡ true ∷ true ∷ true ∷ false ∷ false ∷ false ∷ false ∷ false ∷ false ∷ false ∷ false ∷ []
unfolding valid_name letters
given = refl

-- A and ABCDEFGH; no letter, a gap, a lower-case letter, alone and behind a letter
held : map valid_held_name ((65 ∷ 0 ∷ 0 ∷ 0 ∷ 0 ∷ 0 ∷ 0 ∷ 0 ∷ []) ∷ (65 ∷ 66 ∷ 67 ∷ 68 ∷ 69 ∷ 70 ∷ 71 ∷ 72 ∷ []) ∷ (0 ∷ 0 ∷ 0 ∷ 0 ∷ 0 ∷ 0 ∷ 0 ∷ 0 ∷ []) ∷ (65 ∷ 0 ∷ 66 ∷ 0 ∷ 0 ∷ 0 ∷ 0 ∷ 0 ∷ []) ∷ (97 ∷ 0 ∷ 0 ∷ 0 ∷ 0 ∷ 0 ∷ 0 ∷ 0 ∷ []) ∷ (65 ∷ 98 ∷ 0 ∷ 0 ∷ 0 ∷ 0 ∷ 0 ∷ 0 ∷ []) ∷ []) ≡ true ∷ true ∷ false ∷ false ∷ false ∷ false ∷ []
unfolding valid_held_name letters all_zero
held = refl
