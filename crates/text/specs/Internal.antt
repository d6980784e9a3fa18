-- What the functions that put text into a buffer compute: their contracts name these.
-- Assumes nothing.
use Rattle.std.specs.Prelude.{ℕ, ◌+◌, ◌≤◌, cond, ◌≡◌, List, [], ◌∷◌, ◌++◌, eqb, length}
use Rattle.std.specs.Borrow.{MutBor}
use Rattle.arith.specs.Lists.{placed}
use Rattle.text.specs.declared.Text.{Text}

-- no text yet, in a buffer that was lent
pub record Begun (buffer : MutBor (List ℕ)) (t : Text) : Type 0 where
  pub lent : t.buffer.ghost_name ≡ buffer.ghost_name
  pub holds : t.buffer.now ≡ buffer.now
  pub empty : t.length ≡ 0

-- the buffer has room for more behind its text
pub record Room (t : Text) (more : List ℕ) : Type 0 where
  pub room : t.length + length more ≤ length t.buffer.now

-- more was put behind the text, in the same buffer
pub record Put (t : Text) (more : List ℕ) (t' : Text) : Type 0 where
  pub lent : t'.buffer.ghost_name ≡ t.buffer.ghost_name
  pub fits : t.length + length more ≤ length t.buffer.now
  pub buffer : t'.buffer.now ≡ placed t.buffer.now t.length more
  pub length : t'.length ≡ t.length + length more

-- ---- a form, in which a question mark is a gap for a number's text

abbrev pub gap : ℕ
gap = 63

-- what a byte of the form becomes, and the numbers that are then left; where none is left, a question mark stays
abbrev pub piece_of : ℕ → List (List ℕ) → List ℕ
piece_of b [] = b ∷ []
piece_of b (n ∷ ns) = cond (eqb b gap) n (b ∷ [])

abbrev pub left_by : ℕ → List (List ℕ) → List (List ℕ)
left_by b [] = []
left_by b (n ∷ ns) = cond (eqb b gap) ns (n ∷ ns)

unfoldable pub filled_in : List ℕ → List (List ℕ) → List ℕ
filled_in [] ns = []
filled_in (b ∷ bs) ns = piece_of b ns ++ filled_in bs (left_by b ns)
