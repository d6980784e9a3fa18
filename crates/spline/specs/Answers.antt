-- Document 01, operation "Weights": what it answers for any offset, and the same as a table.
-- Assumes nothing.
use Rattle.refusal.specs.declared.Refusal.{Refusal}
use Rattle.std.specs.Prelude.{not, ◌&&◌, List, [], ◌∷◌, map, ℕ, get_or, ℤ, pos, negsuc, nat_abs, ◌-ℤ◌, Result, Ok, Err}
use Rattle.std.specs.Int.Signed.{le_z}
use Rattle.arith.specs.Sums.{up_to}
use Rattle.refusal.specs.Refused.{Answer, gives, refused_by, refuse_if}
use Rattle.spline.specs.declared.AxisWeights.{AxisWeights}
use Rattle.spline.specs.Spline.{lower_weight, nearest_weight, upper_weight}

-- the three weights of one axis
pub record Three : Type 0 where
  pub lower : ℤ
  pub nearest : ℤ
  pub upper : ℤ

abbrev pub three : ℤ → Three
three q = record { lower = lower_weight q; nearest = nearest_weight q; upper = upper_weight q }

abbrev pub three_of : AxisWeights → Three
three_of w = record { lower = pos w.lower; nearest = pos w.nearest; upper = pos w.upper }

-- 7 where the offset is outside −32 to 31
abbrev pub weights_answer : ℤ → Answer Three
weights_answer q = refuse_if (not (le_z (negsuc 31) q && le_z q (pos 31))) 7 0 (gives (three q))

abbrev pub told_weights : Result AxisWeights Refusal → Answer Three
told_weights (Ok w) = gives (three_of w)
told_weights (Err e) = refused_by e

-- the table: 64 rows of three numbers, row k for offset k − 32
abbrev pub table_row : ℤ → List ℕ
table_row q = nat_abs (lower_weight q) ∷ nat_abs (nearest_weight q) ∷ nat_abs (upper_weight q) ∷ []

abbrev pub table : List (List ℕ)
table = map (λ k. table_row (pos k -ℤ pos 32)) (up_to 64)

-- the row of the other sign: lower and upper weight exchanged
abbrev pub mirror : List ℕ → List ℕ
mirror row = get_or row 2 0 ∷ get_or row 1 0 ∷ get_or row 0 0 ∷ []

abbrev pub row_of : List ℕ → AxisWeights
row_of r = record { lower = get_or r 0 0; nearest = get_or r 1 0; upper = get_or r 2 0 }
