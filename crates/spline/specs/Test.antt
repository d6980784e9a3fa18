-- The test of the constant rows of weights, which the checker computes on their 99 numbers: at each offset from 0 to 32 the
-- square formulas, the row's sum and both moments. At the other sign they hold of the mirrored row.
-- Assumes nothing.
use Rattle.std.specs.Prelude.{Bool, true, false, ◌&&◌, List, [], ◌∷◌, ℕ, suc, eqb, length, get_or, ℤ, pos, negsuc, neg_ℤ, ◌+ℤ◌, ◌-ℤ◌, ◌*ℤ◌}
use Rattle.spline.specs.Spline.{D, lower_weight, nearest_weight, upper_weight}

abbrev pub sameℤ : ℤ → ℤ → Bool
sameℤ (pos a) (pos b) = eqb a b
sameℤ (pos a) (negsuc b) = false
sameℤ (negsuc a) (pos b) = false
sameℤ (negsuc a) (negsuc b) = eqb a b

abbrev pub all_same : List (ℤ × ℤ) → Bool
all_same [] = true
all_same (c ∷ cs) = sameℤ c.0 c.1 && all_same cs

-- the sum of three weights, each times f of its node minus the particle at offset q
abbrev pub row_moment : ℤ → ℤ → ℤ → ℤ → (ℤ → ℤ) → ℤ
row_moment q lower nearest upper f =
    lower *ℤ f (neg_ℤ (pos 64) -ℤ q) +ℤ nearest *ℤ f (neg_ℤ q) +ℤ upper *ℤ f (pos 64 -ℤ q)

-- what is compared at offset q, for a row of three weights
abbrev pub claims : ℤ → ℤ → ℤ → ℤ → List (ℤ × ℤ)
claims q lower nearest upper =
    (lower, lower_weight q)
    ∷ (nearest, nearest_weight q)
    ∷ (upper, upper_weight q)
    ∷ (lower +ℤ nearest +ℤ upper, pos 8192)
    ∷ (row_moment q lower nearest upper (λ d. d), pos 0)
    ∷ (row_moment q lower nearest upper (λ d. d *ℤ d), pos 8192 *ℤ pos D)
    ∷ []

abbrev pub row_passes : ℤ → List ℕ → Bool
row_passes q row =
    eqb (length row) 3 && all_same (claims q (pos (get_or row 0 0)) (pos (get_or row 1 0)) (pos (get_or row 2 0)))

-- rows from row q on, which has offset q
abbrev pub passes_from : ℕ → List (List ℕ) → Bool
passes_from q [] = true
passes_from q (row ∷ rows) = row_passes (pos q) row && passes_from (suc q) rows

abbrev pub passes : List (List ℕ) → Bool
passes rows = eqb (length rows) 33 && passes_from 0 rows
