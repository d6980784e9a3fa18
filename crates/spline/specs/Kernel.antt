-- The kernel that the transfers are lent: a table of weights and its D. They know no more of it than what stands here; the
-- quadratic spline's table with its D is one.
-- Assumes nothing.
use Rattle.std.specs.Prelude.{◌≡◌, List, [], ℕ, ◌+◌, ◌%◌, ◌<◌, ◌≤◌, length, get_or, ℤ, pos, ◌-ℤ◌, ◌*ℤ◌}
use Rattle.arith.specs.Neighbours.{neighbours}
use Rattle.spline.specs.declared.AxisWeights.{AxisWeights}
use Rattle.spline.specs.Spline.{nearest_node, D}
use Rattle.spline.specs.Answers.{table, row_of}
use Rattle.spline.specs.Test.{row_moment}

-- ---- weights by a table

-- the weights of the three nodes around a particle at x: the row of its offset, row k being for offset k − 32
unfoldable pub weights_at : List (List ℕ) → ℕ → AxisWeights
weights_at table x = row_of (get_or table ((x + 32) % 64) [])

-- the weight of node i of an axis for a particle at x; all nodes but three weigh 0
unfoldable pub weight_in : List (List ℕ) → ℕ → ℕ → ℤ
weight_in table x i =
    let w = weights_at table x in
    neighbours (nearest_node x) (pos w.lower) (pos w.nearest) (pos w.upper) i

-- ---- a kernel

-- what D may be: a multiple of 256 from 1024 to 3072
abbrev pub least_d : ℕ
least_d = 1024

abbrev pub most_d : ℕ
most_d = 3072

pub record Spread (D : ℕ) : Type 0 where
  pub least : least_d ≤ D
  pub most : D ≤ most_d
  pub whole : D % 256 ≡ 0

-- the weights at offset q total 8192, and their first and second moment about the particle are 0 and 8192·D
pub record RowMoments (D : ℕ) (q : ℤ) (w : AxisWeights) : Type 0 where
  pub total : w.lower + w.nearest + w.upper ≡ 8192
  pub first : row_moment q (pos w.lower) (pos w.nearest) (pos w.upper) (λ d. d) ≡ pos 0
  pub second : row_moment q (pos w.lower) (pos w.nearest) (pos w.upper) (λ d. d *ℤ d) ≡ pos 8192 *ℤ pos D

-- so each weight is at most 8192
pub record WeightsMost (w : AxisWeights) : Type 0 where
  pub lower-most : w.lower ≤ 8192
  pub nearest-most : w.nearest ≤ 8192
  pub upper-most : w.upper ≤ 8192

-- 64 rows of three numbers, each with its moments
pub record Kernel (table : List (List ℕ)) (D : ℕ) : Type 0 where
  pub rows : length table ≡ 64
  pub numbers : (k : ℕ) → k < 64 → length (get_or table k []) ≡ 3
  pub moments : (k : ℕ) → k < 64 → RowMoments D (pos k -ℤ pos 32) (row_of (get_or table k []))
  pub spread : Spread D

-- the quadratic spline's, which the operations lend
pub record BuiltIn (weights : List (List ℕ)) (d : ℕ) : Type 0 where
  pub table_is : weights ≡ table
  pub D-is : d ≡ D
