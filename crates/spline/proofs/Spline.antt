-- The quadratic spline's weights, as a case of the laws of tables and kernels.
--     spline-weights    looked up in its table they are the formulas'
--     built-in-kernel, built-in-weights
--                       what a table and a D are that are the spline's
-- Assumes nothing.
use mathlib.Core.Path.{◌≡◌, sym, ap, subst, subst₂, ◌∙◌}
use mathlib.Core.List.{List}
use Prim.Native.Nat.{ℕ, ◌+◌, ◌%◌}
use lib.IntN.{pos}
use Rattle.arith.specs.Neighbours.{neighbours}
use Rattle.spline.specs.declared.AxisWeights.{AxisWeights}
use Rattle.spline.specs.Spline.{nearest_node, offset, axis_weight}
use Rattle.spline.specs.Answers.{table, table_row, row_of}
use Rattle.spline.specs.Kernel.{weights_at, weight_in, Kernel, BuiltIn}
use Rattle.spline.proofs.Table.{RowFacts, row-facts, table-row, spline-kernel}
use Rattle.spline.proofs.Axis.{row_below, offset-row}

-- the table's row for a particle at x is that of its offset
row_is : (x : ℕ) → weights_at table x ≡ row_of (table_row (offset x))
unfolding weights_at
row_is x = ap row_of (table-row ((x + 32) % 64) (row_below x) ∙ ap table_row (sym (offset-row x)))

facts : (x : ℕ) → RowFacts (offset x)
facts x = subst RowFacts (sym (offset-row x)) (row-facts ((x + 32) % 64) (row_below x))

pub spline-weights : weight_in table ≡ axis_weight
unfolding weight_in axis_weight neighbours
spline-weights =
    λ t x i.
    neighbours (nearest_node x)
    ((ap (λ (w : AxisWeights). pos w.lower) (row_is x) ∙ (facts x).lower) t)
    ((ap (λ (w : AxisWeights). pos w.nearest) (row_is x) ∙ (facts x).nearest) t)
    ((ap (λ (w : AxisWeights). pos w.upper) (row_is x) ∙ (facts x).upper) t) i

-- ---- where it is lent

module _ {weights : List (List ℕ)} {d : ℕ} (lent : BuiltIn weights d) where
  pub built-in-kernel : Kernel weights d
  built-in-kernel = subst₂ Kernel (sym lent.table_is) (sym lent.D-is) spline-kernel

  pub built-in-weights : weight_in weights ≡ axis_weight
  built-in-weights = ap weight_in lent.table_is ∙ spline-weights
