-- The gather's numbers: an affine velocity that is read back, and the sizes of weighed sums.
--     Read                       the fields of an affine velocity, read back
--     row_small, block-small     the sizes of weighed sums
-- Assumes nothing.
use mathlib.Core.Path.{◌≡◌}
use lib.IntN.{ℤ}
use mir.Syntax.{w64}
use mir.Val.{to_z, of_z}
use Rattle.arith.specs.Size.{Bound, bounded, sizes}
use Rattle.limits.specs.Limits.{most_node_velocity}
use Rattle.spline.specs.declared.AxisWeights.{AxisWeights}
use Rattle.gather_point.specs.declared.Shares.{Shares}
use Rattle.gather_point.specs.declared.AffineVelocity.{AffineVelocity}
use Rattle.gather_point.specs.Point.{weighed, SmallWeights, SmallShares, block_of, SmallBlock}

pub record Read (a : AffineVelocity) : Type 0 where
  pub v : to_z w64 (of_z w64 a.v) ≡ a.v
  pub bx : to_z w64 (of_z w64 a.bx) ≡ a.bx
  pub by : to_z w64 (of_z w64 a.by) ≡ a.by

-- ---- weighed sums

pub row_small : (w : AxisWeights) (a b c : ℤ) → SmallWeights w → Bound a most_node_velocity → Bound b most_node_velocity → Bound c most_node_velocity → SmallShares (weighed w a b c)
row_small w a b c s h k l =
    record { sum-size = bounded (search sizes depth 20) tt; tilt-size = bounded (search sizes depth 20) tt }

pub block-small : (w : AxisWeights) (a b c : Shares) → SmallWeights w → SmallShares a → SmallShares b → SmallShares c → SmallBlock (block_of w a b c)
unfolding block_of
block-small w a b c s h k l =
    record {
      sum-size = bounded (search sizes depth 20) tt;
      across-size = bounded (search sizes depth 20) tt;
      up-size = bounded (search sizes depth 20) tt;
    }
