-- What the helpers of the gather answer: sums over the nine nodes around a particle, taken row by row. That these are the
-- sums over all nodes is proved (proofs/Nodes.antt, axis-at), so nobody has to believe these. Assumes nothing.
use Rattle.std.specs.Prelude.{◌≡◌, List, ℕ, ◌+◌, ◌-◌, ◌*◌, ◌^◌, ◌≤◌, ◌<◌, length, get_or, ℤ, pos, nat_abs, ◌+ℤ◌, ◌-ℤ◌, ◌*ℤ◌}
use Rattle.arith.specs.Size.{Bound}
use Rattle.arith.specs.Sums.{Each}
use Rattle.arith.specs.Rounding.{rounded}
use Rattle.limits.specs.Limits.{most_side, most_position, most_node_velocity}
use Rattle.spline.specs.Spline.{nearest_node, offset}
use Rattle.spline.specs.Kernel.{weights_at}
use Rattle.spline.specs.declared.AxisWeights.{AxisWeights}
use Rattle.gather_point.specs.declared.Shares.{Shares}
use Rattle.gather_point.specs.declared.Block.{Block}
use Rattle.gather_point.specs.declared.AffineVelocity.{AffineVelocity}
use Rattle.gather_point.specs.declared.Motion.{Motion}

-- how large a gathered velocity can be: a sum of at most 2^53, divided by 2^34
abbrev pub most_gathered : ℕ
most_gathered = 524288

-- Σ w·a over three neighbours, and the upper one's share less the lower one's
abbrev pub shares_of : ℤ → ℤ → ℤ → ℤ → ℤ → ℤ → Shares
shares_of lower nearest upper a b c =
    record {
      sum = lower *ℤ a +ℤ nearest *ℤ b +ℤ upper *ℤ c;
      tilt = upper *ℤ c -ℤ lower *ℤ a;
    }

-- weights of 16 bits
pub record SmallWeights (w : AxisWeights) : Type 0 where
  pub lower-size : w.lower ≤ 65535
  pub nearest-size : w.nearest ≤ 65535
  pub upper-size : w.upper ≤ 65535

abbrev pub weighed : AxisWeights → ℤ → ℤ → ℤ → Shares
weighed w a b c = shares_of (pos w.lower) (pos w.nearest) (pos w.upper) a b c

-- a row of three nodes, the first at place `at`
unfoldable pub row_shares : AxisWeights → List ℤ → ℕ → Shares
row_shares w u at = weighed w (get_or u at (pos 0)) (get_or u (at + 1) (pos 0)) (get_or u (at + 2) (pos 0))

pub record SmallShares (s : Shares) : Type 0 where
  pub sum-size : Bound s.sum 34359738368
  pub tilt-size : Bound s.tilt 34359738368

-- three rows: Σ W·u over nine nodes; the upper column's share less the lower one's; the upper row's less the lower one's
unfoldable pub block_of : AxisWeights → Shares → Shares → Shares → Block
block_of w a b c =
    record {
      sum = (weighed w a.sum b.sum c.sum).sum;
      across = (weighed w a.tilt b.tilt c.tilt).sum;
      up = (weighed w a.sum b.sum c.sum).tilt;
    }

pub record SmallBlock (b : Block) : Type 0 where
  pub sum-size : Bound b.sum 9007199254740992
  pub across-size : Bound b.across 9007199254740992
  pub up-size : Bound b.up 9007199254740992

-- the offsets of the three nodes of an axis are −64 − q, −q and 64 − q
abbrev pub moment_about : ℤ → ℤ → ℤ → ℤ
moment_about sum tilt q = pos 64 *ℤ tilt -ℤ q *ℤ sum

unfoldable pub affine_velocity_of : Block → ℤ → ℤ → AffineVelocity
affine_velocity_of b qx qy =
    record {
      v = rounded b.sum (2 ^ 34);
      bx = rounded (moment_about b.sum b.across qx) (2 ^ 34);
      by = rounded (moment_about b.sum b.up qy) (2 ^ 34);
    }

-- the nine nodes of which the first is at place `at`
unfoldable pub nine_nodes : AxisWeights → AxisWeights → ℕ → List ℤ → ℕ → Block
nine_nodes wx wy nx u at = block_of wy (row_shares wx u at) (row_shares wx u (at + nx)) (row_shares wx u (at + 2 * nx))

-- all nine are nodes, with velocities within their limit; q is within ±32
pub record Nine (nx at : ℕ) (u : List ℤ) (qx qy : ℤ) : Type 0 where
  pub inside : at + 2 * nx + 2 < length u
  pub each : Each (λ z. nat_abs z ≤ most_node_velocity) u
  pub x-offset : Bound qx 32
  pub y-offset : Bound qy 32

-- a particle at (x, y) has nine nodes around it
pub record Around (nx x y : ℕ) (ux uy : List ℤ) : Type 0 where
  pub columns : nx ≤ most_side
  pub x-least : 32 ≤ x
  pub x-most : x ≤ most_position
  pub y-least : 32 ≤ y
  pub y-most : y ≤ most_position
  pub x-nodes : (nearest_node y - 1) * nx + (nearest_node x - 1) + 2 * nx + 2 < length ux
  pub y-nodes : (nearest_node y - 1) * nx + (nearest_node x - 1) + 2 * nx + 2 < length uy
  pub x-each : Each (λ z. nat_abs z ≤ most_node_velocity) ux
  pub y-each : Each (λ z. nat_abs z ≤ most_node_velocity) uy

-- what is gathered there from the node velocities u, with the weights of table t
unfoldable pub axis_at : List (List ℕ) → ℕ → List ℤ → ℕ → ℕ → AffineVelocity
axis_at t nx u x y =
    affine_velocity_of
    (nine_nodes (weights_at t x) (weights_at t y) nx u ((nearest_node y - 1) * nx + (nearest_node x - 1)))
    (offset x) (offset y)

pub record MotionAt (nx x y : ℕ) (t : List (List ℕ)) (ux uy : List ℤ) (m : Motion) : Type 0 where
  pub x-is : m.x ≡ axis_at t nx ux x y
  pub y-is : m.y ≡ axis_at t nx uy x y
  pub x-size : Bound m.x.v most_gathered
  pub y-size : Bound m.y.v most_gathered
