-- `gather_point::gather_axis` meets its contract. Assumes nothing.
use Rattle.std.proofs.Common.{◌∙◌, to_z-of_z}
use Rattle.gather_point.specs.Point.{affine_velocity_of, nine_nodes, block_of}
use Rattle.gather_point.proofs.gather_axis.Goals as goal

pub returns : goal.returns
unfolding nine_nodes
returns c = (
  c.affine_velocity.ensures.0
      ∙ (λ i. affine_velocity_of (c.three_rows.ensures.0 i) (to_z-of_z c.ranges.qx i) (to_z-of_z c.ranges.qy i))
      ∙ (λ i. affine_velocity_of (block_of c.args.wy (c.row_shares-low.ensures.0 i) (c.row_shares-middle.ensures.0 i) (c.row_shares-high.ensures.0 i)) c.args.qx c.args.qy),
  c.affine_velocity.ensures.1,
)
