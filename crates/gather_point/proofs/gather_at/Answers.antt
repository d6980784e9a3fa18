-- `gather_point::gather_at` meets its contract. Assumes nothing.
use Rattle.std.proofs.Common.{◌∙◌, w64}
use Rattle.arith.specs.Machine.{read_result}
use Rattle.gather_point.specs.Point.{affine_velocity_of, nine_nodes, axis_at}
use Rattle.gather_point.proofs.gather_at.Goals as goal

pub returns : goal.returns
unfolding axis_at
returns c =
    let s = c.args in
    let qx = read_result w64 c.offset_of-qx.type_inv c.offset_of-qx.ensures.0 in
    let qy = read_result w64 c.offset_of-qy.type_inv c.offset_of-qy.ensures.0 in
    record {
      x-is = c.gather_axis.ensures.0 ∙ (λ i. affine_velocity_of (nine_nodes (c.weights_at-wx.ensures i) (c.weights_at-wy.ensures i) s.nx s.ux.now (c.first_node-at.ensures i)) (qx i) (qy i));
      y-is = c.gather_axis-2.ensures.0 ∙ (λ i. affine_velocity_of (nine_nodes (c.weights_at-wx.ensures i) (c.weights_at-wy.ensures i) s.nx s.uy.now (c.first_node-at.ensures i)) (qx i) (qy i));
      x-size = c.gather_axis.ensures.1;
      y-size = c.gather_axis-2.ensures.1;
    }
