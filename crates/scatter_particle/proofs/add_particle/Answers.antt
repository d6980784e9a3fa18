-- `scatter_particle::add_particle` meets its contract: the particle's cell and numbers, and the block around it.
-- Assumes nothing.
use Rattle.std.proofs.Common.{◌≤◌, arith}
use Rattle.limits.specs.Limits.{most_position}
use Rattle.spline.specs.Spline.{nearest_node}
use Rattle.scatter_particle.proofs.Particles.{axis-small, block-ready, particle-added}
use Rattle.scatter_particle.proofs.add_particle.Goals as goal

pub weights_at-wx-requires : goal.weights_at-wx-requires
weights_at-wx-requires c = axis-small c.args.nx c.args.x c.requires.sizes.x-most c.requires.limits.x-on

pub weights_at-wy-requires : goal.weights_at-wy-requires
weights_at-wy-requires c = axis-small c.args.ny c.args.y c.requires.sizes.y-most c.requires.limits.y-on

pub middle-dx-requires : goal.middle-dx-requires
middle-dx-requires c = axis-small c.args.nx c.args.x c.requires.sizes.x-most c.requires.limits.x-on

pub middle-dy-requires : goal.middle-dy-requires
middle-dy-requires c = axis-small c.args.ny c.args.y c.requires.sizes.y-most c.requires.limits.y-on

pub overflow_add-k : goal.overflow_add-k
overflow_add-k c =
    let small : c.args.y ≤ most_position = axis-small c.args.ny c.args.y c.requires.sizes.y-most c.requires.limits.y-on in omega arith

pub overflow_add-k-2 : goal.overflow_add-k-2
overflow_add-k-2 c =
    let small : c.args.x ≤ most_position = axis-small c.args.nx c.args.x c.requires.sizes.x-most c.requires.limits.x-on in omega arith

pub add_block-requires : goal.add_block-requires
unfolding nearest_node
add_block-requires c =
    block-ready c.requires c.weights_at-wx.ensures c.weights_at-wy.ensures c.middle-dx.ensures c.middle-dy.ensures
    c.speed-sx.ensures c.speed-sy.ensures c.spread.ensures c.spread-2.ensures c.spread-3.ensures c.spread-4.ensures

pub returns : goal.returns
unfolding nearest_node
returns c =
    particle-added c.requires c.weights_at-wx.ensures c.weights_at-wy.ensures c.middle-dx.ensures c.middle-dy.ensures
    c.speed-sx.ensures c.speed-sy.ensures c.spread.ensures c.spread-2.ensures c.spread-3.ensures c.spread-4.ensures
    c.add_block.ensures
