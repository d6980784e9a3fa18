-- `share_of` meets its contract: each number that it widens is the particle's, and each part of the share follows from
-- the parts' contracts. Assumes nothing.
use Rattle.std.proofs.Common.{arith, ◌≡◌, ℤ, pos, to_z, of_z}
use mir.Syntax.{w16}
use Rattle.arith.specs.Size.{sizes, bounded}
use Rattle.bits.proofs.Held.{held-unsigned, held-signed}
use Rattle.particle.specs.declared.Particle.{Particle}
use Rattle.particle.proofs.Fields.{Typed, typed}
use Rattle.totals_share.proofs.Shares.{Widened, linear-fits, angular-fits, straight-fits, turning-fits, motion-fits, is_share}
use Rattle.totals_share.proofs.share_of.Goals as goal

-- what `from` says of a number with sign
abbrev Signed : ℤ → ℤ → Type 0
Signed m z = m ≡ to_z w16 (of_z w16 z)

wide : (p : Particle) → Typed p → {m x y vx vy bxx bxy byx byy : ℤ} → m ≡ pos p.mass → x ≡ pos p.x → y ≡ pos p.y → Signed vx p.vx → Signed vy p.vy → Signed bxx p.bxx → Signed bxy p.bxy → Signed byx p.byx → Signed byy p.byy → Widened p m x y vx vy bxx bxy byx byy
wide p t m x y vx vy bxx bxy byx byy =
    record {
      mass-held = held-unsigned p.mass m t.mass;
      x-held = held-unsigned p.x x t.x;
      y-held = held-unsigned p.y y t.y;
      vx-held = held-signed p.vx vx t.vx;
      vy-held = held-signed p.vy vy t.vy;
      bxx-held = held-signed p.bxx bxx t.bxx;
      bxy-held = held-signed p.bxy bxy t.bxy;
      byx-held = held-signed p.byx byx t.byx;
      byy-held = held-signed p.byy byy t.byy;
    }

pub linear_share-requires-2 : goal.linear_share-requires-2
linear_share-requires-2 c =
    let w = wide c.args.p (typed c.args.p c.type_inv.p) c.from-m.ensures c.from-x.ensures c.from-y.ensures c.from-vx.ensures c.from-vy.ensures c.from-bxx.ensures c.from-bxy.ensures c.from-byx.ensures c.from-byy.ensures in
    linear-fits w.mass-held.here w.vy-held.here

pub angular_share-requires : goal.angular_share-requires
angular_share-requires c =
    let w = wide c.args.p (typed c.args.p c.type_inv.p) c.from-m.ensures c.from-x.ensures c.from-y.ensures c.from-vx.ensures c.from-vy.ensures c.from-bxx.ensures c.from-bxy.ensures c.from-byx.ensures c.from-byy.ensures in
    angular-fits w.mass-held.here w.x-held.here w.y-held.here w.vx-held.here w.vy-held.here w.byx-held.here w.bxy-held.here

-- the sizes alone: that the numbers are the ones that motion counts is for `returns`
pub straight_part-requires : goal.straight_part-requires
straight_part-requires c =
    let w = wide c.args.p (typed c.args.p c.type_inv.p) c.from-m.ensures c.from-x.ensures c.from-y.ensures c.from-vx.ensures c.from-vy.ensures c.from-bxx.ensures c.from-bxy.ensures c.from-byx.ensures c.from-byy.ensures in
    let vx = w.vx-held.here in
    let vy = w.vy-held.here in
    straight-fits (bounded (search sizes depth 20) tt) (bounded (search sizes depth 20) tt) (bounded (search sizes depth 20) tt)

pub turning_part-requires : goal.turning_part-requires
turning_part-requires c =
    let w = wide c.args.p (typed c.args.p c.type_inv.p) c.from-m.ensures c.from-x.ensures c.from-y.ensures c.from-vx.ensures c.from-vy.ensures c.from-bxx.ensures c.from-bxy.ensures c.from-byx.ensures c.from-byy.ensures in
    let bxx = w.bxx-held.here in
    let bxy = w.bxy-held.here in
    let byx = w.byx-held.here in
    let byy = w.byy-held.here in
    turning-fits (bounded (search sizes depth 20) tt) (bounded (search sizes depth 20) tt) (bounded (search sizes depth 20) tt) (bounded (search sizes depth 20) tt)

pub motion_share-requires : goal.motion_share-requires
motion_share-requires c =
    let w = wide c.args.p (typed c.args.p c.type_inv.p) c.from-m.ensures c.from-x.ensures c.from-y.ensures c.from-vx.ensures c.from-vy.ensures c.from-bxx.ensures c.from-bxy.ensures c.from-byx.ensures c.from-byy.ensures in
    let vx = w.vx-held.here in
    let vy = w.vy-held.here in
    let bxx = w.bxx-held.here in
    let bxy = w.bxy-held.here in
    let byx = w.byx-held.here in
    let byy = w.byy-held.here in
    motion-fits w.mass-held.here
    c.straight_part.ensures (bounded (search sizes depth 20) tt)
    c.turning_part.ensures (bounded (search sizes depth 20) tt)

pub returns : goal.returns
returns c =
    let p = c.args.p in
    let t : Typed p =
    record {
      identifier = omega arith;
      mass = omega arith;
      x = omega arith;
      y = omega arith;
      vx = omega arith;
      vy = omega arith;
      bxx = omega arith;
      bxy = omega arith;
      byx = omega arith;
      byy = omega arith;
      marks = omega arith;
    } in
    is_share (wide c.args.p t c.from-m.ensures c.from-x.ensures c.from-y.ensures c.from-vx.ensures c.from-vy.ensures c.from-bxx.ensures c.from-bxy.ensures c.from-byx.ensures c.from-byy.ensures)
    c.linear_share.ensures
    c.linear_share-2.ensures
    c.angular_share.ensures
    c.straight_part.ensures
    c.turning_part.ensures
    c.motion_share.ensures
    (held-unsigned p.marks c.from.ensures (omega arith))
