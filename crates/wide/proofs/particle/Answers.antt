-- `wide::particle` meets its contract: the particle is that of the numbers cut to 16 bits. Assumes nothing.
use Rattle.std.proofs.Common.{sym, subst}
use Rattle.wide.specs.Values.{particle_with}
use Rattle.wide.specs.Internal.{SameRecord}
use Rattle.wide.proofs.Narrowing.{field}
use Rattle.wide.proofs.Writing.{same-record}
use Rattle.wide.proofs.particle.Goals as goal

pub returns : goal.returns
returns c =
    let p = c.args in
    let vx = field c.signed.type_inv c.signed.ensures c.ranges.vx in
    let vy = field c.signed-2.type_inv c.signed-2.ensures c.ranges.vy in
    let bxx = field c.signed-3.type_inv c.signed-3.ensures c.ranges.bxx in
    let bxy = field c.signed-4.type_inv c.signed-4.ensures c.ranges.bxy in
    let byx = field c.signed-5.type_inv c.signed-5.ensures c.ranges.byx in
    let byy = field c.signed-6.type_inv c.signed-6.ensures c.ranges.byy in
    let wide = particle_with p.identifier p.mass p.x p.y p.vx p.vy p.bxx p.bxy p.byx p.byy p.marks in
    subst (λ q. SameRecord q wide)
    (sym (λ i. particle_with p.identifier (c.unsigned.ensures i) (c.unsigned-2.ensures i) (c.unsigned-3.ensures i) (vx i) (vy i) (bxx i) (bxy i) (byx i) (byy i) p.marks))
    (same-record wide)
