-- `put_particle` meets its contract: nine numbers stored one by one are a part put at its place. Assumes nothing.
use Rattle.std.proofs.Common.{rules, ◌≡◌, pos, to_z, of_z, ◌*◌}
use mir.Syntax.{w16}
use Rattle.unpacked.specs.Unpacked.{per_particle}
use Rattle.unpacked.proofs.Laws.{stored-placed}
use Rattle.unpacking.proofs.put_particle.Goals as goal

pub returns : goal.returns
returns c =
    let p = c.args.p in
    let mass : to_z w16 p.mass ≡ pos p.mass = search rules in
    let x : to_z w16 p.x ≡ pos p.x = search rules in
    let y : to_z w16 p.y ≡ pos p.y = search rules in
    let vx : to_z w16 (of_z w16 p.vx) ≡ p.vx = search rules in
    let vy : to_z w16 (of_z w16 p.vy) ≡ p.vy = search rules in
    let bxx : to_z w16 (of_z w16 p.bxx) ≡ p.bxx = search rules in
    let bxy : to_z w16 (of_z w16 p.bxy) ≡ p.bxy = search rules in
    let byx : to_z w16 (of_z w16 p.byx) ≡ p.byx = search rules in
    let byy : to_z w16 (of_z w16 p.byy) ≡ p.byy = search rules in
    rw (mass, x, y, vx, vy, bxx, bxy, byx, byy) (stored-placed c.args.array.now (per_particle * c.args.k) p c.requires.1)
