-- `gather_particle::store_particle` meets its contract: each number fits 16 bits. Assumes nothing.
use Rattle.std.proofs.Common.{◌≡◌, ap, ◌∙◌, ◌+◌, set, arith, w16, w64, to_z, of_z}
use Rattle.std.proofs.Math.ListN.{length-set}
use Rattle.arith.specs.Machine.{read}
use Rattle.gathering.specs.Parts.{Narrow, particle_stored}
use Rattle.gather_particle.proofs.store_particle.Goals as goal

kept : {z : _} → Narrow z → to_z w16 (of_z w16 (to_z w64 (of_z w64 z))) ≡ z
kept h = ap (λ x. to_z w16 (of_z w16 x)) (read w64 h tt) ∙ read w16 h tt

pub bounds-to-at-9 : goal.bounds-to-at-9
bounds-to-at-9 c = simp length-set (omega arith)

pub returns : goal.returns
unfolding particle_stored
returns c =
    let at = c.args.at in
    let h = c.requires in
    λ i. set (set (set (set (set (set (set (set (set c.args.to.now at (kept h.mass-size i)) (at + 1) (kept h.x-size i)) (at + 2) (kept h.y-size i))
    (at + 3) (kept h.vx-size i)) (at + 4) (kept h.vy-size i)) (at + 5) (kept h.bxx-size i)) (at + 6) (kept h.bxy-size i)) (at + 7) (kept h.byx-size i)) (at + 8) (kept h.byy-size i)
