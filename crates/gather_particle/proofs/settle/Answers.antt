-- `gather_particle::settle` stores what passes the check. Assumes nothing.
use Rattle.std.proofs.Common.{◌≡◌, refl, sym, ◌∙◌, ℤ, ◌+ℤ◌, ◌*◌, w64, to_z, of_z}
use Rattle.std.proofs.lemmas.Result.{err_from_is_err_and}
use Rattle.arith.specs.Size.{Bound, fits, sizes}
use Rattle.arith.specs.Machine.{read, read-bound, result₂}
use Rattle.limits.specs.Limits.{most_position}
use Rattle.unpacked.specs.Unpacked.{per_particle}
use Rattle.gather_point.specs.Point.{most_gathered}
use Rattle.gathering.specs.Parts.{check_of, particle_stored}
use Rattle.gathering.proofs.Record.{storable}
use Rattle.gather_particle.proofs.settle.Goals as goal

-- a coordinate that gains a velocity
gained : {x v : ℤ} → Bound x most_position → Bound v most_gathered → to_z w64 (of_z w64 (to_z w64 (of_z w64 x) +ℤ to_z w64 (of_z w64 v))) ≡ x +ℤ v
gained h k = result₂ {w = w64} ◌+ℤ◌ (read w64 h tt) (read w64 k tt) (fits (search sizes depth 20) tt)

pub returns-in_err-check : goal.returns-in_err-check
returns-in_err-check c =
    let s = c.args in
    let h = c.requires in
    let p = err_from_is_err_and c.from_residual.result c.from_residual.ensures.1 in
    rw (p.1, p.2)
    (record {
      answer = c.in_err-check.ensures ∙ (λ i. check_of s.index s.nx s.ny (gained h.x-size h.vx-size i) (gained h.y-size h.vy-size i) s.a s.b);
      target_is = refl;
    })

pub store_particle-requires : goal.store_particle-requires
store_particle-requires c =
    storable c.args.index c.args.nx c.args.ny (per_particle * c.args.k) c.requires.sizes c.requires.room (read-bound w64 c.requires.mass-size tt)
    (sym c.in_ok-check.ensures)

pub returns : goal.returns
returns c =
    let s = c.args in
    let h = c.requires in
    record {
      answer = c.in_ok-check.ensures ∙ (λ i. check_of s.index s.nx s.ny (gained h.x-size h.vx-size i) (gained h.y-size h.vy-size i) s.a s.b);
      target_is = c.store_particle.ensures ∙ (λ i. particle_stored s.to.now (per_particle * s.k) (read w64 h.mass-size tt i) (gained h.x-size h.vx-size i) (gained h.y-size h.vy-size i) s.a s.b);
    }
