-- The limits of a particle's values as facts about numbers.
--     write-valid       what `write_particle` accepts is valid, and `valid-write` back
-- Assumes nothing.
use mathlib.Core.Path.{◌≡◌, refl}
use mathlib.Core.Bool.{Bool, true, false, not, ◌&&◌}
use borrow.Author.Tests.{leb-true, le-leb}
use lib.Dec.{leb}
use Rattle.refusal.specs.Refused.{gives, refuse_if}
use Rattle.refusal.proofs.Answers.{not-result}
use Rattle.limits.specs.Limits.{least_mass, most_mass, most_velocity, most_affine, most_position, valid_mass, valid_affine}
use Rattle.limits.proofs.Within.{both, both-back, two-within, two-within-back}
use Rattle.particle.specs.declared.Particle.{Particle}
use Rattle.particle.specs.Record.{Valid, valid_velocities, valid_affines, valid_positions, write_particle}

-- four checks that end in a result: none of them refused
checks : (m v b x : Bool) → refuse_if {A = Unit} (not m) 4 0 (refuse_if (not v) 5 0 (refuse_if (not b) 6 0 (refuse_if (not x) 7 0 (gives tt)))) ≡ gives tt → (m ≡ true) × (v ≡ true) × (b ≡ true) × (x ≡ true)
checks false v b x e = not-result e
checks true false b x e = not-result e
checks true true false x e = not-result e
checks true true true false e = not-result e
checks true true true true e = (refl, refl, refl, refl)

pub write-valid : (p : Particle) → write_particle p ≡ gives tt → Valid p
unfolding write_particle
write-valid p e =
    let first : Bool = valid_affine p.bxx && valid_affine p.bxy in
    let second : Bool = valid_affine p.byx && valid_affine p.byy in
    let t = checks (valid_mass p.mass) (valid_velocities p) (valid_affines p) (valid_positions p) e in
    let m = both (leb least_mass p.mass) (leb p.mass most_mass) t.0 in
    let v = two-within most_velocity p.vx p.vy t.1 in
    let b = both first second t.2 in
    let b₁ = two-within most_affine p.bxx p.bxy b.0 in
    let b₂ = two-within most_affine p.byx p.byy b.1 in
    let x = both (leb p.x most_position) (leb p.y most_position) t.3 in
    record {
      mass-from = leb-true least_mass p.mass m.0;
      mass-to = leb-true p.mass most_mass m.1;
      vx-to = v.0;
      vy-to = v.1;
      bxx-to = b₁.0;
      bxy-to = b₁.1;
      byx-to = b₂.0;
      byy-to = b₂.1;
      x-to = leb-true p.x most_position x.0;
      y-to = leb-true p.y most_position x.1;
    }

checks-back : (m v b x : Bool) → m ≡ true → v ≡ true → b ≡ true → x ≡ true → refuse_if {A = Unit} (not m) 4 0 (refuse_if (not v) 5 0 (refuse_if (not b) 6 0 (refuse_if (not x) 7 0 (gives tt)))) ≡ gives tt
checks-back m v b x p q r s = rw (p, q, r, s)

pub valid-write : (p : Particle) → Valid p → write_particle p ≡ gives tt
unfolding write_particle
valid-write p v =
    let first : Bool = valid_affine p.bxx && valid_affine p.bxy in
    let second : Bool = valid_affine p.byx && valid_affine p.byy in
    checks-back
    (valid_mass p.mass)
    (valid_velocities p)
    (valid_affines p)
    (valid_positions p)
    (both-back (leb least_mass p.mass) (leb p.mass most_mass) (le-leb least_mass p.mass v.mass-from) (le-leb p.mass most_mass v.mass-to))
    (two-within-back most_velocity p.vx p.vy v.vx-to v.vy-to)
    (both-back first second (two-within-back most_affine p.bxx p.bxy v.bxx-to v.bxy-to) (two-within-back most_affine p.byx p.byy v.byx-to v.byy-to))
    (both-back (leb p.x most_position) (leb p.y most_position) (le-leb p.x most_position v.x-to) (le-leb p.y most_position v.y-to))
