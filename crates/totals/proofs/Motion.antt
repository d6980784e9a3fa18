-- The motion that Totals answers is that of an accepted set, with the laws of crate `apic`. Assumes nothing.
use mathlib.Core.Path.{◌≡◌, subst}
use mathlib.Core.List.{List}
use Prim.Native.Nat.{ℕ}
use native.Mathlib.Omega.{arith}
use Rattle.refusal.specs.Refused.{gives}
use Rattle.refusal.proofs.Answers.{same-result, went_on}
use Rattle.limits.specs.declared.Caller.{Caller}
use Rattle.arith.specs.Sums.{each_map}
use Rattle.particle.specs.declared.Particle.{Particle}
use Rattle.apic.proofs.Motion.{spline-motion, motion-rest, motion-within, spline-below}
use Rattle.particles.specs.Set.{set_answer}
use Rattle.particles.proofs.Checks.{bench-accepts}
use Rattle.particles.proofs.Accepted.{accepted-limits}
use Rattle.totals.specs.Totals.{totals_of}
use Rattle.totals.specs.Motion.{MotionTells, TotalsMotion}

tells : (c : Caller) (nx ny : ℕ) (bytes : List ℕ) (ps : List Particle) → set_answer c nx ny bytes ≡ gives ps → MotionTells c nx ny bytes (totals_of ps)
tells c nx ny bytes ps e =
    let limits = accepted-limits nx ny bytes (bench-accepts c nx ny bytes e) in
    let rest = motion-rest 1024 ps (omega arith) (each_map _ _ (λ p h. h.mass-least) ps limits.each) in
    record {
      particles = ps;
      accepted = e;
      carried = spline-motion nx ny ps limits.each;
      zero-rests = rest.zero-rests;
      rest-zero = rest.rest-zero;
      least = (motion-within 1024 nx ny ps limits.each).least;
      below = spline-below nx ny ps limits;
    }

pub totals-motion : TotalsMotion
totals-motion c nx ny bytes t e =
    let set = went_on (set_answer c nx ny bytes) _ e in
    subst (MotionTells c nx ny bytes) (same-result set.2) (tells c nx ny bytes set.0 set.1)
