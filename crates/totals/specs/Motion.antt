-- Document 02, request 3, of what Totals answers: the motion of an accepted set. Assumes nothing.
use Rattle.std.specs.Prelude.{◌≡◌, List, ℕ, ◌*◌, ◌^◌, pos, ◌*ℤ◌, ◌≤ℤ◌, ◌<ℤ◌}
use Rattle.refusal.specs.Refused.{gives}
use Rattle.limits.specs.declared.Caller.{Caller}
use Rattle.arith.specs.Sums.{Each}
use Rattle.spline.specs.Spline.{axis_weight}
use Rattle.particle.specs.declared.Particle.{Particle}
use Rattle.apic.specs.Motion.{carried_motion, AtRest}
use Rattle.particles.specs.Set.{set_answer}
use Rattle.totals.specs.declared.Totals.{Totals}
use Rattle.totals.specs.Totals.{totals_answer}

pub record MotionTells (caller : Caller) (nx ny : ℕ) (bytes : List ℕ) (t : Totals) : Type 0 where
  pub particles : List Particle
  pub accepted : set_answer caller nx ny bytes ≡ gives particles
  -- Σ m·w·|1024·v + B·d|² over each particle and every node, both axes
  pub carried : pos (2 ^ 26 * 1024) *ℤ t.motion ≡ carried_motion axis_weight 1024 nx ny particles
  -- 0 exactly where every velocity and every entry of B is
  pub zero-rests : t.motion ≡ pos 0 → Each AtRest particles
  pub rest-zero : Each AtRest particles → t.motion ≡ pos 0
  -- never negative, and far from the ends of 64 bits
  pub least : pos 0 ≤ℤ t.motion
  pub below : t.motion <ℤ pos (2 ^ 42)

-- whatever set Totals answers, whoever calls
abbrev pub TotalsMotion : Type 0
TotalsMotion =
    (caller : Caller) (nx ny : ℕ) (bytes : List ℕ) (t : Totals) → totals_answer caller nx ny bytes ≡ gives t → MotionTells caller nx ny bytes t
