-- Document 01, "Totals", with document 02's motion and marks: the sums over a particle set, and the operation's answer.
-- Assumes nothing.
use Rattle.std.specs.Prelude.{List, [], ◌∷◌, ℕ, ℤ, pos}
use Rattle.refusal.specs.Refused.{Answer, gives, and_then}
use Rattle.limits.specs.declared.Caller.{Caller}
use Rattle.spline.specs.Spline.{D}
use Rattle.particle.specs.declared.Particle.{Particle}
use Rattle.apic.specs.Step.{along_x, along_y}
use Rattle.apic.specs.Totals.{total_mass, momentum, angular_momentum, motion, total_marks}
use Rattle.particles.specs.Set.{set_answer}
use Rattle.totals.specs.declared.Totals.{Totals}

abbrev pub totals_of : List Particle → Totals
totals_of ps =
    record {
      mass = pos (total_mass ps);
      px = momentum along_x ps;
      py = momentum along_y ps;
      spin = angular_momentum ps;
      motion = motion D ps;
      marks = pos (total_marks ps);
    }

-- mass, px, py, spin, motion, marks
abbrev pub sums : Totals → List ℤ
sums t = t.mass ∷ t.px ∷ t.py ∷ t.spin ∷ t.motion ∷ t.marks ∷ []

abbrev pub totals_answer : Caller → ℕ → ℕ → List ℕ → Answer Totals
totals_answer caller nx ny bytes = and_then (set_answer caller nx ny bytes) (λ ps. gives (totals_of ps))
