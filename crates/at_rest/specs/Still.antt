-- Document 02, Paper 5: still tissue does not creep. Particles at rest, with open edges, no drag and gravity of at most half a
-- velocity unit on each axis, are left as they are by every run, and so by every list of step and run calls. Assumes nothing.
use Rattle.std.specs.Prelude.{◌≡◌, List, ℕ, ◌≤◌, nat_abs}
use Rattle.refusal.specs.Refused.{gives, done}
use Rattle.arith.specs.Sums.{Each}
use Rattle.limits.specs.declared.Caller.{Caller}
use Rattle.particle.specs.declared.Particle.{Particle}
use Rattle.particles.specs.Set.{Bytes, particles_in}
use Rattle.settings.specs.declared.Settings.{Settings}
use Rattle.settings.specs.Settings.{Plain}
use Rattle.apic.specs.Step.{Grids}
use Rattle.apic.specs.Motion.{AtRest}
use Rattle.simulation.specs.Run.{run_entry, run_after}
use Rattle.simulation.specs.Demand3.{Call, settings_of, leaves_all}

-- in 256ths of a velocity unit
abbrev pub half_unit : ℕ
half_unit = 128

pub record Gentle (s : Settings) : Type 0 where
  pub plain : Plain s
  pub gravity-x : nat_abs s.gx ≤ half_unit
  pub gravity-y : nat_abs s.gy ≤ half_unit

-- records whose particles are at rest: accepted or not, since a set that is not accepted is refused and left
pub record Still (records : List ℕ) : Type 0 where
  pub bytes : Bytes records
  pub at_rest : Each AtRest (particles_in records)

-- a run leaves the records; and where its checks at entry pass, it completes all its steps
pub record Rests (caller : Caller) (s : Settings) (steps : ℕ) (records : List ℕ) (grids : Grids) : Type 0 where
  pub left : (run_after caller s steps records grids).records ≡ records
  pub completes : (ps : List Particle) → run_entry caller s steps records grids ≡ gives ps → (run_after caller s steps records grids).answer ≡ record { completed = steps; stop = done }

abbrev pub StillRests : Type 0
StillRests =
    (records : List ℕ) → Still records → (caller : Caller) (s : Settings) → Gentle s → (steps : ℕ) (grids : Grids) → Rests caller s steps records grids

abbrev pub StillThroughCalls : Type 0
StillThroughCalls =
    (records : List ℕ) → Still records → (calls : List Call) → Each (λ c. Gentle (settings_of c)) calls → leaves_all calls records ≡ records
