-- Document 02, Paper 6: marks travel with the tissue. Gather, step and run leave every record its identifier and its marks, on every
-- path, refused or not, and so does every list of step and run calls. The records are any, accepted or not. Assumes nothing.
use Rattle.std.specs.Prelude.{◌≡◌, List, map, ℕ, ℤ}
use Rattle.refusal.specs.Refused.{Answer}
use Rattle.limits.specs.declared.Caller.{Caller}
use Rattle.particle.specs.Record.{label}
use Rattle.particles.specs.Set.{particles_in}
use Rattle.settings.specs.declared.Settings.{Settings}
use Rattle.apic.specs.Step.{Grids}
use Rattle.apic.specs.Totals.{total_marks}
use Rattle.transfer.specs.Transfer.{GatherIs}
use Rattle.simulation.specs.Step.{step_after}
use Rattle.simulation.specs.Run.{run_after}
use Rattle.simulation.specs.Demand3.{Call, leaves_all}

-- from the records before to those after
pub record KeepsMarks (before after : List ℕ) : Type 0 where
  -- each record's identifier and marks, in the same order
  pub each : map label (particles_in after) ≡ map label (particles_in before)
  pub sum : total_marks (particles_in after) ≡ total_marks (particles_in before)

abbrev pub GatherKeepsMarks : Type 0
GatherKeepsMarks =
    (caller : Caller) (nx ny : ℕ) (records : List ℕ) (ux uy : List ℤ) (told : Answer Unit) (after : List ℕ)
    → GatherIs caller nx ny records ux uy told after → KeepsMarks records after

abbrev pub StepKeepsMarks : Type 0
StepKeepsMarks = (caller : Caller) (s : Settings) (records : List ℕ) (grids : Grids) → KeepsMarks records (step_after caller s records grids).records

abbrev pub RunKeepsMarks : Type 0
RunKeepsMarks =
    (caller : Caller) (s : Settings) (steps : ℕ) (records : List ℕ) (grids : Grids) → KeepsMarks records (run_after caller s steps records grids).records

abbrev pub CallsKeepMarks : Type 0
CallsKeepMarks = (calls : List Call) (records : List ℕ) → KeepsMarks records (leaves_all calls records)
