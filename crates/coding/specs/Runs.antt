-- A run, and the number of completed steps: what a program in another language sees after it. Assumes nothing.
use Rattle.std.specs.Prelude.{◌≡◌, List, ℕ, ℤ}
use Rattle.limits.specs.declared.Caller.{Caller}
use Rattle.settings.specs.declared.Settings.{Settings}
use Rattle.apic.specs.Step.{Grids}
use Rattle.simulation.specs.Step.{Sees}
use Rattle.simulation.specs.Run.{Completion, run_after}
use Rattle.coding.specs.Coded.{coded}

-- the records and grids are those of the run; the number is that of the refusal that stopped it, and the caller gets the number
-- of completed steps, refused or not
pub record RunTells (caller : Caller) (s : Settings) (steps : ℕ) (records : List ℕ) (grids : Grids) (number : ℕ) (records' mass' : List ℕ) (x' y' : List ℤ) (completed' : ℕ) : Type 0 where
  pub completion : Completion
  pub sees : Sees (run_after caller s steps records grids) completion records' mass' x' y'
  pub coded-is : number ≡ coded completion.stop
  pub completed-is : completed' ≡ completion.completed
