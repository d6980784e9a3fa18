-- Document 01, "A run repeats the step": a run is a call of step, and where that is done a run of one step fewer on what it
-- left. Assumes nothing.
use Rattle.std.specs.Prelude.{◌≡◌, List, ℕ, suc, ◌<◌}
use Rattle.refusal.specs.Refused.{Answer, refused, either}
use Rattle.limits.specs.Limits.{most_steps}
use Rattle.limits.specs.declared.Caller.{Caller}
use Rattle.settings.specs.declared.Settings.{Settings}
use Rattle.apic.specs.Step.{Grids}
use Rattle.simulation.specs.Step.{After, step_after}
use Rattle.simulation.specs.Run.{Completion, after_one, run_after}

-- n steps more after a call of step; where it was refused, none is completed and what it left stays
abbrev pub then_run : Caller → Settings → ℕ → After (Answer Unit) → After Completion
then_run caller s n a =
    either a.answer (λ _. after_one (run_after caller s n a.records a.grids))
    (λ k p. record { answer = record { completed = 0; stop = refused k p }; records = a.records; grids = a.grids })

-- for every call of run that wants at least one step and at most 10,000
abbrev pub RunIsSteps : Type 0
RunIsSteps =
    (caller : Caller) (s : Settings) (n : ℕ) (records : List ℕ) (grids : Grids) → n < most_steps
    → run_after caller s (suc n) records grids ≡ then_run caller s n (step_after caller s records grids)
