-- A run's answer and records do not depend on what its grids hold. Assumes nothing.
use Prim.Native.Nat.{ℕ, zero, suc}
use mathlib.Core.Path.{◌≡◌, refl, subst}
use mathlib.Core.List.{List}
use Rattle.refusal.specs.Refused.{Answer, gives, refused, either}
use Rattle.limits.specs.declared.Caller.{Caller}
use Rattle.particle.specs.declared.Particle.{Particle}
use Rattle.settings.specs.declared.Settings.{Settings}
use Rattle.apic.specs.Step.{Grids}
use Rattle.simulation.specs.Step.{After}
use Rattle.simulation.specs.Run.{Completion, run_from, run_by, run_entry, run_after}
use Rattle.program.specs.Laws.{SameLengths, AnyGrids}

abbrev SameRun : After Completion → After Completion → Type 0
SameRun a b = (a.answer ≡ b.answer) × (a.records ≡ b.records)

same-steps : (s : Settings) (n : ℕ) (records : List ℕ) (ps : List Particle) (g h : Grids) → SameRun (run_from s n records ps g) (run_from s n records ps h)
unfolding run_by
same-steps s zero records ps g h = (refl, refl)
same-steps s (suc n) records ps g h = (refl, refl)

module _ (caller : Caller) (s : Settings) (steps : ℕ) (records : List ℕ) where
  same-entry : (g h : Grids) → SameLengths g h → run_entry caller s steps records g ≡ run_entry caller s steps records h
  unfolding run_entry
  same-entry g h same = rw (same.mass, same.x, same.y)

  abbrev by : Grids → Answer (List Particle) → After Completion
  by g a =
      either a (λ ps. run_from s steps records ps g)
      (λ n k. record { answer = record { completed = 0; stop = refused n k }; records = records; grids = g })

  same_after : (g h : Grids) (a : Answer (List Particle)) → SameRun (by g a) (by h a)
  same_after g h (gives ps) = same-steps s steps records ps g h
  same_after g h (refused n k) = (refl, refl)

pub any-grids : AnyGrids
unfolding run_after
any-grids caller s steps records g h same =
    subst (λ a. SameRun (by caller s steps records g (run_entry caller s steps records g)) (by caller s steps records h a))
    (same-entry caller s steps records g h same) (same_after caller s steps records g h (run_entry caller s steps records g))
