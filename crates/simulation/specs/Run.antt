-- Document 01, "A run repeats the step", and the operation run: what a caller with any numbers and any buffers sees after a
-- call. Assumes nothing.
use Rattle.std.specs.Prelude.{List, ℕ, zero, suc, ℤ, Result, Ok, Err}
use Rattle.refusal.specs.Refused.{Answer, refused, refused_by, either, done}
use Rattle.limits.specs.declared.Caller.{Caller}
use Rattle.spline.specs.Spline.{axis_weight, D}
use Rattle.entry.specs.Entry.{entry_answer}
use Rattle.particle.specs.declared.Particle.{Particle}
use Rattle.particles.specs.Set.{records_of}
use Rattle.settings.specs.declared.Settings.{Settings}
use Rattle.simulation.specs.declared.Stop.{Stop}
use Rattle.apic.specs.Step.{Grids}
use Rattle.simulation.specs.Step.{After, buffers_of, step_by, nodes_by}

-- "the number of completed steps, and the first refusal if one stopped it"; `done` where none did
pub record Completion : Type 0 where
  pub completed : ℕ
  pub stop : Answer Unit

-- what a run's result tells
abbrev pub told_ran : Result ℕ Stop → Completion
told_ran (Ok n) = record { completed = n; stop = done }
told_ran (Err s) = record { completed = s.completed; stop = refused_by s.refusal }

-- one completed step more
abbrev pub after_one : After Completion → After Completion
after_one r =
    record {
      answer = record { completed = suc r.answer.completed; stop = r.answer.stop };
      records = r.records;
      grids = r.grids;
    }

-- n steps from the particles ps of the records, with axis weights w and their second moment d, or as many as come before the
-- first that is refused: it leaves the records of the last completed step and the grids of the last step tried
unfoldable pub run_by : (ℕ → ℕ → ℤ) → ℕ → Settings → ℕ → List ℕ → List Particle → Grids → After Completion
run_by w d s zero records ps grids = record { answer = record { completed = 0; stop = done }; records = records; grids = grids }
run_by w d s (suc n) records ps grids =
    either (step_by w d s ps)
    (λ qs. after_one (run_by w d s n (records_of qs) qs (nodes_by w d s ps)))
    (λ k p. record { answer = record { completed = 0; stop = refused k p }; records = records; grids = nodes_by w d s ps })

-- with the spline's
abbrev pub run_from : Settings → ℕ → List ℕ → List Particle → Grids → After Completion
run_from = run_by axis_weight D

-- 2; 1, also for the grid buffers; 3; 10; 18; 19; 17 steps above 10,000; the set
unfoldable pub run_entry : Caller → Settings → ℕ → List ℕ → Grids → Answer (List Particle)
run_entry caller s steps records grids = entry_answer caller s (buffers_of grids) steps records

-- "a run refused at entry answers 0 completed steps with that refusal", and nothing has changed
unfoldable pub run_after : Caller → Settings → ℕ → List ℕ → Grids → After Completion
run_after caller s steps records grids =
    either (run_entry caller s steps records grids) (λ ps. run_from s steps records ps grids)
    (λ n k. record { answer = record { completed = 0; stop = refused n k }; records = records; grids = grids })
