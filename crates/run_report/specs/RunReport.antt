-- Document 01, "The program": the report of a run. Assumes nothing.
use Rattle.std.specs.Prelude.{ℕ, List}
use Rattle.refusal.specs.Refused.{either}
use Rattle.particles.specs.Set.{particles_in}
use Rattle.totals.specs.Totals.{totals_of}
use Rattle.simulation.specs.Run.{Completion}
use Rattle.report.specs.Report.{run_text}

-- "completed steps, refusal (0 for none) and place; then the totals; then each record"
unfoldable pub report_of : Completion → List ℕ → List ℕ
report_of c records =
    let totals = totals_of (particles_in records) in
    either c.stop
    (λ _. run_text c.completed 0 0 totals records)
    (λ number place. run_text c.completed number place totals records)
