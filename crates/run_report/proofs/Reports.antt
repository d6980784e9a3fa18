-- The report of a run, and a text at the beginning of a buffer.
--     report-text             the text of a run's outcome is document 01's report of it
--     report-ok, report-begins   what `report_text::report` makes of whole records and a buffer that every report fits
-- Assumes nothing.
use Prim.Native.Nat.{ℕ, ◌≤◌}
use mathlib.Core.Path.{◌≡◌, refl, ◌∙◌}
use mathlib.Core.Bool.{true}
use mathlib.Core.List.{List}
use borrow.Author.Tests.{le-ltb}
use lib.ListN.{length}
use Rattle.std.specs.Prelude.{Result, Ok, Err, IsOk}
use Rattle.refusal.specs.declared.Refusal.{Refusal}
use Rattle.refusal.specs.Refused.{gives, told}
use Rattle.refusal.proofs.Answers.{same-result, not-result}
use Rattle.particles.specs.Set.{valid_length, particles_in}
use Rattle.totals.specs.Totals.{totals_of}
use Rattle.simulation.specs.declared.Stop.{Stop}
use Rattle.simulation.specs.Run.{told_ran}
use Rattle.report.specs.declared.Outcome.{Outcome}
use Rattle.report.specs.Report.{report_length, text_of, report_answer, filled}
use Rattle.report.proofs.Answers.{after}
use Rattle.run_report.specs.RunReport.{report_of}
use Rattle.run_report.specs.Internal.{outcome_of, Begins}

pub report-text : (r : Result ℕ Stop) (records : List ℕ) → text_of (outcome_of r (totals_of (particles_in records))) records ≡ report_of (told_ran r) records
unfolding report_of
report-text (Ok n) records = refl
report-text (Err s) records = refl

module _ (o : Outcome) (records text : List ℕ) (whole : valid_length (length records) ≡ true) (room : report_length ≤ length text) where
  put-length : report_answer o records text ≡ gives (length (text_of o records))
  unfolding report_answer
  put-length = rw (whole, le-ltb (length text) report_length room)

  pub report-ok : (r : Result ℕ Refusal) → told r ≡ report_answer o records text → IsOk r
  report-ok (Ok n) e = refl
  report-ok (Err f) e = not-result (e ∙ put-length)

  pub report-begins : {n : ℕ} {text' : List ℕ} → gives n ≡ report_answer o records text → text' ≡ filled o records text → Begins (text_of o records) text n text'
  report-begins e f = record { long = same-result (e ∙ put-length); buffer = f ∙ after o records text put-length }
