-- What the internal functions are given and leave: their contracts name these, and no public one does. Assumes nothing.
use Rattle.std.specs.Prelude.{ℕ, ◌≤◌, ◌≡◌, true, List, ◌++◌, length, drop, Result, Ok, Err}
use Rattle.refusal.specs.Refused.{gives}
use Rattle.limits.specs.declared.Caller.TheVariants.{Bench}
use Rattle.particles.specs.Set.{valid_length, particles_in}
use Rattle.totals.specs.declared.Totals.{Totals}
use Rattle.totals.specs.Totals.{totals_of, totals_answer}
use Rattle.simulation.specs.declared.Stop.{Stop}
use Rattle.bath_file.specs.declared.Header.{Header}
use Rattle.report.specs.declared.Outcome.{Outcome}
use Rattle.report.specs.declared.Outcome.TheVariants.{Done, Stopped}
use Rattle.report.specs.Report.{report_length}

-- records that a run left, and a buffer that every report fits
pub record Reportable (h : Header) (records text : List ℕ) : Type 0 where
  pub totals : totals_answer Bench h.nx h.ny records ≡ gives (totals_of (particles_in records))
  pub whole : valid_length (length records) ≡ true
  pub room : report_length ≤ length text

-- what a run comes to, with the totals of the records that it left
abbrev pub outcome_of : Result ℕ Stop → Totals → Outcome
outcome_of (Ok n) t = Done n t
outcome_of (Err s) t = Stopped s.completed s.refusal t

-- a text was put at the beginning of a buffer, and n is its length
pub record Begins (text before : List ℕ) (n : ℕ) (after : List ℕ) : Type 0 where
  pub long : n ≡ length text
  pub buffer : after ≡ text ++ drop (length text) before
