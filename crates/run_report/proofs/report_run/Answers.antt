-- The text is that of the outcome. Assumes nothing.
use mathlib.Core.Path.{sym, ap, subst, ◌∙◌}
use Rattle.refusal.specs.Refused.{told}
use Rattle.refusal.proofs.Answers.{same-result}
use Rattle.report.specs.Report.{text_of}
use Rattle.run_report.specs.Internal.{outcome_of, Begins}
use Rattle.run_report.proofs.Reports.{report-text}
use Rattle.run_report.proofs.report_run.Goals as goal

pub returns : goal.returns
returns c =
    let records = c.args.records.now in
    let totals = same-result (ap told (sym c.unwrap-totals.ensures) ∙ c.set_totals.ensures ∙ c.requires.totals) in
    subst (λ t. Begins t c.args.text.now c.put.result c.put.new.text)
    (ap (λ o. text_of o records) (c.outcome.ensures ∙ ap (outcome_of c.args.ran) totals) ∙ report-text c.args.ran records) c.put.ensures
