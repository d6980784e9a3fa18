-- The report is not refused. Assumes nothing.
use mathlib.Core.Path.{sym, ap, ◌∙◌}
use Rattle.refusal.specs.Refused.{told}
use Rattle.run_report.proofs.Reports.{report-ok, report-begins}
use Rattle.run_report.proofs.put.Goals as goal

pub unwrap-requires : goal.unwrap-requires
unwrap-requires c = report-ok c.args.outcome c.args.records.now c.args.text.now c.requires.0 c.requires.1 c.report.result c.report.ensures.answer

pub returns : goal.returns
returns c = report-begins c.args.outcome c.args.records.now c.args.text.now c.requires.0 c.requires.1 (ap told (sym c.unwrap.ensures) ∙ c.report.ensures.answer) c.report.ensures.buffer
