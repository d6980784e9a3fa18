-- The checks, and then the text. Assumes nothing.
use borrow.Author.Rules.{rules}
use mathlib.Core.Path.{refl, sym, ap, ◌∙◌}
use Rattle.refusal.specs.Refused.{gives}
use Rattle.report.proofs.Answers.{bad-records, small-buffer, filled-answer, after}
use Rattle.report_text.proofs.report.Goals as goal

pub returns-then-not-length_is_valid : goal.returns-then-not-length_is_valid
returns-then-not-length_is_valid c =
    let a = c.args in
    let e = bad-records a.outcome a.records.now a.out.now (sym c.if-not-length_is_valid.ensures) in
    record { answer = sym e; buffer = sym (after a.outcome a.records.now a.out.now e) }

pub returns-then-out-lt-REPORT_LENGTH : goal.returns-then-out-lt-REPORT_LENGTH
returns-then-out-lt-REPORT_LENGTH c =
    let a = c.args in
    let e = small-buffer a.outcome a.records.now a.out.now (sym c.if-not-length_is_valid.ensures) c.if-out-lt-REPORT_LENGTH.true in
    record { answer = sym e; buffer = sym (after a.outcome a.records.now a.out.now e) }

pub returns : goal.returns
returns c =
    let a = c.args in
    let p = c.put_outcome.ensures in
    let both = filled-answer a.outcome a.records.now a.out.now refl (sym c.if-not-length_is_valid.ensures) c.if-out-lt-REPORT_LENGTH.false c.new-text.ensures p in
    let lent = sym (p.lent ∙ c.new-text.ensures.lent) in
    record { answer = ap gives c.length.ensures ∙ both.0; buffer = search (rules, both.1, lent) }
