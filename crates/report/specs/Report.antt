-- The whole text that the program prints, for each outcome, and what the function that fills the buffer answers.
-- Assumes nothing.
use Rattle.std.specs.Prelude.{ℕ, ◌+◌, ◌*◌, not, List, ◌++◌, ltb, length, drop}
use Rattle.refusal.specs.Refused.{Answer, gives, refused, refuse_if, number, place}
use Rattle.limits.specs.Limits.{most_records}
use Rattle.totals.specs.declared.Totals.{Totals}
use Rattle.particles.specs.Set.{particles_in, valid_length}
use Rattle.report.specs.declared.Outcome.{Outcome}
use Rattle.report.specs.declared.Outcome.TheVariants.{Refused, Done, Stopped}
use Rattle.report.specs.Lines.{refused_line, done_line, totals_line, particle_lines}

-- completed steps, refusal and place; then the totals; then each record
unfoldable pub run_text : ℕ → ℕ → ℕ → Totals → List ℕ → List ℕ
run_text completed n k totals records = done_line completed n k ++ (totals_line totals ++ particle_lines (particles_in records))

-- a refused file prints its refusal alone
abbrev pub text_of : Outcome → List ℕ → List ℕ
text_of (Refused e) records = refused_line (number e) (place e)
text_of (Done completed totals) records = run_text completed 0 0 totals records
text_of (Stopped completed e totals) records = run_text completed (number e) (place e) totals records

-- the length of a buffer that every text fits: room for the first two lines, and for each record's
abbrev pub head_length : ℕ
head_length = 224

abbrev pub line_length : ℕ
line_length = 57

abbrev pub report_length : ℕ
report_length = head_length + line_length * most_records

-- 1 records that are not whole or too many, or a buffer that is too short; the result is the text's length
unfoldable pub report_answer : Outcome → List ℕ → List ℕ → Answer ℕ
report_answer outcome records out =
    refuse_if (not (valid_length (length records))) 1 0
    (refuse_if (ltb (length out) report_length) 1 0 (gives (length (text_of outcome records))))

-- the buffer afterwards: it begins with the text where the answer is a result, and else it is what it was
abbrev pub filled_unless : Answer ℕ → List ℕ → List ℕ → List ℕ
filled_unless (gives n) text out = text ++ drop n out
filled_unless (refused n k) text out = out

unfoldable pub filled : Outcome → List ℕ → List ℕ → List ℕ
filled outcome records out = filled_unless (report_answer outcome records out) (text_of outcome records) out
