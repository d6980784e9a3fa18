-- The answer and the buffer of a report, way by way. Assumes nothing.
use Prim.Native.Nat.{ℕ, ◌≤◌, ◌<◌}
use mathlib.Core.Path.{◌≡◌, sym, ap, ◌∙◌}
use mathlib.Core.Bool.{true, false}
use mathlib.Core.List.{List, ◌++◌}
use borrow.Author.Tests.{lt-ltb, le-ltb}
use lib.ListN.{length, drop}
use Rattle.std.specs.Borrow.{MutBor}
use Rattle.refusal.specs.Refused.{Answer, gives, refused}
use Rattle.particles.specs.Set.{valid_length}
use Rattle.report.specs.declared.Outcome.{Outcome}
use Rattle.text.specs.declared.Text.{Text}
use Rattle.text.specs.Internal.{Begun, Put}
use Rattle.text.proofs.Puts.{put-first}
use Rattle.report.specs.Report.{text_of, report_length, report_answer, filled_unless, filled}

module _ (o : Outcome) (records out : List ℕ) where
  -- the buffer follows from the answer
  pub after : {a : Answer ℕ} → report_answer o records out ≡ a → filled o records out ≡ filled_unless a (text_of o records) out
  unfolding filled
  after e = ap (λ a. filled_unless a (text_of o records) out) e

  pub bad-records : valid_length (length records) ≡ false → report_answer o records out ≡ refused 1 0
  unfolding report_answer
  bad-records v = rw v

  pub small-buffer : valid_length (length records) ≡ true → length out < report_length → report_answer o records out ≡ refused 1 0
  unfolding report_answer
  small-buffer v h = rw (v, lt-ltb (length out) report_length h)

  reported : valid_length (length records) ≡ true → report_length ≤ length out → report_answer o records out ≡ gives (length (text_of o records))
  unfolding report_answer
  reported v h = rw (v, le-ltb (length out) report_length h)

  pub filled-answer : {buffer : MutBor (List ℕ)} {t t' : Text} → buffer.now ≡ out → valid_length (length records) ≡ true → report_length ≤ length out → Begun buffer t → Put t (text_of o records) t' → (gives t'.length ≡ report_answer o records out) × (t'.buffer.now ≡ filled o records out)
  filled-answer e v h b p =
      let r = reported v h in
      let q = put-first b p in (
        ap gives q.0 ∙ sym r,
        q.1 ∙ ap (λ l. text_of o records ++ drop (length (text_of o records)) l) e ∙ sym (after r),
      )
