-- Of a longer input the first `room_for_file` bytes decide: both are refused alike, for their header or for their length.
-- Assumes nothing.
use Prim.Native.Nat.{ℕ, ◌+◌, ◌*◌, ◌≤◌}
use native.Mathlib.Omega.{arith}
use native.Mathlib.Decide.{dec_le}
use mathlib.Core.Path.{◌≡◌, refl, sym, ap, ◌∙◌}
use mathlib.Core.List.{List}
use borrow.Author.Tests.{le-ltb}
use lib.ListN.{length, take}
use lib.Seq.{take_all, take-take, length-take-le}
use Rattle.refusal.specs.Refused.{Answer, gives, refused, and_then, either}
use Rattle.limits.specs.Limits.{most_records}
use Rattle.limits.specs.declared.Caller.TheVariants.{Bench}
use Rattle.particle.specs.Layout.{record_length}
use Rattle.bath_file.specs.declared.Header.{Header}
use Rattle.bath_file.specs.Layout.{header_length}
use Rattle.bath_file.specs.File.{header_answer, records_answer, room_for_file, file_answer}
use Rattle.bath_file.proofs.Answers.{header-held, wrong-records}
use Rattle.report.specs.Lines.{refused_line}
use Rattle.program.specs.Program.{program_text}
use Rattle.program.specs.Laws.{LongerInput}
use Rattle.program.proofs.Files.{text-by}

-- two long inputs with the same first bytes have the same header
module _ (bytes bytes' : List ℕ) (l : header_length ≤ length bytes) (l' : header_length ≤ length bytes') where
  same-header : take header_length bytes ≡ take header_length bytes' → header_answer Bench bytes ≡ header_answer Bench bytes'
  unfolding header_answer
  same-header e = rw (le-ltb (length bytes) header_length l, le-ltb (length bytes') header_length l', e)

-- no header counts as many records as so many bytes and more would hold
too_long : (bytes : List ℕ) (h : Header) → room_for_file ≤ length bytes → header_answer Bench bytes ≡ gives h → records_answer h bytes ≡ refused 1 0
too_long bytes h l e = wrong-records h bytes (λ n. never (length bytes) h.count l (header-held Bench bytes e).valid.count-to n)
  where
    never : (n c : ℕ) → room_for_file ≤ n → c ≤ most_records → n ≡ header_length + record_length * c → ⊥
    never n c a b d = omega arith

-- the refusal of a file that is too long is that of its header, or of its length
file-too-long : (bytes : List ℕ) → room_for_file ≤ length bytes → file_answer Bench bytes ≡ and_then (header_answer Bench bytes) (λ h. refused 1 0)
file-too-long bytes l = go (header_answer Bench bytes) refl
  where
    go : (a : Answer Header) → header_answer Bench bytes ≡ a → and_then a (λ h. records_answer h bytes) ≡ and_then a (λ h. refused 1 0)
    go (gives h) e = too_long bytes h l e
    go (refused n k) e = refl

-- so what a run would print does not count
abbrev unread : Answer Header → (Header → List ℕ) → List ℕ
unread a report = either (and_then a (λ h. refused 1 0)) report refused_line

not-run : (a : Answer Header) (f g : Header → List ℕ) → unread a f ≡ unread a g
not-run (gives h) f g = refl
not-run (refused n k) f g = refl

longer : (bytes : List ℕ) → room_for_file ≤ length bytes → program_text bytes ≡ program_text (take room_for_file bytes)
longer bytes l =
    let first = take room_for_file bytes in
    let m : room_for_file ≤ length first = omega (arith, length-take-le room_for_file bytes l) in
    let h = same-header bytes first (omega arith) (omega arith) (sym (take-take header_length room_for_file bytes (omega arith))) in
    text-by bytes (file-too-long bytes l ∙ ap (λ a. and_then a (λ h. refused 1 0)) h)
    ∙ not-run (header_answer Bench first) _ _
    ∙ sym (text-by first (file-too-long first m))

pub longer-input : LongerInput
longer-input bytes = go (dec_le (length bytes) room_for_file)
  where
    go : Dec (length bytes ≤ room_for_file) → program_text bytes ≡ program_text (take room_for_file bytes)
    go (yes h) = ap program_text (sym (take_all room_for_file bytes h))
    go (no h) = longer bytes (omega arith)
