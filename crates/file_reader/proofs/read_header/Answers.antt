-- Each way out by the law of its check. Assumes nothing.
use Prim.Native.Nat.{ℕ}
use mathlib.Core.Path.{◌≡◌, sym, ap, ◌∙◌}
use mathlib.Core.List.{List}
use lib.ListN.{take}
use Rattle.std.proofs.lemmas.Result.{err_from_is_err_and}
use Rattle.refusal.specs.Refused.{Answer, gives}
use Rattle.limits.specs.declared.Caller.{Caller}
use Rattle.bath_file.specs.declared.Header.{Header}
use Rattle.bath_file.specs.Layout.{header_length}
use Rattle.bath_file.specs.File.{header_in, checked_header}
use Rattle.bath_file.proofs.Answers.{too_short, header_refused, header-spare, header-accepted}
use Rattle.file_reader.proofs.read_header.Goals as goal

-- what the values' checks answer of the header that the first bytes hold
values : (caller : Caller) (bytes : List ℕ) {h : Header} {a : Answer Header} → h ≡ header_in (take header_length bytes) → a ≡ checked_header caller h (gives h) → checked_header caller (header_in (take header_length bytes)) (gives (header_in (take header_length bytes))) ≡ a
values caller bytes e f = ap (λ h. checked_header caller h (gives h)) (sym e) ∙ sym f

pub returns-then-bytes-lt-HEADER_LENGTH : goal.returns-then-bytes-lt-HEADER_LENGTH
returns-then-bytes-lt-HEADER_LENGTH c = sym (too_short _ c.args.bytes.now c.if-bytes-lt-HEADER_LENGTH.true)

pub returns-then-not-spare_is_zero : goal.returns-then-not-spare_is_zero
returns-then-not-spare_is_zero c =
    let b = c.args.bytes.now in
    sym (header-spare _ b c.if-bytes-lt-HEADER_LENGTH.false (values c.args.caller b c.unpack.ensures c.in_ok-h.ensures) (sym c.if-not-spare_is_zero.ensures))

pub returns-in_err-h : goal.returns-in_err-h
returns-in_err-h c =
    let b = c.args.bytes.now in
    let p = err_from_is_err_and c.from_residual.result c.from_residual.ensures.1 in
    rw (p.1, p.2) (sym (header_refused _ b c.if-bytes-lt-HEADER_LENGTH.false (values c.args.caller b c.unpack.ensures c.in_err-h.ensures)))

pub returns : goal.returns
returns c =
    let b = c.args.bytes.now in
    sym (header-accepted _ b c.if-bytes-lt-HEADER_LENGTH.false (values c.args.caller b c.unpack.ensures c.in_ok-h.ensures) (sym c.if-not-spare_is_zero.ensures))
