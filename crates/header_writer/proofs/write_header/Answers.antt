-- The length, the values, and the buffer that goes with the answer. Assumes nothing.
use mathlib.Core.Path.{◌≡◌, sym, ap, subst, ◌∙◌}
use Rattle.std.proofs.lemmas.Result.{err_from_is_err_and}
use Rattle.refusal.specs.Refused.{gives}
use Rattle.refusal.proofs.Answers.{same-result}
use Rattle.limits.specs.declared.Caller.TheVariants.{Bench}
use Rattle.bath_file.specs.File.{header_of, checked_header}
use Rattle.bath_file.proofs.Checks.{valid, passes}
use Rattle.bath_file.proofs.Answers.{after, long, write-refused, write-accepted}
use Rattle.header_writer.proofs.write_header.Goals as goal

pub returns-then-bytes-ne-HEADER_LENGTH : goal.returns-then-bytes-ne-HEADER_LENGTH
returns-then-bytes-ne-HEADER_LENGTH c =
    let e = long c.args.h c.args.bytes.now c.if-bytes-ne-HEADER_LENGTH.true in
    record { answer = sym e; buffer = sym (after c.args.h c.args.bytes.now e) }

pub pack-requires : goal.pack-requires
pack-requires c =
    let h = c.args.h in
    let v = valid Bench h (gives h) (sym c.in_ok-accepted.ensures) in
    (subst (λ h. checked_header Bench h (gives h) ≡ gives h) (same-result v.1) (passes Bench h (gives h) v.0), c.if-bytes-ne-HEADER_LENGTH.false)

pub returns-in_err-accepted : goal.returns-in_err-accepted
returns-in_err-accepted c =
    let e = write-refused c.args.h c.args.bytes.now c.if-bytes-ne-HEADER_LENGTH.false (sym c.in_err-accepted.ensures) in
    let p = err_from_is_err_and c.from_residual.result c.from_residual.ensures.1 in
    record { answer = rw (p.1, p.2) (sym e); buffer = sym (after c.args.h c.args.bytes.now e) }

pub returns : goal.returns
returns c =
    let h = c.args.h in
    let l = c.args.bytes.now in
    let v = valid Bench h _ (sym c.in_ok-accepted.ensures) in
    let e = write-accepted h l c.if-bytes-ne-HEADER_LENGTH.false v.0 in
    record { answer = sym e; buffer = c.pack.ensures ∙ ap header_of (sym (same-result v.1)) ∙ sym (after h l e) }
