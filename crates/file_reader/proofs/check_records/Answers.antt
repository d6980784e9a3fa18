-- The length, and then the set. Assumes nothing.
use native.Mathlib.Omega.{arith}
use mathlib.Core.Path.{◌≡◌, sym}
use Rattle.std.proofs.lemmas.Result.{err_from_is_err_and}
use Rattle.refusal.specs.Refused.{gives}
use Rattle.limits.specs.declared.Caller.TheVariants.{Bench}
use Rattle.particles.proofs.Checks.{size-limits}
use Rattle.bath_file.specs.declared.Header.{Header}
use Rattle.bath_file.specs.File.{checked_header}
use Rattle.bath_file.proofs.Checks.{Valid, valid}
use Rattle.bath_file.proofs.Answers.{wrong-records, records-accepted, records-refused}
use Rattle.file_reader.proofs.check_records.Goals as goal

accepted : (h : Header) → checked_header Bench h (gives h) ≡ gives h → Valid Bench h
accepted h p = (valid Bench h (gives h) p).0

pub overflow_mul-count : goal.overflow_mul-count
overflow_mul-count c = record { fits = omega (arith, (accepted c.args.h c.requires).count-to) }

pub overflow_add-count : goal.overflow_add-count
overflow_add-count c = record { fits = omega (arith, (accepted c.args.h c.requires).count-to) }

pub returns-then-bytes-count : goal.returns-then-bytes-count
returns-then-bytes-count c = sym (wrong-records c.args.h c.args.bytes.now c.if-bytes-count.true)

pub check-requires : goal.check-requires
check-requires c = let v = accepted c.args.h c.requires in (size-limits Bench _ _ v.size, v.count-to, omega arith)

pub returns-in_err-check : goal.returns-in_err-check
returns-in_err-check c =
    let p = err_from_is_err_and c.from_residual.result c.from_residual.ensures.1 in
    rw (p.1, p.2) (sym (records-refused c.args.h c.args.bytes.now c.if-bytes-count.false (sym c.in_err-check.ensures)))

pub returns : goal.returns
returns c = sym (records-accepted c.args.h c.args.bytes.now c.if-bytes-count.false (sym c.in_ok-check.ensures))
