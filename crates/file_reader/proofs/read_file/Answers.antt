-- A header that is read passes the bench's checks. Assumes nothing.
use mathlib.Core.Path.{sym}
use Rattle.limits.specs.declared.Caller.TheVariants.{Bench}
use Rattle.bath_file.proofs.Checks.{bench-valid, passes}
use Rattle.bath_file.proofs.Answers.{header-held}
use Rattle.file_reader.proofs.read_file.Goals as goal

pub check_records-requires : goal.check_records-requires
check_records-requires c =
    let a = c.args in
    passes Bench _ _ (bench-valid a.caller _ (header-held a.caller a.bytes.now (sym c.in_ok-h.ensures)).valid)
