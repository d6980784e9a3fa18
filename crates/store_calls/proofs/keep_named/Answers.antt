-- The bath's own checks, and then the place. Assumes nothing.
use mathlib.Core.Path.{sym}
use Rattle.std.proofs.lemmas.Result.{err_from_is_err_and}
use Rattle.bath_file.proofs.Callers.{bench-file}
use Rattle.store.proofs.Bytes.{name-held}
use Rattle.store.proofs.Stores.{file-long}
use Rattle.store.proofs.Calls.{store-held}
use Rattle.store.proofs.Ways.{keep-bath, keep-placed}
use Rattle.store_calls.proofs.keep_named.Goals as goal

pub keep_file-requires : goal.keep_file-requires
keep_file-requires c =
    record {
      store_long = (store-held c.args.store.now c.requires.form).long;
      name-long = (name-held c.args.name.now c.requires.named).short;
      file-long = (file-long c.args.file.now (bench-file c.args.caller c.args.file.now (sym c.in_ok-read_file.ensures))).most;
    }

pub returns-in_err-read_file : goal.returns-in_err-read_file
returns-in_err-read_file c =
    let p = err_from_is_err_and c.from_residual.result c.from_residual.ensures.1 in
    rw (p.1, p.2) (keep-bath c.args.caller c.args.store.now c.args.name.now c.args.file.now c.requires (sym c.in_err-read_file.ensures))

pub returns : goal.returns
returns c = keep-placed c.args.caller c.args.store.now c.args.name.now c.args.file.now c.requires (sym c.in_ok-read_file.ensures) c.keep_file.ensures
