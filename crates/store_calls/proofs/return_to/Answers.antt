-- What the checks find. Assumes nothing.
use borrow.Author.Tests.{leb-true}
use mathlib.Core.Path.{refl}
use mathlib.Core.Bool.{◌&&◌}
use lib.Dec.{leb}
use lib.ListN.{length}
use Rattle.refusal.specs.Refused.{done}
use Rattle.store.specs.Form.{most_file, valid_store}
use Rattle.limits.proofs.Within.{both}
use Rattle.std.proofs.lemmas.Result.{err_from_is_err_and}
use Rattle.store.proofs.Answers.{begun, checked-passed}
use Rattle.store.proofs.Ways.{return-begun}
use Rattle.store_calls.proofs.return_to.Goals as goal

pub return_named-requires : goal.return_named-requires
return_named-requires c =
    let form = valid_store c.args.store.now in
    let room = leb most_file (length c.args.buffer.now) in
    let passed = checked-passed (form && room) c.args.name.now done (begun c.args.name.now c.valid_buffers.ensures c.in_ok-begin.ensures refl) in
    let lent = both form room passed.0 in
    record {
      begun = record { form = lent.0; named = passed.1.0 };
      room = leb-true most_file (length c.args.buffer.now) lent.1;
    }

pub returns-in_err-begin : goal.returns-in_err-begin
returns-in_err-begin c =
    let p = err_from_is_err_and c.from_residual.result c.from_residual.ensures.1 in
    rw (p.1, p.2) (return-begun c.args.store.now c.args.name.now c.args.buffer.now (begun c.args.name.now c.valid_buffers.ensures c.in_err-begin.ensures refl))
