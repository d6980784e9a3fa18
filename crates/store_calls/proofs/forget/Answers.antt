-- What the checks find. Assumes nothing.
use mathlib.Core.Path.{refl}
use Rattle.std.proofs.lemmas.Result.{err_from_is_err_and}
use Rattle.store.proofs.Answers.{begun, begun-form}
use Rattle.store.proofs.Ways.{forget-begun}
use Rattle.store_calls.proofs.forget.Goals as goal

pub forget_named-requires : goal.forget_named-requires
forget_named-requires c =
    begun-form c.args.store.now c.args.name.now (begun c.args.name.now c.valid_store.ensures c.in_ok-begin.ensures refl)

pub returns-in_err-begin : goal.returns-in_err-begin
returns-in_err-begin c =
    let p = err_from_is_err_and c.from_residual.result c.from_residual.ensures.1 in
    rw (p.1, p.2) (forget-begun c.args.store.now c.args.name.now (begun c.args.name.now c.valid_store.ensures c.in_err-begin.ensures refl))
