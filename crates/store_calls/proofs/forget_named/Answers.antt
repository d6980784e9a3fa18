-- 23, or the place that has the name is free. Assumes nothing.
use mathlib.Core.Path.{◌∙◌}
use Rattle.std.proofs.lemmas.Result.{err_from_is_err_and}
use Rattle.store.proofs.Bytes.{name-held}
use Rattle.store.proofs.Calls.{store-held}
use Rattle.store.proofs.Ways.{forget-nothing, forget-place, had, lacked}
use Rattle.store_calls.proofs.forget_named.Goals as goal

pub place_of-requires : goal.place_of-requires
place_of-requires c = ((store-held c.args.store.now c.requires.form).long, (name-held c.args.name.now c.requires.named).short)

pub returns-in_err-k : goal.returns-in_err-k
returns-in_err-k c =
    let p = err_from_is_err_and c.from_residual.result c.from_residual.ensures.1 in
    let none = lacked c.place_of.result _ c.place_of.ensures c.in_err-k.ensures.value in
    rw (p.1, p.2, none.1) (forget-nothing c.args.store.now c.args.name.now c.requires none.0)

pub free-requires : goal.free-requires
free-requires c = ((store-held c.args.store.now c.requires.form).long, (had c.place_of.result _ c.place_of.ensures c.in_ok-k.ensures.value).1)

pub returns : goal.returns
returns c =
    let gone = forget-place c.args.store.now c.args.name.now c.requires c.in_ok-k.k (had c.place_of.result _ c.place_of.ensures c.in_ok-k.ensures.value) in
    record { answer = gone.answer; store_is = c.free.ensures ∙ gone.store_is }
