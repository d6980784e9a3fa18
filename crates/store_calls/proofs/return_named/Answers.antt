-- 23, or the file of the place that has the name. Assumes nothing.
use mathlib.Core.Path.{ap, ◌∙◌}
use Rattle.std.proofs.lemmas.Result.{err_from_is_err_and}
use Rattle.refusal.specs.Refused.{gives}
use Rattle.store.specs.Form.{place_at}
use Rattle.store.proofs.Bytes.{name-held}
use Rattle.store.proofs.Stores.{place-long, occupied-fits}
use Rattle.store.proofs.Calls.{store-held, found-occupied}
use Rattle.store.proofs.Ways.{return-nothing, return-file, had, lacked}
use Rattle.store_calls.proofs.return_named.Goals as goal

pub place_of-requires : goal.place_of-requires
place_of-requires c =
    ((store-held c.args.store.now c.requires.begun.form).long, (name-held c.args.name.now c.requires.begun.named).short)

pub returns-in_err-k : goal.returns-in_err-k
returns-in_err-k c =
    let p = err_from_is_err_and c.from_residual.result c.from_residual.ensures.1 in
    let none = lacked c.place_of.result _ c.place_of.ensures c.in_err-k.ensures.value in
    rw (p.1, p.2, none.1) (return-nothing c.args.store.now c.args.name.now c.args.buffer.now c.requires.begun c.requires.room none.0)

pub copy_file-requires : goal.copy_file-requires
copy_file-requires c =
    let store = c.args.store.now in
    let b = c.requires.begun in
    let k = c.in_ok-k.k in
    let long = (store-held store b.form).long in
    let is = had c.place_of.result _ c.place_of.ensures c.in_ok-k.ensures.value in
    record {
      store_long = long;
      below = is.1;
      fits = occupied-fits (place_at store k) (place-long store k long is.1) (found-occupied store c.args.name.now b.form b.named k is.0 is.1);
      buffer-long = c.requires.room;
    }

pub returns : goal.returns
returns c =
    let copied = c.copy_file.ensures in
    let is = had c.place_of.result _ c.place_of.ensures c.in_ok-k.ensures.value in
    let file = return-file c.args.store.now c.args.name.now c.args.buffer.now c.requires.begun c.requires.room c.in_ok-k.k is in
    record { answer = ap gives copied.answer ∙ file.answer; buffer-is = copied.buffer ∙ file.buffer-is }
