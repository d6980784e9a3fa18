-- The place of the refusal that `update` told is below 2^32. Assumes nothing.
use Rattle.update.specs.Update.{update_answer}
use Rattle.coding.proofs.Coding.{placed}
use Rattle.coding.proofs.Places as places
use Rattle.by_caller.proofs.update.Goals as goal

pub coded-requires : goal.coded-requires
coded-requires c =
    let a = c.args in
    let s = c.of_numbers-settings.result in
    placed c.update.result c.update.ensures.answer
    (places.told (update_answer a.caller s a.mass.now a.px.now a.py.now) (places.update a.caller s a.mass.now a.px.now a.py.now))
