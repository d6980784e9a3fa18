-- The place of the refusal that `forget` told is below 2^32. Assumes nothing.
use Rattle.store.specs.Operations.{forget_answer}
use Rattle.coding.proofs.Coding.{placed}
use Rattle.coding.proofs.Places as places
use Rattle.gondwize.proofs.gondwize_forget.Goals as goal

pub coded-requires : goal.coded-requires
coded-requires c =
    let a = c.args in
    placed c.forget.result c.forget.ensures.answer
    (places.told (forget_answer a.store.now a.name.now) (places.forgotten a.store.now a.name.now))
