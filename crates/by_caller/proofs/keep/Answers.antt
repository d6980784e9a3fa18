-- The place of the refusal that `keep` told is below 2^32. Assumes nothing.
use Rattle.store.specs.Operations.{keep_answer}
use Rattle.coding.proofs.Coding.{placed}
use Rattle.coding.proofs.Places as places
use Rattle.by_caller.proofs.keep.Goals as goal

pub coded-requires : goal.coded-requires
coded-requires c =
    let a = c.args in
    placed c.keep.result c.keep.ensures.answer
    (places.told (keep_answer a.caller a.store.now a.name.now a.file.now) (places.kept a.store.now a.name.now a.caller a.file.now))
