-- The place of the refusal that `gather` told is below 2^32. Assumes nothing.
use Rattle.transfer.specs.Transfer.{gather_answer}
use Rattle.coding.proofs.Coding.{placed}
use Rattle.coding.proofs.Places as places
use Rattle.by_caller.proofs.gather.Goals as goal

pub coded-requires : goal.coded-requires
coded-requires c =
    let a = c.args in
    placed c.gather.result c.gather.ensures.answer
    (places.told (gather_answer a.caller a.nx a.ny a.records.now a.ux.now a.uy.now)
    (places.gather a.caller a.nx a.ny a.records.now a.ux.now a.uy.now))
