-- The place of the refusal that `scatter` told is below 2^32. Assumes nothing.
use Rattle.std.proofs.Common.{length}
use Rattle.settings.specs.Settings.{still}
use Rattle.entry.specs.declared.Buffers.TheVariants.{Three}
use Rattle.entry.specs.Entry.{entry_answer}
use Rattle.coding.proofs.Coding.{placed}
use Rattle.coding.proofs.Places as places
use Rattle.by_caller.proofs.scatter.Goals as goal

pub coded-requires : goal.coded-requires
coded-requires c =
    let a = c.args in
    let buffers = Three (length a.mass.now) (length a.px.now) (length a.py.now) in
    placed c.scatter.result c.scatter.ensures.answer
    (places.told (entry_answer a.caller (still a.nx a.ny) buffers 0 a.records.now) (places.entry a.caller (still a.nx a.ny) buffers 0 a.records.now))
