-- The place of the refusal that `adding_scatter` told is below 2^32. Assumes nothing.
use Rattle.apic.specs.Step.{grids_of}
use Rattle.adding.specs.Adding.{adding_answer}
use Rattle.coding.proofs.Coding.{placed}
use Rattle.coding.proofs.Places as places
use Rattle.by_caller.proofs.adding_scatter.Goals as goal

pub coded-requires : goal.coded-requires
coded-requires c =
    let a = c.args in
    let grids = grids_of a.mass.now a.px.now a.py.now in
    placed c.adding_scatter.result c.adding_scatter.ensures.answer
    (places.told (adding_answer a.caller a.nx a.ny a.records.now grids) (places.added a.caller a.nx a.ny a.records.now grids))
