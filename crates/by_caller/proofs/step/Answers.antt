-- The place of the refusal that `step` told is below 2^32. Assumes nothing.
use Rattle.apic.specs.Step.{grids_of}
use Rattle.coding.proofs.Coding.{placed}
use Rattle.coding.proofs.Places as places
use Rattle.by_caller.proofs.step.Goals as goal

pub coded-requires : goal.coded-requires
coded-requires c =
    let a = c.args in
    placed c.step.result c.step.ensures.answer
    (places.step a.caller c.of_numbers-settings.result a.records.now (grids_of a.mass.now a.px.now a.py.now))
