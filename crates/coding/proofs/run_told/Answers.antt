-- The place of the refusal that stopped a run is below 2^32. Assumes nothing.
use Rattle.std.proofs.Common.{ap}
use Rattle.apic.specs.Step.{grids_of}
use Rattle.coding.proofs.Coding.{place_of}
use Rattle.coding.proofs.Places as places
use Rattle.coding.proofs.run_told.Goals as goal

pub code-requires : goal.code-requires
code-requires c =
    let a = c.args in
    place_of c.in-Err.stop.refusal (ap (λ r. r.stop) c.in-Err.ensures.answer)
    (places.run a.caller c.of_numbers-settings.result a.steps a.records.now (grids_of a.mass.now a.px.now a.py.now))
