-- `run::step`: a step is a run of one step. Assumes nothing.
use Rattle.std.proofs.Common.{rules, ◌≡◌}
use Rattle.std.proofs.lemmas.Result.{err_from_is_err_and}
use Rattle.refusal.specs.Refused.{refused_by, done}
use Rattle.apic.specs.Step.{grids_of}
use Rattle.simulation.specs.Run.{told_ran}
use Rattle.simulation.proofs.Entry.{step-sees}
use Rattle.run.proofs.step.Goals as goal

pub returns-in_err-map_err : goal.returns-in_err-map_err
returns-in_err-map_err c =
    let a = c.args in
    let p = err_from_is_err_and c.from_residual.result c.from_residual.ensures.1 in
    let same : (told_ran c.run.result).stop ≡ refused_by c.in_err-map_err.field-0.0 = search rules in
    rw (p.1, p.2) (step-sees a.caller a.settings a.records.now (grids_of a.mass.now a.px.now a.py.now) same c.run.ensures)

pub returns : goal.returns
returns c =
    let a = c.args in
    let same : (told_ran c.run.result).stop ≡ done = search rules in
    step-sees a.caller a.settings a.records.now (grids_of a.mass.now a.px.now a.py.now) same c.run.ensures
