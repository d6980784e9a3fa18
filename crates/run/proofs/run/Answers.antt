-- `run::run`: the checks at entry, and then the run of an accepted set. Assumes nothing.
use Rattle.std.proofs.Common.{◌≡◌, ℕ, ◌*◌, ◌≤◌, List, ℤ, Result, arith}
use Rattle.std.proofs.lemmas.Result.{err_from_is_err_and}
use Rattle.refusal.specs.Refused.{gives}
use Rattle.limits.specs.declared.Caller.{Caller}
use Rattle.limits.specs.Limits.{most_records}
use Rattle.particles.specs.Set.{record_count}
use Rattle.settings.specs.declared.Settings.{Settings}
use Rattle.unpacked.specs.Unpacked.{per_particle}
use Rattle.apic.specs.Step.{grids_of}
use Rattle.simulation.specs.declared.Stop.{Stop}
use Rattle.simulation.specs.Step.{Sees}
use Rattle.simulation.specs.Run.{told_ran, run_after}
use Rattle.simulation.specs.Internal.{RunReady, Runs}
use Rattle.simulation.proofs.Entry.{told_entry, entry_done, entry-refused, run-ready, run-accepted, run-refused}
use Rattle.run.proofs.run.Goals as goal

-- an accepted call
module _ (caller : Caller) (s : Settings) (steps : ℕ) (records mass : List ℕ) (px py : List ℤ) {n : ℕ} (check : gives n ≡ told_entry caller s steps records mass px py) where
  ready : RunReady s records mass px py
  ready = run-ready caller s steps records mass px py (entry_done caller s steps records mass px py check).1

  counted : n ≡ record_count records
  counted = (entry_done caller s steps records mass px py check).2

  -- the arrays have room for its numbers
  room : {m : ℕ} → n ≤ m → per_particle * record_count records ≤ per_particle * m
  room h = omega (arith, counted)

  -- no set is larger
  most : per_particle * record_count records ≤ per_particle * most_records
  most = omega (arith, ready.most)

  -- what a run of the accepted set leaves is what the caller sees
  sees : (ran : Result ℕ Stop) {bytes mass' : List ℕ} {x y : List ℤ} → Runs s steps records mass px py ran bytes mass' x y → Sees (run_after caller s steps records (grids_of mass px py)) (told_ran ran) bytes mass' x y
  sees ran h = run-accepted caller s steps records mass px py (entry_done caller s steps records mass px py check).1 h

pub returns-in_err-count : goal.returns-in_err-count
returns-in_err-count c =
    let a = c.args in
    let p = err_from_is_err_and c.from_residual.result c.from_residual.ensures.1 in
    let f = c.in_err-count.field-0.0 in
    rw (p.1, p.2)
    (run-refused a.caller a.settings a.steps a.records.now a.mass.now a.px.now a.py.now f
    (entry-refused a.caller a.settings a.steps a.records.now a.mass.now a.px.now a.py.now f c.in_err-count.ensures))

pub run_sized-requires-clause-room : goal.run_sized-requires-clause-room
run_sized-requires-clause-room c =
    let a = c.args in
    let e = c.in_ok-count.ensures in
    (ready a.caller a.settings a.steps a.records.now a.mass.now a.px.now a.py.now e, room a.caller a.settings a.steps a.records.now a.mass.now a.px.now a.py.now e c.if-count-le-SMALL.true)

pub run_apart-requires-clause-room : goal.run_apart-requires-clause-room
run_apart-requires-clause-room c =
    let a = c.args in
    let e = c.in_ok-count.ensures in
    (ready a.caller a.settings a.steps a.records.now a.mass.now a.px.now a.py.now e, room a.caller a.settings a.steps a.records.now a.mass.now a.px.now a.py.now e c.if-count-le-MIDDLE.true)

pub run_apart-requires-else-count-le-MIDDLE-clause-room : goal.run_apart-requires-else-count-le-MIDDLE-clause-room
run_apart-requires-else-count-le-MIDDLE-clause-room c =
    let a = c.args in
    let e = c.in_ok-count.ensures in
    (ready a.caller a.settings a.steps a.records.now a.mass.now a.px.now a.py.now e, most a.caller a.settings a.steps a.records.now a.mass.now a.px.now a.py.now e)

pub returns-then-count-le-SMALL : goal.returns-then-count-le-SMALL
returns-then-count-le-SMALL c =
    let a = c.args in
    sees a.caller a.settings a.steps a.records.now a.mass.now a.px.now a.py.now c.in_ok-count.ensures c.run_sized.result c.run_sized.ensures

pub returns-then-count-le-MIDDLE : goal.returns-then-count-le-MIDDLE
returns-then-count-le-MIDDLE c =
    let a = c.args in
    sees a.caller a.settings a.steps a.records.now a.mass.now a.px.now a.py.now c.in_ok-count.ensures c.run_apart.result c.run_apart.ensures

pub returns-else-count-le-MIDDLE : goal.returns-else-count-le-MIDDLE
returns-else-count-le-MIDDLE c =
    let a = c.args in
    sees a.caller a.settings a.steps a.records.now a.mass.now a.px.now a.py.now c.in_ok-count.ensures c.run_apart-else-count-le-MIDDLE.result c.run_apart-else-count-le-MIDDLE.ensures
