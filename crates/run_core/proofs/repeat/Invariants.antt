-- `run_core::repeat`: the invariant is `Running`.
use Rattle.apic.specs.Step.{grids_of}
use Rattle.simulation.proofs.Runs.{Running}
use Rattle.run_core.proofs.repeat.Given as goal

abbrev pub invariant-loop-completed : goal.invariant-loop-completed
invariant-loop-completed l = Running l.settings l.steps l.table l.d l.initial.a (grids_of l.initial.mass l.initial.px l.initial.py) l.completed l.mass l.px l.py l.a l.b
