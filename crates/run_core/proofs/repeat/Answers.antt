-- `run_core::repeat`: the steps go on, stop, or end. Assumes nothing.
use Rattle.std.proofs.Common.{arith}
use Rattle.simulation.proofs.Runs.{running-next, running-stop, running-end}
use Rattle.run_core.proofs.repeat.Goals as goal

pub returns-in-Err : goal.returns-in-Err
returns-in-Err c = running-stop c.loop-completed.invariant c.loop-completed-test.true c.turn.ensures c.in-Err.is

pub loop-completed-preserved : goal.loop-completed-preserved
loop-completed-preserved c = running-next c.loop-completed.invariant c.loop-completed-test.true c.turn.ensures c.in_default.is

pub returns : goal.returns
returns c = running-end c.loop-completed.invariant (omega arith)
