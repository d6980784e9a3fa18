-- `check` meets its contract: what is left of the check, after what is done, is the whole. Assumes nothing.
use Rattle.particles.proofs.Turns.{checking-start, checking-next, checking-refused, checking-end}
use Rattle.std.proofs.lemmas.Result.{err_from_is_err_and}
use Rattle.particles.proofs.check.Goals as goal

pub loop-k-init : goal.loop-k-init
loop-k-init c = checking-start

pub returns-in_err-entry : goal.returns-in_err-entry
returns-in_err-entry c =
    let p = err_from_is_err_and c.from_residual.result c.from_residual.ensures.1 in
    rw (p.1, p.2) (checking-refused _ c.loop-k.invariant c.loop-k-test.true c.in_err-entry.ensures)

pub loop-k-preserved : goal.loop-k-preserved
loop-k-preserved c = checking-next _ c.loop-k.invariant c.loop-k-test.true c.in_ok-entry.ensures

pub returns : goal.returns
returns c = checking-end c.loop-k.invariant c.loop-k-test.false
