-- `walk` meets its contract: what is left of the walk, added to what is done, is the whole. Assumes nothing.
use Rattle.std.proofs.lemmas.Result.{err_from_is_err_and}
use Rattle.totals_set.proofs.Turns.{walking_start, walking-next, walking-refused, walking-end}
use Rattle.totals_set.proofs.walk.Goals as goal

pub loop-k-init : goal.loop-k-init
loop-k-init c = walking_start {t = c.default.result} c.default.ensures

pub returns-in_err-progress : goal.returns-in_err-progress
returns-in_err-progress c =
    let p = err_from_is_err_and c.from_residual.result c.from_residual.ensures.1 in
    rw (p.1, p.2) (walking-refused _ c.loop-k.invariant c.loop-k-test.true c.in_err-progress.ensures.0)

pub loop-k-preserved : goal.loop-k-preserved
loop-k-preserved c = walking-next _ c.loop-k.invariant c.loop-k-test.true c.in_ok-progress.ensures.0 c.in_ok-progress.ensures.1

pub returns : goal.returns
returns c = walking-end c.loop-k.invariant c.loop-k-test.false
