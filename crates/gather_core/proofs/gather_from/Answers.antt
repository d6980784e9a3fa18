-- `gather_core::gather_from` meets its contract, by the walk's laws. Assumes nothing.
use Rattle.std.proofs.lemmas.Result.{err_from_is_err_and}
use Rattle.spline.specs.Kernel.{weight_in}
use Rattle.gathering.proofs.Walk.{walks-start, walks_turn, walks-stop, walks-end}
use Rattle.gather_core.proofs.gather_from.Goals as goal

pub loop-k-init : goal.loop-k-init
loop-k-init c =
    walks-start (weight_in c.args.table.now) c.args.first c.args.nx c.args.ny c.args.from.now c.args.ux.now c.args.uy.now c.args.to.now c.requires.0.room

pub returns-in_err-move_one : goal.returns-in_err-move_one
returns-in_err-move_one c =
    let p = err_from_is_err_and c.from_residual.result c.from_residual.ensures.1 in
    rw (p.1, p.2) (walks-stop c.loop-k.invariant c.loop-k-test.true c.in_err-move_one.ensures)

pub loop-k-preserved : goal.loop-k-preserved
loop-k-preserved c =
    walks_turn c.loop-k.invariant c.loop-k-test.true c.move_one.auto.to c.in_ok-move_one.ensures

pub returns : goal.returns
returns c = walks-end c.loop-k.invariant c.loop-k-test.false
