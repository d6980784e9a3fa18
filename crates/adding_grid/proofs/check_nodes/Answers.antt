-- `adding_grid::check_nodes` meets its contract. Assumes nothing.
use Rattle.std.proofs.Common.{sym, ◌∙◌, rules}
use Rattle.std.proofs.lemmas.Result.{err_from_is_err_and}
use Rattle.refusal.proofs.Answers.{each_on, each-stop}
use Rattle.adding.proofs.Nodes.{walk_start}
use Rattle.adding_grid.proofs.Nodes.{at-node}
use Rattle.adding_grid.proofs.check_nodes.Goals as goal

pub loop-k-init : goal.loop-k-init
loop-k-init c = walk_start _ _ _

pub returns-in_err-check_node : goal.returns-in_err-check_node
returns-in_err-check_node c =
    let a = c.args in
    let p = err_from_is_err_and c.from_residual.result c.from_residual.ensures.1 in
    rw (p.1, p.2)
    (sym (c.loop-k.invariant ∙ each-stop _ c.loop-k.k a.count c.loop-k-test.true
    (at-node a.mass.now a.px.now a.py.now a.gain.now c.loop-k.k (search rules) (search rules) c.in_err-check_node.ensures)))

pub loop-k-preserved : goal.loop-k-preserved
loop-k-preserved c =
    let a = c.args in
    c.loop-k.invariant
    ∙ each_on _ c.loop-k.k a.count c.loop-k-test.true
    (at-node a.mass.now a.px.now a.py.now a.gain.now c.loop-k.k (search rules) (search rules) c.in_ok-check_node.ensures)
