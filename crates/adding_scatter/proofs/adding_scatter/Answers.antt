-- `adding_scatter::adding_scatter` meets its contract. Assumes nothing.
use Rattle.std.proofs.Common.{sym, length, arith}
use Rattle.std.proofs.lemmas.Result.{err_from_is_err_and}
use Rattle.refusal.proofs.Answers.{went_on}
use Rattle.entry.proofs.Entry.{kept-refusal}
use Rattle.transfer.proofs.Scatters.{scatter-set}
use Rattle.adding.proofs.Adding.{nodes-most, nodes-fit, bad-entry, with-set}
use Rattle.adding_scatter.proofs.adding_scatter.Goals as goal

pub returns-in_err-check_scatter : goal.returns-in_err-check_scatter
returns-in_err-check_scatter c =
    let p = err_from_is_err_and c.from_residual.result c.from_residual.ensures.1 in
    rw (p.1, p.2) (bad-entry _ _ _ _ _ _ _ (kept-refusal _ length (sym c.in_err-check_scatter.ensures)))

pub overflow_mul-nx : goal.overflow_mul-nx
overflow_mul-nx c =
    let a = went_on _ _ (sym c.in_ok-check_scatter.ensures) in
    nodes-fit (scatter-set _ _ _ _ _ _ _ a.1)

pub add_set-requires : goal.add_set-requires
add_set-requires c =
    let a = went_on _ _ (sym c.in_ok-check_scatter.ensures) in
    (scatter-set _ _ _ _ _ _ _ a.1, c.if-nx-ny-le-SMALL_NODES.true, omega arith)

pub returns-then-nx-ny-le-SMALL_NODES : goal.returns-then-nx-ny-le-SMALL_NODES
returns-then-nx-ny-le-SMALL_NODES c =
    let a = went_on _ _ (sym c.in_ok-check_scatter.ensures) in
    with-set _ _ _ _ _ _ _ a.1 c.add_set.ensures

pub add_set-requires-2 : goal.add_set-requires-2
add_set-requires-2 c =
    let a = went_on _ _ (sym c.in_ok-check_scatter.ensures) in
    let set = scatter-set _ _ _ _ _ _ _ a.1 in
    (set, omega (arith, nodes-most set), omega arith)

pub returns : goal.returns
returns c =
    let a = went_on _ _ (sym c.in_ok-check_scatter.ensures) in
    with-set _ _ _ _ _ _ _ a.1 c.add_set-2.ensures
