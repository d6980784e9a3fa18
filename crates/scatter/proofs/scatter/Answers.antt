-- `scatter::scatter` meets its contract. Assumes nothing.
use Rattle.std.proofs.Common.{sym, length}
use Rattle.std.proofs.lemmas.Result.{err_from_is_err_and}
use Rattle.refusal.proofs.Answers.{went_on, refused-leaves}
use Rattle.entry.proofs.Entry.{kept-refusal}
use Rattle.transfer.proofs.Scatters.{scatter-set, done-fills}
use Rattle.scatter.proofs.scatter.Goals as goal

pub returns-in_err-check_scatter : goal.returns-in_err-check_scatter
returns-in_err-check_scatter c =
    let p = err_from_is_err_and c.from_residual.result c.from_residual.ensures.1 in
    rw (p.1, p.2) (refused-leaves (kept-refusal _ length (sym c.in_err-check_scatter.ensures)))

pub scatter_set-requires : goal.scatter_set-requires
scatter_set-requires c =
    let a = went_on _ _ (sym c.in_ok-check_scatter.ensures) in
    scatter-set _ _ _ _ _ _ _ a.1

pub returns : goal.returns
returns c =
    let a = went_on _ _ (sym c.in_ok-check_scatter.ensures) in
    done-fills _ _ _ _ _ _ _ a.1 c.scatter_set.ensures
