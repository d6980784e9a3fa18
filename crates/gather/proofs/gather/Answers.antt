-- `gather::gather` meets its contract where the checks pass. Assumes nothing.
use Rattle.std.proofs.Common.{sym}
use Rattle.refusal.proofs.Answers.{went_on}
use Rattle.transfer.proofs.Gathers.{gather-set, moved_on}
use Rattle.gather.proofs.gather.Goals as goal

pub gather_set-requires : goal.gather_set-requires
gather_set-requires c =
    let s = c.args in
    let a = went_on _ _ (sym c.in_ok-check_gather.ensures) in
    gather-set s.caller s.nx s.ny s.records.now s.ux.now s.uy.now a.1

pub returns : goal.returns
returns c =
    let s = c.args in
    let a = went_on _ _ (sym c.in_ok-check_gather.ensures) in
    moved_on s.caller s.nx s.ny s.records.now s.ux.now s.uy.now a.1 c.gather_set.ensures
