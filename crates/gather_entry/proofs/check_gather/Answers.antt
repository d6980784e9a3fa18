-- `gather_entry::check_gather` meets its contract. Assumes nothing.
use Rattle.std.proofs.Common.{◌≡◌, sym, ap, ◌∙◌, List, ℕ, length, ℤ}
use Rattle.std.proofs.lemmas.Result.{err_from_is_err_and}
use Rattle.refusal.specs.Refused.{Answer, gives, and_then, told_of}
use Rattle.refusal.proofs.Answers.{went_on}
use Rattle.limits.specs.declared.Caller.{Caller}
use Rattle.settings.specs.declared.Settings.{Settings}
use Rattle.settings.specs.Settings.{still}
use Rattle.entry.specs.declared.Buffers.TheVariants.{Two}
use Rattle.entry.specs.Entry.{entry_answer}
use Rattle.entry.proofs.Entry.{kept-refusal}
use Rattle.transfer.proofs.Gathers.{bad-entry, same_count, by-velocities}
use Rattle.gather_entry.proofs.check_gather.Goals as goal

-- what the check at entry tells, r
told : (caller : Caller) (nx ny : ℕ) (records : List ℕ) (ux uy : List ℤ) {s : Settings} {r : Answer ℕ} → s ≡ still nx ny → r ≡ and_then (entry_answer caller s (Two (length ux) (length uy)) 0 records) (λ ps. gives (length ps)) → and_then (entry_answer caller (still nx ny) (Two (length ux) (length uy)) 0 records) (λ ps. gives (length ps)) ≡ r
told caller nx ny records ux uy e f =
    ap (λ t. and_then (entry_answer caller t (Two (length ux) (length uy)) 0 records) (λ ps. gives (length ps))) (sym e) ∙ sym f

pub check_velocities-requires : goal.check_velocities-requires
check_velocities-requires c =
    let s = c.args in
    let a = went_on _ _ (told s.caller s.nx s.ny s.records.now s.ux.now s.uy.now c.still-settings.ensures c.in_ok-check.ensures) in
    same_count s.caller s.nx s.ny s.records.now s.ux.now s.uy.now a.1

pub returns-in_err-check : goal.returns-in_err-check
returns-in_err-check c =
    let s = c.args in
    let p = err_from_is_err_and c.from_residual.result c.from_residual.ensures.1 in
    rw (p.1, p.2)
    (sym (ap told_of (bad-entry s.caller s.nx s.ny s.records.now s.ux.now s.uy.now
    (kept-refusal _ length (told s.caller s.nx s.ny s.records.now s.ux.now s.uy.now c.still-settings.ensures c.in_err-check.ensures)))))

pub returns : goal.returns
returns c =
    let s = c.args in
    let a = went_on _ _ (told s.caller s.nx s.ny s.records.now s.ux.now s.uy.now c.still-settings.ensures c.in_ok-check.ensures) in
    c.check_velocities.ensures ∙ sym (by-velocities s.caller s.nx s.ny s.records.now s.ux.now s.uy.now a.1)
