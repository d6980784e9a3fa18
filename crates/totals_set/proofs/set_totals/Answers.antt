-- `set_totals` meets its contract: the checks before the records, and then the walk. Assumes nothing.
use Rattle.std.proofs.Common.{arith, ◌≡◌, sym, ap, ◌∙◌, ℕ, length}
use Rattle.std.proofs.lemmas.Result.{err_from_is_err_and}
use Rattle.refusal.specs.Refused.{Answer, gives}
use Rattle.limits.specs.declared.Caller.{Caller}
use Rattle.particles.proofs.Checks.{size-limits, length-limits}
use Rattle.settings.specs.declared.Settings.{Settings}
use Rattle.settings.specs.Settings.{still}
use Rattle.entry.specs.declared.Buffers.TheVariants.{None}
use Rattle.entry.specs.Entry.{begin_answer}
use Rattle.entry.proofs.Entry.{passed-checks, set-begun}
use Rattle.totals.specs.Totals.{totals_of}
use Rattle.totals_set.proofs.set_totals.Goals as goal

-- what the checks before the records tell
checks : (caller : Caller) (nx ny n : ℕ) {t : Settings} {a : Answer Unit} → t ≡ still nx ny → a ≡ begin_answer caller t None 0 n → begin_answer caller (still nx ny) None 0 n ≡ a
checks caller nx ny n e answer = ap (λ t. begin_answer caller t None 0 n) (sym e) ∙ sym answer

pub walk-requires : goal.walk-requires
walk-requires c =
    let s = c.args in
    let n = length s.records.now in
    let p = (passed-checks s.caller (still s.nx s.ny) None 0 n (checks s.caller s.nx s.ny n c.still.ensures c.in_ok-begin.ensures)).0 in
    (size-limits s.caller s.nx s.ny p.size, (length-limits n p.whole).count, omega arith)

pub returns-in_err-begin : goal.returns-in_err-begin
returns-in_err-begin c =
    let s = c.args in
    let p = err_from_is_err_and c.from_residual.result c.from_residual.ensures.1 in
    rw (p.1, p.2)
    (sym
    (set-begun s.caller s.nx s.ny s.records.now (λ ps. gives (totals_of ps))
    (checks s.caller s.nx s.ny (length s.records.now) c.still.ensures c.in_err-begin.ensures)))

pub returns : goal.returns
returns c =
    let s = c.args in
    c.walk.ensures
    ∙ sym
    (set-begun s.caller s.nx s.ny s.records.now (λ ps. gives (totals_of ps))
    (checks s.caller s.nx s.ny (length s.records.now) c.still.ensures c.in_ok-begin.ensures))
