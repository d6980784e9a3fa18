-- `entry::check`: the checks before the set, and then the set. Assumes nothing.
use Rattle.std.proofs.Common.{length, sym, ap, ◌∙◌, arith}
use Rattle.std.proofs.lemmas.Result.{err_from_is_err_and}
use Rattle.refusal.specs.Refused.{gives, and_then}
use Rattle.particles.proofs.Checks.{size-limits, length-limits}
use Rattle.entry.proofs.Entry.{passed-checks, begun}
use Rattle.entry.proofs.check.Goals as goal

pub check-requires : goal.check-requires
check-requires c =
    let s = c.args in
    let p = (passed-checks s.caller s.settings s.buffers s.steps (length s.records.now) (sym c.in_ok-begin.ensures)).0 in
    let l = length-limits (length s.records.now) p.whole in
    (size-limits s.caller s.settings.nx s.settings.ny p.size, l.count, omega arith)

pub returns-in_err-begin : goal.returns-in_err-begin
returns-in_err-begin c =
    let s = c.args in
    let p = err_from_is_err_and c.from_residual.result c.from_residual.ensures.1 in
    rw (p.1, p.2) (ap (λ a. and_then a (λ ps. gives (length ps))) (sym (begun s.caller s.settings s.buffers s.steps s.records.now (sym c.in_err-begin.ensures))))

pub returns : goal.returns
returns c =
    let s = c.args in
    c.check.ensures ∙ ap (λ a. and_then a (λ ps. gives (length ps))) (sym (begun s.caller s.settings s.buffers s.steps s.records.now (sym c.in_ok-begin.ensures)))
