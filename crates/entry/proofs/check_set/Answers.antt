-- `entry::check_set`: the checks of a size and a set alone. Assumes nothing.
use Rattle.std.proofs.Common.{length, ap, ◌∙◌}
use Rattle.refusal.specs.Refused.{gives, and_then}
use Rattle.entry.specs.declared.Buffers.TheVariants.{None}
use Rattle.entry.specs.Entry.{entry_answer}
use Rattle.entry.proofs.Entry.{set-entry}
use Rattle.entry.proofs.check_set.Goals as goal

pub returns : goal.returns
returns c =
    let a = c.args in
    c.check.ensures
    ∙ ap (λ s. and_then (entry_answer a.caller s None 0 a.records.now) (λ ps. gives (length ps))) c.still.ensures
    ∙ ap (λ r. and_then r (λ ps. gives (length ps))) (set-entry a.caller a.nx a.ny a.records.now)
