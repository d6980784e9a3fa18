-- Each way out by its check. Assumes nothing.
use mathlib.Core.Path.{◌≡◌, sym}
use mathlib.Core.Bool.{true}
use Rattle.refusal.specs.Refused.{done}
use Rattle.store.proofs.Answers.{bad-buffers, bad-name, good-call}
use Rattle.store_calls.proofs.begin.Goals as goal

pub returns-then-not-valid : goal.returns-then-not-valid
returns-then-not-valid c = sym (bad-buffers c.args.valid c.args.name.now done c.if-not-valid.true)

pub returns-then-not-named : goal.returns-then-not-named
returns-then-not-named c = let valid : c.args.valid ≡ true = cc in sym (bad-name c.args.valid c.args.name.now done valid (sym c.if-not-named.ensures))

pub returns : goal.returns
returns c = let valid : c.args.valid ≡ true = cc in sym (good-call c.args.valid c.args.name.now done valid (sym c.if-not-named.ensures))
