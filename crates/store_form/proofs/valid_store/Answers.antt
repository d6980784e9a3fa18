-- The length, and then each place. Assumes nothing.
use mathlib.Core.Path.{sym, ap, ◌∙◌}
use mathlib.Core.Bool.{◌&&◌}
use native.Mathlib.Numerals.{add-one}
use borrow.Author.Tests.{eq-eqb, ne_eqb}
use lib.ListN.{length, drop}
use Rattle.store.specs.Form.{store_length, places, valid_places, valid_store}
use Rattle.store_form.proofs.Places.{valid-next, valid-end}
use Rattle.store_form.proofs.valid_store.Goals as goal

pub returns-then-store-ne-STORE_LENGTH : goal.returns-then-store-ne-STORE_LENGTH
unfolding valid_store
returns-then-store-ne-STORE_LENGTH c =
    let store = c.args.store.now in
    ap (λ t. t && valid_places (places store)) (sym (ne_eqb (length store) store_length c.if-store-ne-STORE_LENGTH.true))

pub loop-k-init : goal.loop-k-init
unfolding valid_store
loop-k-init c =
    let store = c.args.store.now in
    ap (λ t. t && valid_places (places store)) (eq-eqb (length store) store_length c.if-store-ne-STORE_LENGTH.false)

pub returns-then-not-valid_at : goal.returns-then-not-valid_at
returns-then-not-valid_at c =
    sym (c.loop-k.invariant ∙ valid-next c.args.store.now c.loop-k.k c.loop-k-test.true (sym c.if-not-valid_at.ensures))

pub loop-k-preserved : goal.loop-k-preserved
loop-k-preserved c =
    let store = c.args.store.now in
    let k = c.loop-k.k in
    c.loop-k.invariant ∙ valid-next store k c.loop-k-test.true (sym c.if-not-valid_at.ensures) ∙ ap (λ n. valid_places (drop n (places store))) (sym (add-one k))

pub returns : goal.returns
returns c = sym (c.loop-k.invariant ∙ valid-end c.args.store.now c.loop-k.k c.loop-k-test.false)
