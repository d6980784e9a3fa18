-- A place with the name ends the search, and so does the last one. Assumes nothing.
use mathlib.Core.Path.{◌≡◌, sym, ap, ◌∙◌}
use mathlib.Core.Bool.{Bool}
use mathlib.Core.List.{List}
use Prim.Native.Nat.{ℕ, ◌+◌, ◌-◌, ◌*◌}
use native.Mathlib.Numerals.{add-one}
use native.Mathlib.Omega.{arith}
use lib.ListN.{take, drop}
use Rattle.store.specs.Names.{name_length, same_bytes}
use Rattle.store.specs.Form.{place_length, name_in, place_at, places, first_named}
use Rattle.store_form.proofs.Places.{name-cut, named, none_named}
use Rattle.store_form.proofs.find.Goals as goal

-- the name of place k, as it is compared
compared : (store held : List ℕ) (k : ℕ) {t : Bool} → t ≡ same_bytes (take (place_length * k + name_length - place_length * k) (drop (place_length * k) store)) held → same_bytes (name_in (place_at store k)) held ≡ t
compared store held k e = ap (λ l. same_bytes l held) (sym (name-cut store k)) ∙ sym e

pub returns-then-same : goal.returns-then-same
returns-then-same c =
    let store = c.args.store.now in
    let held = c.args.held.now in
    let k = c.loop-k.k in
    (omega (arith, named store k held c.loop-k-test.true (compared store held k c.if-same.ensures), c.loop-k.invariant), c.loop-k-test.true)

pub loop-k-preserved : goal.loop-k-preserved
loop-k-preserved c =
    let store = c.args.store.now in
    let held = c.args.held.now in
    let k = c.loop-k.k in
    omega (arith, named store k held c.loop-k-test.true (compared store held k c.if-same.ensures), c.loop-k.invariant, ap (λ n. first_named held (drop n (places store))) (add-one k))

pub returns : goal.returns
returns c = omega (arith, none_named c.args.store.now c.loop-k.k c.args.held.now c.loop-k-test.false, c.loop-k.invariant, c.requires.1)
