-- The letters, and then what is behind them. Assumes nothing.
use mathlib.Core.Path.{◌≡◌, sym, ap, subst, ◌∙◌}
use mathlib.Core.Bool.{Bool, ◌&&◌}
use mathlib.Core.List.{List}
use Prim.Native.Nat.{ℕ, ◌≤◌}
use native.Mathlib.Omega.{arith}
use borrow.Author.Tests.{lt-ltb, le-ltb}
use borrow.Author.Rules.{part_to_end}
use lib.Dec.{ltb}
use lib.ListN.{length, drop}
use Rattle.store.specs.Names.{all_zero, letters, valid_held_name}
use Rattle.store.proofs.Bytes.{letters-most}
use Rattle.store_form.proofs.valid_held_name.Goals as goal

-- by where the letters end
by_end : (held : List ℕ) {end : ℕ} {t : Bool} → end ≡ letters held → ltb 0 end ≡ t → (t && all_zero (drop end held)) ≡ valid_held_name held
unfolding valid_held_name
by_end held {end} e h =
    ap (λ t. t && all_zero (drop end held)) (sym h) ∙ ap (λ n. ltb 0 n && all_zero (drop n held)) e

within : (held : List ℕ) {end : ℕ} → end ≡ letters held → end ≤ length held
within held e = subst (λ n. n ≤ length held) (sym e) (letters-most held)

pub slice_bounds-all_zero-count : goal.slice_bounds-all_zero-count
slice_bounds-all_zero-count c = within c.args.held.now c.letters-end.ensures

pub slice_bounds-all_zero-start : goal.slice_bounds-all_zero-start
slice_bounds-all_zero-start c = omega (arith, within c.args.held.now c.letters-end.ensures)

pub returns-then-end-gt0 : goal.returns-then-end-gt0
returns-then-end-gt0 c =
    let held = c.args.held.now in
    c.all_zero.ensures
    ∙ ap all_zero (part_to_end held c.letters-end.result)
    ∙ by_end held c.letters-end.ensures (lt-ltb 0 c.letters-end.result c.if-end-gt0.true)

pub returns-else-end-gt0 : goal.returns-else-end-gt0
returns-else-end-gt0 c =
    let none = le-ltb 0 c.letters-end.result c.if-end-gt0.false in
    none ∙ by_end c.args.held.now c.letters-end.ensures none
