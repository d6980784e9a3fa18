-- Each way out by what the checks before it find. Assumes nothing.
use borrow.Author.Rules.{rules}
use borrow.Author.Tests.{lt-ltb, le-ltb}
use Prim.Native.Nat.{ℕ}
use native.Mathlib.Omega.{arith}
use mathlib.Core.Path.{◌≡◌, refl, sym, ap, ◌∙◌}
use mathlib.Core.Bool.{Bool, true, ◌&&◌}
use lib.Dec.{ltb}
use lib.IntN.{ℤ}
use mir.Syntax.{w16}
use mir.Val.{SFits, to_z, of_z}
use Rattle.refusal.specs.Refused.{gives}
use Rattle.bits.proofs.TwosComplement.{tested}
use Rattle.limits.specs.declared.Caller.{Caller}
use Rattle.limits.specs.Limits.{most_steps, most_drag, most_side_of, most_records_of, valid_gravity}
use Rattle.particles.specs.Set.{valid_size}
use Rattle.settings.specs.declared.Edge.{Edge}
use Rattle.settings.specs.Settings.{edge_of, valid_edge}
use Rattle.bath_file.specs.declared.Header.{Header}
use Rattle.bath_file.specs.File.{checked_header}
use Rattle.bath_file.proofs.Checks.{checked, header-checked}
use Rattle.header_check.proofs.check_values.Goals as goal

abbrev both : ℤ → ℤ → Bool
both x y = valid_gravity x && valid_gravity y

-- ---- what each check finds

module _ (caller : Caller) (h : Header) where
  size_is : {m : ℕ} {t : Bool} → m ≡ most_side_of caller → t ≡ valid_size m h.nx h.ny → valid_size (most_side_of caller) h.nx h.ny ≡ t
  size_is e f = ap (λ m. valid_size m h.nx h.ny) (sym e) ∙ sym f

  gravity_is : {t : Bool} → SFits w16 h.gx → SFits w16 h.gy → t ≡ both (to_z w16 (of_z w16 h.gx)) (to_z w16 (of_z w16 h.gy)) → both h.gx h.gy ≡ t
  gravity_is x y e = tested both h.gx h.gy x.sfits y.sfits e

  edge_is : {e : Edge} {t : Bool} → e ≡ edge_of h.kind h.width → t ≡ valid_edge e → valid_edge (edge_of h.kind h.width) ≡ t
  edge_is e f = sym (f ∙ ap valid_edge e)

  -- what is told where size, gravity and edge pass, by what is found of drag, count and steps
  on_edge :
      {m : ℕ} {d n t : Bool} →
      valid_size (most_side_of caller) h.nx h.ny ≡ true →
      both h.gx h.gy ≡ true →
      valid_edge (edge_of h.kind h.width) ≡ true →
      m ≡ most_records_of caller →
      ltb most_drag h.drag ≡ d →
      ltb m h.count ≡ n →
      ltb most_steps h.steps ≡ t →
      checked true true true d n t (gives h) ≡ checked_header caller h (gives h)
  on_edge s g e m d n t = sym (header-checked caller h _ s g e d (ap (λ m. ltb m h.count) (sym m) ∙ n) t)

-- ---- the ways out

pub returns-then-not-size_is_valid : goal.returns-then-not-size_is_valid
returns-then-not-size_is_valid c =
    let h = c.args.h in
    let k = c.args.caller in
    sym (header-checked k h _ (size_is k h c.most_side.ensures c.if-not-size_is_valid.ensures) refl refl refl refl refl)

pub returns-then-not-gravity : goal.returns-then-not-gravity
returns-then-not-gravity c =
    let h = c.args.h in
    let k = c.args.caller in
    let s = size_is k h c.most_side.ensures c.if-not-size_is_valid.ensures in
    let g = gravity_is k h (search rules) (search rules) c.if-not-gravity.ensures in
    sym (header-checked k h _ s g refl refl refl refl)

pub returns-then-not-edge : goal.returns-then-not-edge
returns-then-not-edge c =
    let h = c.args.h in
    let k = c.args.caller in
    let s = size_is k h c.most_side.ensures c.if-not-size_is_valid.ensures in
    let found : true ≡ both (to_z w16 (of_z w16 h.gx)) (to_z w16 (of_z w16 h.gy)) = cc in
    let g = gravity_is k h (search rules) (search rules) found in
    let e = edge_is k h c.edge_of.ensures c.if-not-edge.ensures in
    sym (header-checked k h _ s g e refl refl refl)

pub returns-then-h-gt-MOST_DRAG : goal.returns-then-h-gt-MOST_DRAG
returns-then-h-gt-MOST_DRAG c =
    let h = c.args.h in
    let k = c.args.caller in
    let s = size_is k h c.most_side.ensures c.if-not-size_is_valid.ensures in
    let found : true ≡ both (to_z w16 (of_z w16 h.gx)) (to_z w16 (of_z w16 h.gy)) = cc in
    let g = gravity_is k h (search rules) (search rules) found in
    let e = edge_is k h c.edge_of.ensures c.if-not-edge.ensures in
    on_edge k h s g e c.most_records-most.ensures (lt-ltb _ _ c.if-h-gt-MOST_DRAG.true) refl refl

pub returns-then-most-h : goal.returns-then-most-h
returns-then-most-h c =
    let h = c.args.h in
    let k = c.args.caller in
    let s = size_is k h c.most_side.ensures c.if-not-size_is_valid.ensures in
    let found : true ≡ both (to_z w16 (of_z w16 h.gx)) (to_z w16 (of_z w16 h.gy)) = cc in
    let g = gravity_is k h (search rules) (search rules) found in
    let e = edge_is k h c.edge_of.ensures c.if-not-edge.ensures in
    on_edge k h s g e c.most_records-most.ensures (le-ltb _ _ c.if-h-gt-MOST_DRAG.false) (lt-ltb _ _ c.if-most-h.true) refl

pub returns-then-h-gt-MOST_STEPS : goal.returns-then-h-gt-MOST_STEPS
returns-then-h-gt-MOST_STEPS c =
    let h = c.args.h in
    let k = c.args.caller in
    let s = size_is k h c.most_side.ensures c.if-not-size_is_valid.ensures in
    let found : true ≡ both (to_z w16 (of_z w16 h.gx)) (to_z w16 (of_z w16 h.gy)) = cc in
    let g = gravity_is k h (search rules) (search rules) found in
    let e = edge_is k h c.edge_of.ensures c.if-not-edge.ensures in
    on_edge k h s g e c.most_records-most.ensures (le-ltb _ _ c.if-h-gt-MOST_DRAG.false) (le-ltb c.most_records-most.result h.count (omega arith)) (lt-ltb _ _ c.if-h-gt-MOST_STEPS.true)

pub returns : goal.returns
returns c =
    let h = c.args.h in
    let k = c.args.caller in
    let s = size_is k h c.most_side.ensures c.if-not-size_is_valid.ensures in
    let found : true ≡ both (to_z w16 (of_z w16 h.gx)) (to_z w16 (of_z w16 h.gy)) = cc in
    let g = gravity_is k h (search rules) (search rules) found in
    let e = edge_is k h c.edge_of.ensures c.if-not-edge.ensures in
    on_edge k h s g e c.most_records-most.ensures (le-ltb _ _ c.if-h-gt-MOST_DRAG.false) (le-ltb c.most_records-most.result h.count (omega arith)) (le-ltb _ _ c.if-h-gt-MOST_STEPS.false)
