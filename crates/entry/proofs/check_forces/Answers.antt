-- `entry::check_forces`: gravity, edge and drag in their order. Assumes nothing.
use Rattle.std.proofs.Common.{◌≡◌, Bool, ℤ, w64, to_z, of_z, FitsSigned, sym, ap₂, ◌∙◌, rules}
use mir.Facts.{to_z-of_z}
use Rattle.refusal.specs.Refused.{done}
use Rattle.limits.specs.Limits.{most_gravity}
use Rattle.entry.specs.Checks.{both_within}
use Rattle.entry.proofs.Entry.{bad-gravity, bad-edge, bad-drag, good-forces}
use Rattle.entry.proofs.check_forces.Goals as goal

-- gravity's test, of gravity as it was given
gravity-flag : (gx gy : ℤ) {r b : Bool} → FitsSigned w64 gx → FitsSigned w64 gy → r ≡ both_within most_gravity (to_z w64 (of_z w64 gx)) (to_z w64 (of_z w64 gy)) → r ≡ b → both_within most_gravity gx gy ≡ b
gravity-flag gx gy f g e t = ap₂ (λ x y. both_within most_gravity x y) (sym (to_z-of_z f)) (sym (to_z-of_z g)) ∙ sym e ∙ t

pub returns-then-not-gravity_in_range : goal.returns-then-not-gravity_in_range
returns-then-not-gravity_in_range c =
    let s = c.args.settings in
    sym (bad-gravity s done (gravity-flag s.gx s.gy (search rules) (search rules) c.gravity_in_range.ensures c.if-not-gravity_in_range.true))

pub returns-then-not-edge_is_valid : goal.returns-then-not-edge_is_valid
returns-then-not-edge_is_valid c =
    let s = c.args.settings in
    sym (bad-edge s done
    (gravity-flag s.gx s.gy (search rules) (search rules) c.gravity_in_range.ensures c.if-not-gravity_in_range.false)
    (sym c.edge_is_valid.ensures ∙ c.if-not-edge_is_valid.true))

pub returns-then-settings-gt-MOST_DRAG : goal.returns-then-settings-gt-MOST_DRAG
returns-then-settings-gt-MOST_DRAG c =
    let s = c.args.settings in
    sym (bad-drag s done
    (gravity-flag s.gx s.gy (search rules) (search rules) c.gravity_in_range.ensures c.if-not-gravity_in_range.false)
    (sym c.edge_is_valid.ensures ∙ c.if-not-edge_is_valid.false) c.if-settings-gt-MOST_DRAG.true)

pub returns : goal.returns
returns c =
    let s = c.args.settings in
    sym (good-forces s done
    (gravity-flag s.gx s.gy (search rules) (search rules) c.gravity_in_range.ensures c.if-not-gravity_in_range.false)
    (sym c.edge_is_valid.ensures ∙ c.if-not-edge_is_valid.false) c.if-settings-gt-MOST_DRAG.false)
