-- `update_node::check`: the node's mass, and then its velocity. Assumes nothing.
use Rattle.std.proofs.Common.{◌≡◌, ℕ, Bool, ℤ, w64, to_z, of_z, FitsSigned, sym, ap₂, ◌∙◌, rules}
use mir.Facts.{to_z-of_z}
use Rattle.limits.specs.Limits.{most_node_velocity}
use Rattle.entry.specs.Checks.{both_within}
use Rattle.update.specs.Update.{velocity_of, breaks_mass}
use Rattle.update.proofs.Walk.{node-heavy, node-fast, node-passes}
use Rattle.update_node.proofs.check.Goals as goal

-- what breaks_mass ensures, of the numbers that the machine holds
mass-flag : {px py : ℤ} {r b : Bool} (M : ℕ) → FitsSigned w64 px → FitsSigned w64 py → r ≡ breaks_mass M (to_z w64 (of_z w64 px)) (to_z w64 (of_z w64 py)) → r ≡ b → breaks_mass M px py ≡ b
mass-flag M f g e t = ap₂ (λ x y. breaks_mass M x y) (sym (to_z-of_z f)) (sym (to_z-of_z g)) ∙ sym e ∙ t

-- .. and what velocity and both_within ensure
velocity-flag : {gx gy px py vx vy : ℤ} {r b : Bool} (D M : ℕ) → FitsSigned w64 gx → FitsSigned w64 gy → FitsSigned w64 px → FitsSigned w64 py → FitsSigned w64 vx → FitsSigned w64 vy → vx ≡ velocity_of D (to_z w64 (of_z w64 gx)) M (to_z w64 (of_z w64 px)) → vy ≡ velocity_of D (to_z w64 (of_z w64 gy)) M (to_z w64 (of_z w64 py)) → r ≡ both_within most_node_velocity (to_z w64 (of_z w64 vx)) (to_z w64 (of_z w64 vy)) → r ≡ b → both_within most_node_velocity (velocity_of D gx M px) (velocity_of D gy M py) ≡ b
velocity-flag D M fgx fgy fpx fpy fvx fvy ex ey e t =
    ap₂ (λ x y. both_within most_node_velocity x y)
    (ap₂ (λ g p. velocity_of D g M p) (sym (to_z-of_z fgx)) (sym (to_z-of_z fpx)) ∙ sym ex ∙ sym (to_z-of_z fvx))
    (ap₂ (λ g p. velocity_of D g M p) (sym (to_z-of_z fgy)) (sym (to_z-of_z fpy)) ∙ sym ey ∙ sym (to_z-of_z fvy))
    ∙ sym e ∙ t

pub returns-then-breaks_mass : goal.returns-then-breaks_mass
returns-then-breaks_mass c =
    sym (node-heavy _ _ _ _ _ _ _ (mass-flag c.args.mass c.ranges.px c.ranges.py c.breaks_mass.ensures c.if-breaks_mass.true))

pub returns-then-not-both_within : goal.returns-then-not-both_within
returns-then-not-both_within c =
    let vx : FitsSigned w64 c.velocity-vx.result = search rules in
    let vy : FitsSigned w64 c.velocity-vy.result = search rules in
    sym (node-fast _ _ _ _ _ _ _
    (mass-flag c.args.mass c.ranges.px c.ranges.py c.breaks_mass.ensures c.if-breaks_mass.false)
    (velocity-flag c.args.d c.args.mass c.ranges.gx c.ranges.gy c.ranges.px c.ranges.py vx vy c.velocity-vx.ensures c.velocity-vy.ensures c.both_within.ensures c.if-not-both_within.true))

pub returns : goal.returns
returns c =
    let vx : FitsSigned w64 c.velocity-vx.result = search rules in
    let vy : FitsSigned w64 c.velocity-vy.result = search rules in
    sym (node-passes _ _ _ _ _ _ _
    (mass-flag c.args.mass c.ranges.px c.ranges.py c.breaks_mass.ensures c.if-breaks_mass.false)
    (velocity-flag c.args.d c.args.mass c.ranges.gx c.ranges.gy c.ranges.px c.ranges.py vx vy c.velocity-vx.ensures c.velocity-vy.ensures c.both_within.ensures c.if-not-both_within.false))
