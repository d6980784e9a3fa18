-- `update_grid::check_nodes`: a turn checks the next node. Assumes nothing.
use Rattle.std.proofs.Common.{◌≡◌, ℕ, ◌≤◌, Bool, true, List, get_or, ℤ, pos, nat_abs, w64, to_z, of_z, FitsSigned, sym, ap₂, ◌∙◌, rules}
use mir.Facts.{to_z-of_z}
use Rattle.refusal.specs.Refused.{Answer, done}
use Rattle.refusal.proofs.Answers.{each_on}
use Rattle.limits.specs.Limits.{most_gravity}
use Rattle.spline.specs.Kernel.{Spread}
use Rattle.update.specs.Update.{check_node, check_node_at}
use Rattle.update.specs.Internal.{is_calm}
use Rattle.update.proofs.Walk.{walk_start}
use Rattle.update.proofs.Calm.{calm-passes}
use Rattle.update_grid.proofs.check_nodes.Goals as goal
use Rattle.update_grid.proofs.check_nodes.Goals.{then-not-is_calm+in_ok-check, else-not-is_calm}

-- what `node::check` ensures, of the numbers in the buffers
at-node : {t : Answer Unit} (D : ℕ) (gx gy : ℤ) (mass : List ℕ) (px py : List ℤ) (k : ℕ) → FitsSigned w64 (get_or px k (pos 0)) → FitsSigned w64 (get_or py k (pos 0)) → t ≡ check_node D gx gy k (get_or mass k 0) (to_z w64 (of_z w64 (get_or px k (pos 0)))) (to_z w64 (of_z w64 (get_or py k (pos 0)))) → check_node_at D gx gy mass px py k ≡ t
at-node D gx gy mass px py k f g e = ap₂ (λ x y. check_node D gx gy k (get_or mass k 0) x y) (sym (to_z-of_z f)) (sym (to_z-of_z g)) ∙ sym e

-- .. and `node::is_calm`
at-calm : {r : Bool} (D : ℕ) (gx gy : ℤ) (mass : List ℕ) (px py : List ℤ) (k : ℕ) → Spread D → nat_abs gx ≤ most_gravity → nat_abs gy ≤ most_gravity → FitsSigned w64 (get_or px k (pos 0)) → FitsSigned w64 (get_or py k (pos 0)) → r ≡ is_calm (get_or mass k 0) (to_z w64 (of_z w64 (get_or px k (pos 0)))) (to_z w64 (of_z w64 (get_or py k (pos 0)))) → r ≡ true → check_node_at D gx gy mass px py k ≡ done
at-calm D gx gy mass px py k s hx hy f g e t =
    calm-passes D gx gy (get_or mass k 0) (get_or px k (pos 0)) (get_or py k (pos 0)) s hx hy
    (ap₂ (λ x y. is_calm (get_or mass k 0) x y) (sym (to_z-of_z f)) (sym (to_z-of_z g)) ∙ sym e ∙ t) k

pub loop-k-init : goal.loop-k-init
loop-k-init c = walk_start _ _ _ _ _ _ _

pub loop-k-preserved : goal.loop-k-preserved
loop-k-preserved c =
    let a = c.args in
    let k = c.loop-k.k in
    let gx = to_z w64 (of_z w64 a.gx) in
    let gy = to_z w64 (of_z w64 a.gy) in
    let f : FitsSigned w64 (get_or a.px.now k (pos 0)) = search rules in
    let g : FitsSigned w64 (get_or a.py.now k (pos 0)) = search rules in
    -- the node passed its check, or is calm
    let passes : check_node_at a.d gx gy a.mass.now a.px.now a.py.now k ≡ done =
    elim c.if-not-is_calm.branch [
      | then-not-is_calm+in_ok-check w ↦ at-node a.d gx gy a.mass.now a.px.now a.py.now k f g w.in_ok-check.ensures
      | else-not-is_calm w ↦
          at-calm a.d gx gy a.mass.now a.px.now a.py.now k c.requires.spread.0 (rw (to_z-of_z c.ranges.gx) c.requires.spread.1) (rw (to_z-of_z c.ranges.gy) c.requires.spread.2) f g c.is_calm.ensures w.if-not-is_calm.false
    ] in
    c.loop-k.invariant ∙ each_on (check_node_at a.d gx gy a.mass.now a.px.now a.py.now) k a.count c.loop-k-test.true passes
