-- `update_grid::update`: the checks at entry, the nodes, and then all of them. Assumes nothing.
use Rattle.std.proofs.Common.{◌≡◌, ℕ, ◌*◌, List, ℤ, w64, to_z, of_z, sym, ap₂, ◌∙◌}
use Rattle.std.proofs.lemmas.Result.{err_from_is_err_and}
use Rattle.arith.specs.Machine.{read-size}
use Rattle.refusal.specs.Refused.{Answer, done}
use Rattle.refusal.proofs.Answers.{refused-leaves}
use Rattle.spline.specs.Spline.{D}
use Rattle.spline.proofs.Table.{spline-spread}
use Rattle.limits.specs.declared.Caller.{Caller}
use Rattle.settings.specs.declared.Settings.{Settings}
use Rattle.settings.specs.Settings.{ForceLimits}
use Rattle.entry.specs.Entry.{begin_answer}
use Rattle.entry.proofs.Entry.{Passed, passed-checks, long-three, count_fits}
use Rattle.update.specs.Update.{check_nodes, update_answer}
use Rattle.update.proofs.Answers.{buffers, node_answers, by-entry, done-is, grid-limits}
use Rattle.update_grid.proofs.update.Goals as goal

-- past the checks at entry
module _ (caller : Caller) (s : Settings) (mass : List ℕ) (px py : List ℤ) (begun : done ≡ begin_answer caller s (buffers mass px py) 0 0) where
  checks : Passed caller s (buffers mass px py) 0 0
  checks = (passed-checks caller s (buffers mass px py) 0 0 (sym begun)).0

  forces : ForceLimits s
  forces = (passed-checks caller s (buffers mass px py) 0 0 (sym begun)).1

  -- gravity as it was given
  back-x : to_z w64 (of_z w64 s.gx) ≡ s.gx
  back-x = read-size w64 s.gx forces.gravity-x tt

  back-y : to_z w64 (of_z w64 s.gy) ≡ s.gy
  back-y = read-size w64 s.gy forces.gravity-y tt

  -- what `check_nodes` tells
  nodes : {t : Answer Unit} → t ≡ check_nodes D (s.nx * s.ny) (to_z w64 (of_z w64 s.gx)) (to_z w64 (of_z w64 s.gy)) mass px py → node_answers s mass px py ≡ t
  nodes e = ap₂ (λ x y. check_nodes D (s.nx * s.ny) x y mass px py) (sym back-x) (sym back-y) ∙ sym e

  answer : {t : Answer Unit} → t ≡ check_nodes D (s.nx * s.ny) (to_z w64 (of_z w64 s.gx)) (to_z w64 (of_z w64 s.gy)) mass px py → update_answer caller s mass px py ≡ t
  answer e = by-entry caller s mass px py (sym begun) ∙ nodes e

pub returns-in_err-begin : goal.returns-in_err-begin
returns-in_err-begin c =
    let p = err_from_is_err_and c.from_residual.result c.from_residual.ensures.1 in
    rw (p.1, p.2) (refused-leaves (by-entry _ _ _ _ _ (sym c.in_err-begin.ensures)))

pub overflow_mul-count : goal.overflow_mul-count
overflow_mul-count c =
    let a = c.args in
    count_fits a.caller a.settings.nx a.settings.ny (checks a.caller a.settings a.mass.now a.px.now a.py.now c.in_ok-begin.ensures).size

pub check_nodes-requires-clause-lengths : goal.check_nodes-requires-clause-lengths
check_nodes-requires-clause-lengths c =
    let a = c.args in
    let l = long-three _ _ _ _ (checks a.caller a.settings a.mass.now a.px.now a.py.now c.in_ok-begin.ensures).long in
    (l.mass-is, (l.x-is, l.y-is))

pub check_nodes-requires-clause-spread : goal.check_nodes-requires-clause-spread
check_nodes-requires-clause-spread c =
    let a = c.args in
    let f = forces a.caller a.settings a.mass.now a.px.now a.py.now c.in_ok-begin.ensures in (
      spline-spread,
      rw (back-x a.caller a.settings a.mass.now a.px.now a.py.now c.in_ok-begin.ensures) f.gravity-x,
      rw (back-y a.caller a.settings a.mass.now a.px.now a.py.now c.in_ok-begin.ensures) f.gravity-y,
    )

pub returns-in_err-check_nodes : goal.returns-in_err-check_nodes
returns-in_err-check_nodes c =
    let a = c.args in
    let p = err_from_is_err_and c.from_residual-in_err-check_nodes.result c.from_residual-in_err-check_nodes.ensures.1 in
    rw (p.1, p.2) (refused-leaves (answer a.caller a.settings a.mass.now a.px.now a.py.now c.in_ok-begin.ensures c.in_err-check_nodes.ensures))

pub update_all-requires : goal.update_all-requires
update_all-requires c =
    let a = c.args in
    grid-limits _ _ _ _ _
    (checks a.caller a.settings a.mass.now a.px.now a.py.now c.in_ok-begin.ensures)
    (forces a.caller a.settings a.mass.now a.px.now a.py.now c.in_ok-begin.ensures)
    (nodes a.caller a.settings a.mass.now a.px.now a.py.now c.in_ok-begin.ensures c.in_ok-check_nodes.ensures)

pub returns : goal.returns
returns c =
    let a = c.args in
    done-is _ _ _ _ _ (answer a.caller a.settings a.mass.now a.px.now a.py.now c.in_ok-begin.ensures c.in_ok-check_nodes.ensures) c.update_all.ensures.0 c.update_all.ensures.1
