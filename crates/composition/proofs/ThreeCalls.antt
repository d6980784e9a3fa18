-- A step is scatter, update and gather.
--     entry-is             what passes a step's checks at entry passes those of both transfers
--     scatter-is           so scatter leaves the masses and momenta of a step
--     update-is            update refuses none of their nodes, and leaves the velocities of a step
--     gather-is            gather refuses none of those, and answers as the step
-- Assumes nothing.
use mathlib.Core.Path.{◌≡◌, refl, sym, ap, ap₂, ◌∙◌, subst}
use mathlib.Core.Bool.{true, not, ◌&&◌}
use mathlib.Core.List.{List}
use Prim.Native.Nat.{ℕ, ◌*◌, ◌<◌, ◌≤◌}
use native.Mathlib.Nat.{zero-add}
use native.Mathlib.Omega.{arith}
use lib.ListN.{length, get_or}
use lib.IntN.{ℤ, pos, nat_abs}
use borrow.Author.Tests.{eq-eqb}
use Rattle.refusal.specs.Refused.{Answer, gives, refused, refuse_if, and_then, either, done, told_of}
use Rattle.refusal.proofs.Answers.{each-pass}
use Rattle.particle.specs.declared.Particle.{Particle}
use Rattle.limits.specs.Limits.{most_node_velocity}
use Rattle.spline.specs.Spline.{D}
use Rattle.apic.specs.Step.{Axis, along_x, along_y, Grids}
use Rattle.apic.proofs.Spline.{spline-lawful}
use Rattle.particles.specs.Set.{records_of}
use Rattle.particles.proofs.Checks.{entered}
use Rattle.arith.specs.Lists.{each_at}
use Rattle.limits.specs.declared.Caller.{Caller}
use Rattle.gathering.specs.Gather.{NodeVelocities}
use Rattle.update.specs.Update.{velocities, both_axes, update_answer}
use Rattle.settings.specs.Settings.{still}
use Rattle.entry.specs.declared.Buffers.{Buffers}
use Rattle.entry.specs.declared.Buffers.TheVariants.{Two}
use Rattle.entry.specs.Checks.{are_long}
use Rattle.entry.proofs.Entry.{both-within, enters}
use Rattle.entry.specs.Entry.{entry_answer}
use Rattle.transfer.specs.Transfer.{scatter_answer, velocity_check, velocity_checks, checked_set, move_answer, gather_answer, Fills, Moves}
use Rattle.settings.specs.declared.Settings.{Settings}
use Rattle.simulation.specs.Step.{seen, masses, masses_by, momenta, momenta_by, updated_velocities, velocities_by, stepped_by, step_of, step_by, nodes_of, step_entry, step_from, step_after}
use Rattle.simulation.proofs.Refusals as refusals
use Rattle.simulation.proofs.Refusals.{velocity-limits}
use Rattle.composition.specs.ThreeCalls.{ThreeCalls, IsStep, StepIsThreeCalls, ThreeCallsExist}
use Rattle.composition.proofs.Entry.{Known, step_after-entry, known}

-- ---- node velocities within their limits pass gather's check, 12

velocities-pass : {nx ny : ℕ} {ux uy : List ℤ} → NodeVelocities nx ny ux → NodeVelocities nx ny uy → velocity_checks (nx * ny) ux uy ≡ done
unfolding velocity_checks
velocities-pass {nx} {ny} {ux} {uy} a b =
    each-pass (velocity_check ux uy) 0 (nx * ny)
    (λ k h.
    ap (velocity_check ux uy) (zero-add k)
    ∙ ap (λ t. refuse_if (not t) 12 k done) (both-within most_node_velocity (get_or ux k (pos 0)) (get_or uy k (pos 0)) (at a k h) (at b k h)))
  where
    at : {u : List ℤ} → NodeVelocities nx ny u → (k : ℕ) → k < nx * ny → nat_abs (get_or u k (pos 0)) ≤ most_node_velocity
    at {u} v k h = each_at (λ z. nat_abs z ≤ most_node_velocity) u k (pos 0) v.each (rw v.count h)

-- ---- the three calls

module _ (caller : Caller) (s : Settings) (records : List ℕ) (lent : Grids) {ps : List Particle} (e : step_entry caller s records lent ≡ gives ps) where
  abbrev k : Known caller s records lent ps
  k = known caller s records lent e

  -- the same set, with buffers of the grid's size, no gravity, open edges and no drag
  entry-is : (buffers : Buffers) → are_long (s.nx * s.ny) buffers ≡ true → entry_answer caller (still s.nx s.ny) buffers 0 records ≡ gives ps
  entry-is buffers h =
      enters caller (still s.nx s.ny) buffers 0 records k.accepted.own h
      (record { gravity-x = omega arith; gravity-y = omega arith; edge = refl; drag = omega arith })
      (omega arith)

  -- a step's velocities on an axis
  abbrev u : Axis → List ℤ
  u a = updated_velocities s a ps

  scatter-is : scatter_answer caller s.nx s.ny records (length lent.mass) (length lent.x) (length lent.y) ≡ gives ps
  scatter-is = entry-is _ k.accepted.long

  update-is : update_answer caller s (masses s ps) (momenta s along_x ps) (momenta s along_y ps) ≡ done
  update-is = refusals.update-done caller s ps (entered caller s.nx s.ny records k.accepted.own).size k.limits k.accepted.forces

  gather-is : gather_answer caller s.nx s.ny records (u along_x) (u along_y) ≡ step_of s ps
  unfolding checked_set step_by stepped_by
  gather-is =
      let v = velocity-limits spline-lawful s ps k.limits k.accepted.forces in
      ap (λ a. and_then (and_then a (λ qs. and_then (velocity_checks (s.nx * s.ny) (u along_x) (u along_y)) (λ _. gives qs))) (λ qs. move_answer s.nx s.ny (u along_x) (u along_y) qs))
      (entry-is (Two (length (u along_x)) (length (u along_y))) (ap₂ ◌&&◌ (eq-eqb (length (u along_x)) (s.nx * s.ny) (v along_x).count) (eq-eqb (length (u along_y)) (s.nx * s.ny) (v along_y).count)))
      ∙ ap (λ a. and_then (and_then a (λ _. gives ps)) (λ qs. move_answer s.nx s.ny (u along_x) (u along_y) qs)) (velocities-pass (v along_x) (v along_y))

  -- what is told and left of the moved particles
  left : (grids : Grids) (a : Answer (List Particle)) {told : Answer Unit} {records' : List ℕ} → Moves a records told records' → either a (λ qs. seen done (records_of qs) grids) (λ n k. seen (refused n k) records grids) ≡ seen told records' grids
  left grids (gives qs) m = ap₂ (λ t r. seen t r grids) (sym m.answer) (sym m.left_is)
  left grids (refused n k) m = ap₂ (λ t r. seen t r grids) (sym m.answer) (sym m.left_is)

  module _ (c : ThreeCalls caller s records lent) where
    filled : Fills s.nx s.ny (gives ps) lent.mass lent.x lent.y c.scattered c.mass c.px c.py
    filled = rw scatter-is at c.scatter

    mass-is : c.mass ≡ masses s ps
    unfolding masses_by
    mass-is = ap (λ g. g.mass) filled.left_is

    px-is : c.px ≡ momenta s along_x ps
    unfolding momenta_by
    px-is = ap (λ g. g.x) filled.left_is

    py-is : c.py ≡ momenta s along_y ps
    unfolding momenta_by
    py-is = ap (λ g. g.y) filled.left_is

    accepted : update_answer caller s c.mass c.px c.py ≡ done
    accepted = rw (mass-is, px-is, py-is) update-is

    updated : both_axes c.ux c.uy ≡ both_axes (velocities D s along_x c.mass c.px) (velocities D s along_y c.mass c.py)
    updated =
        c.update.left_is
        ∙ ap (λ a. either a (λ _. both_axes (velocities D s along_x c.mass c.px) (velocities D s along_y c.mass c.py)) (λ n k. both_axes c.px c.py)) accepted

    ux-is : c.ux ≡ u along_x
    unfolding velocities_by
    ux-is =
        ap (λ g. g.x) updated
        ∙ ap₂ (velocities D s along_x) mass-is px-is

    uy-is : c.uy ≡ u along_y
    unfolding velocities_by
    uy-is =
        ap (λ g. g.y) updated
        ∙ ap₂ (velocities D s along_y) mass-is py-is

    moves : Moves (step_of s ps) records c.gathered c.moved
    moves =
        subst (λ a. Moves a records c.gathered c.moved)
        (ap₂ (gather_answer caller s.nx s.ny records) ux-is uy-is ∙ gather-is) c.gather

    grids-are : nodes_of s ps ≡ record { mass = c.mass; x = c.ux; y = c.uy }
    grids-are = sym (rw (mass-is, ux-is, uy-is))

    leaves : step_after caller s records lent ≡ seen c.gathered c.moved (record { mass = c.mass; x = c.ux; y = c.uy })
    unfolding step_from
    leaves =
        step_after-entry caller s records lent e
        ∙ left (nodes_of s ps) (step_of s ps) moves
        ∙ ap (seen c.gathered c.moved) grids-are

    is-step : IsStep caller s records lent c
    is-step = record { scatter-done = filled.answer; update-done = c.update.answer ∙ ap told_of accepted; leaves = leaves }

pub step-is-three-calls : StepIsThreeCalls
step-is-three-calls caller s records lent ps e c = is-step caller s records lent e c

-- the answers and buffers that the promises name
pub three-calls-exist : ThreeCallsExist
three-calls-exist caller s records lent =
    record {
      scattered = _;
      mass = _;
      px = _;
      py = _;
      scatter = record { answer = refl; left_is = refl };
      updated = _;
      ux = _;
      uy = _;
      update = record { answer = refl; left_is = refl };
      gathered = _;
      moved = _;
      gather = record { answer = refl; left_is = refl };
    }
