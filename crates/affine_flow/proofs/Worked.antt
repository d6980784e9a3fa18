-- The examples, by computing both sides of every equation; that no flow fits, by the difference of two velocities.
-- Assumes nothing.
use mathlib.Core.Path.{◌≡◌, refl, sym, ◌∙◌}
use mathlib.Core.List.{[], ◌∷◌}
use native.Mathlib.Omega.{arith}
use lib.IntN.{ℤ, pos, ◌+ℤ◌, ◌-ℤ◌, ◌*ℤ◌}
use Rattle.arith.specs.Order.{linear, reading}
use Rattle.arith.specs.Solver.{ring, quote}
use Rattle.arith.specs.Rounding.{nearest}
use Rattle.arith.specs.Sums.{Each}
use Rattle.spline.specs.Spline.{nearest_node, offset, on_axis, axis_weight}
use Rattle.particle.specs.declared.Particle.{Particle}
use Rattle.particle.specs.Record.{particle_of, record_of, read_particle, read_answer}
use Rattle.particles.specs.Set.{checked_particle, set_from, records_of}
use Rattle.apic.specs.Step.{Axis, along_x, along_y, velocity, affine, gravity, node_mass, node_momentum, node_velocity, after_drag, updated_velocity, gathered_velocity, gathered_affine, moved}
use Rattle.settings.specs.Settings.{still}
use Rattle.gathering.specs.Gather.{move_check, move_checks}
use Rattle.update.specs.Update.{velocities}
use Rattle.entry.specs.Entry.{checked_forces, begin_answer, entry_answer}
use Rattle.simulation.specs.Step.{masses_by, momenta_by, velocities_by, stepped_by, step_by, step_entry, step_from, step_after}
use Rattle.simulation.specs.Run.{run_by, run_entry, run_after}
use Rattle.affine_flow.specs.Flow.{Flow, times_place, Follows}
use Rattle.affine_flow.specs.Examples.{turn, stretch, shear, gliding, missing, Examples}

-- ---- a particle of a flow, entry by entry and axis by axis

abbrev SameEntry : Flow → Particle → Axis → Axis → Type 0
SameEntry f p a b = affine a b p ≡ f.B a b

abbrev SameVelocity : Flow → Particle → Axis → Type 0
SameVelocity f p a = pos 1024 *ℤ velocity a p ≡ pos 4 *ℤ f.A a +ℤ times_place f a p.x p.y

follows : (f : Flow) {p : Particle} → SameEntry f p along_x along_x → SameEntry f p along_x along_y → SameEntry f p along_y along_x → SameEntry f p along_y along_y → SameVelocity f p along_x → SameVelocity f p along_y → Follows 1024 4 f p
follows f {p} xx xy yx yy vx vy = record { its-affine = same; its-velocity = fits }
  where
    same : (a b : Axis) → SameEntry f p a b
    same along_x along_x = xx
    same along_x along_y = xy
    same along_y along_x = yx
    same along_y along_y = yy

    fits : (a : Axis) → SameVelocity f p a
    fits along_x = vx
    fits along_y = vy

-- ---- no flow

-- A cancels: on the x axis, velocities are as far apart as B times the places
differ : (f : Flow) {p q : Particle} → Follows 1024 4 f p → Follows 1024 4 f q → pos 1024 *ℤ (q.vx -ℤ p.vx) ≡ p.bxx *ℤ (pos q.x -ℤ pos p.x) +ℤ p.bxy *ℤ (pos q.y -ℤ pos p.y)
differ f {p} {q} h k =
    each q.vx p.vx
    ∙ (λ t. k.its-velocity along_x t -ℤ h.its-velocity along_x t)
    ∙ without (pos 4 *ℤ f.A along_x) (f.B along_x along_x) (f.B along_x along_y) (pos q.x) (pos q.y) (pos p.x) (pos p.y)
    ∙ (λ t. sym (h.its-affine along_x along_x) t *ℤ (pos q.x -ℤ pos p.x) +ℤ sym (h.its-affine along_x along_y) t *ℤ (pos q.y -ℤ pos p.y))
  where
    each : (u v : ℤ) → pos 1024 *ℤ (u -ℤ v) ≡ pos 1024 *ℤ u -ℤ pos 1024 *ℤ v
    each u v = ring (u ∷ v ∷ []) (search quote depth 30) (search quote depth 30) tt

    without : (c bx by x y x' y' : ℤ) → c +ℤ (bx *ℤ x +ℤ by *ℤ y) -ℤ (c +ℤ (bx *ℤ x' +ℤ by *ℤ y')) ≡ bx *ℤ (x -ℤ x') +ℤ by *ℤ (y -ℤ y')
    without c bx by x y x' y' = ring (c ∷ bx ∷ by ∷ x ∷ y ∷ x' ∷ y' ∷ []) (search quote depth 30) (search quote depth 30) tt

no_flow : (f : Flow) → Each (Follows 1024 4 f) missing → ⊥
no_flow f h = let e : pos 4096 ≡ pos 3072 = differ f h.0 h.1.0 in linear [] e (search reading depth 30) (omega arith)

-- ---- the steps and runs

calm : (a : Axis) → gravity (still 6 5) a ≡ pos 0
calm along_x = refl
calm along_y = refl

pub examples : Examples
unfolding nearest nearest_node offset on_axis axis_weight particle_of record_of read_particle read_answer checked_particle set_from records_of node_mass node_momentum node_velocity after_drag updated_velocity gathered_velocity gathered_affine moved move_check move_checks velocities masses_by momenta_by velocities_by stepped_by step_by checked_forces entry_answer begin_answer step_entry step_from step_after run_by run_entry run_after
examples =
    record {
      unforced = record { plain = record { edge-open = refl; no-drag = refl }; no-gravity = calm };
      turn-follows = (follows turn refl refl refl refl refl refl, (follows turn refl refl refl refl refl refl, (follows turn refl refl refl refl refl refl, tt)));
      turn-steps = record { accepted = refl; answer = refl; left = refl };
      turn-again = record { accepted = refl; answer = refl; left = refl };
      stretch-follows = (follows stretch refl refl refl refl refl refl, (follows stretch refl refl refl refl refl refl, (follows stretch refl refl refl refl refl refl, tt)));
      stretch-steps = record { accepted = refl; answer = refl; left = refl };
      shear-follows = (follows shear refl refl refl refl refl refl, (follows shear refl refl refl refl refl refl, (follows shear refl refl refl refl refl refl, tt)));
      shear-steps = record { accepted = refl; answer = refl; left = refl };
      drift-follows = (follows gliding refl refl refl refl refl refl, (follows gliding refl refl refl refl refl refl, (follows gliding refl refl refl refl refl refl, tt)));
      drift-answer = refl;
      drift-left = refl;
      stopped-answer = refl;
      stopped-left = refl;
      two-follow = (follows turn refl refl refl refl refl refl, (follows turn refl refl refl refl refl refl, tt));
      none-fits = no_flow;
      missing-steps = record { accepted = refl; answer = refl; left = refl };
    }
