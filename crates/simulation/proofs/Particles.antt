-- A step on unpacked particles, call by call.
--     scatter-ready    what the scatter asks
--     update-ready     after the scatter the update's limits hold
--     gather-ready     after the update the gather's
--     step-leaves      and the gather leaves the step
-- Assumes nothing.
use Rattle.std.proofs.Common.{Result, Ok, Err}
use mathlib.Core.Path.{◌≡◌, refl, sym, ap, ap₂, subst, subst₂, ◌∙◌}
use mathlib.Core.List.{List}
use Prim.Native.Nat.{ℕ}
use lib.IntN.{ℤ}
use Rattle.refusal.specs.Refused.{gives, told}
use Rattle.refusal.specs.declared.Refusal.{Refusal}
use Rattle.spline.specs.Kernel.{weight_in}
use Rattle.particle.specs.declared.Particle.{Particle}
use Rattle.apic.specs.Step.{along_x, along_y}
use Rattle.apic.proofs.Kernel.{kernel-lawful}
use Rattle.unpacked.specs.Unpacked.{Holds}
use Rattle.scatter_core.specs.Scatter.{ScatteredGrids, ScatterReady, Scatters}
use Rattle.update.specs.Update.{velocities}
use Rattle.update.specs.Internal.{GridLimits}
use Rattle.gathering.specs.Gather.{NodeVelocities, Gatherable, GathersFrom, Gathers}
use Rattle.gathering.proofs.Checks.{follow, checks-follow}
use Rattle.gathering.proofs.Kept.{all_moved}
use Rattle.settings.specs.declared.Settings.{Settings}
use Rattle.simulation.specs.Step.{masses_by, momenta_by, velocities_by, move_by, stepped_by, step_by}
use Rattle.simulation.specs.Internal.{StepReady, Steps, told_gathered_to}
use Rattle.simulation.proofs.Refusals.{grid-limits, velocity-limits}

module _ {s : Settings} {source : List ℤ} {weights : List (List ℕ)} {d : ℕ} {mass : List ℕ} {px py target : List ℤ} (ready : StepReady s source weights d mass px py target) where
  pub scatter-ready : ScatterReady s.nx s.ny source weights d mass px py
  scatter-ready =
      record {
        set = ready.set;
        kernel = ready.kernel;
        mass-long = ready.mass-long;
        px-long = ready.px-long;
        py-long = ready.py-long;
      }

  module _ {mass₁ : List ℕ} {px₁ py₁ : List ℤ} (scatters : Scatters s.nx s.ny source weights d mass₁ px₁ py₁) where
    -- the grids of whichever particles the source holds
    module _ (ps : List Particle) (holds : Holds s.nx s.ny source ps) where
      scattered : ScatteredGrids (weight_in weights) d s.nx s.ny ps mass₁ px₁ py₁
      scattered = scatters ps holds

      mass-is : mass₁ ≡ masses_by (weight_in weights) s ps
      unfolding masses_by
      mass-is = scattered.of-mass

      px-is : px₁ ≡ momenta_by (weight_in weights) d s along_x ps
      unfolding momenta_by
      px-is = scattered.of-px

      py-is : py₁ ≡ momenta_by (weight_in weights) d s along_y ps
      unfolding momenta_by
      py-is = scattered.of-py

    -- some particles that the source holds
    abbrev some : List Particle
    some = ready.set.particles

    abbrev held : Holds s.nx s.ny source some
    held = ready.set.holds

    pub update-ready : GridLimits d s mass₁ px₁ py₁
    update-ready =
        rw (mass-is some held, px-is some held, py-is some held) (grid-limits (kernel-lawful ready.kernel) s some held.limits ready.forces)

    module _ {px₂ py₂ : List ℤ} (x : px₂ ≡ velocities d s along_x mass₁ px₁) (y : py₂ ≡ velocities d s along_y mass₁ py₁) where
      module _ (ps : List Particle) (holds : Holds s.nx s.ny source ps) where
        ux-is : px₂ ≡ velocities_by (weight_in weights) d s along_x ps
        unfolding velocities_by
        ux-is = x ∙ ap₂ (velocities d s along_x) (mass-is ps holds) (px-is ps holds)

        uy-is : py₂ ≡ velocities_by (weight_in weights) d s along_y ps
        unfolding velocities_by
        uy-is = y ∙ ap₂ (velocities d s along_y) (mass-is ps holds) (py-is ps holds)

      pub gather-ready : Gatherable s.nx s.ny source px₂ py₂ target
      gather-ready =
          record {
            particles = ready.set;
            x-velocities = subst (NodeVelocities s.nx s.ny) (sym (ux-is some held)) (velocity-limits (kernel-lawful ready.kernel) s some held.limits ready.forces along_x);
            y-velocities = subst (NodeVelocities s.nx s.ny) (sym (uy-is some held)) (velocity-limits (kernel-lawful ready.kernel) s some held.limits ready.forces along_y);
            room = ready.room;
          }

      pub step-leaves : {target' : List ℤ} {r : Result Unit Refusal} → Gathers (weight_in weights) 0 s.nx s.ny source px₂ py₂ target target' r → Steps (weight_in weights) d s source r mass₁ px₂ py₂ target'
      unfolding stepped_by step_by
      step-leaves {target'} {r} gathers ps holds =
          record {
            grids = rw (mass-is ps holds, ux-is ps holds, uy-is ps holds);
            answer =
                followed r (stepped_by (weight_in weights) d s ps) ∙ ap (λ a. follow a (gives (stepped_by (weight_in weights) d s ps))) gathered-are.answer
                ∙ sym (checks-follow s.nx s.ny (move_by (weight_in weights) d s ps) 0 ps (gives (stepped_by (weight_in weights) d s ps)));
            moved = λ e. all_moved holds ready.room gathered-are (ap told e);
          }
        where
          gathered-are : GathersFrom (weight_in weights) 0 s.nx s.ny ps (velocities_by (weight_in weights) d s along_x ps) (velocities_by (weight_in weights) d s along_y ps) target target' r
          gathered-are =
              subst₂ (λ u v. GathersFrom (weight_in weights) 0 s.nx s.ny ps u v target target' r) (ux-is ps holds) (uy-is ps holds) (gathers ps holds)

          followed : (r : Result Unit Refusal) (qs : List Particle) → told_gathered_to r qs ≡ follow (told r) (gives qs)
          followed (Ok tt) qs = refl
          followed (Err e) qs = refl
