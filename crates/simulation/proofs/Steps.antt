-- One completed step.
--     Completed           a step from ps that is not refused, ps breaking no limit
--     step-result         a step that is not refused passed its checks and leads to `stepped`
--     completed           so it is completed
--     all-passed          each particle passed
--     limits-after        the particles after it break no limit
--     kept-labels, kept-identifiers, kept-masses, kept-marks, kept-mass
--                         identifiers, masses and marks are kept
--     step-linear, step-angular
--                         demand 3 for one step
-- Assumes nothing.
use mathlib.Core.Path.{◌≡◌, refl, sym, ap, ◌∙◌, subst}
use mathlib.Core.List.{List, [], ◌∷◌, map}
use Prim.Native.Nat.{ℕ, suc, ◌*◌, ◌^◌}
use lib.Dec.{T}
use lib.IntN.{ℤ, pos, ◌+ℤ◌, ◌-ℤ◌, ◌*ℤ◌}
use lib.Signed.{◌≤ℤ◌, non_neg, pos-nat_abs}
use Rattle.arith.specs.Order.{Within, pos-nonneg}
use Rattle.arith.specs.Rounding.{rounded}
use Rattle.arith.proofs.Rounding.{rounded-error}
use Rattle.arith.specs.Sums.{Each, each_map, total-same}
use Rattle.refusal.specs.Refused.{Answer, gives}
use Rattle.particle.specs.declared.Particle.{Particle}
use Rattle.particle.specs.Record.{label}
use Rattle.apic.specs.Step.{Axis, along_x, along_y, gravity, new_coordinate, moved, node}
use Rattle.apic.specs.Totals.{total_mass, momentum, angular_momentum, torque, impulse, angular_impulse, first_moment}
use Rattle.apic.specs.Limits.{SetLimits}
use Rattle.apic.proofs.Gather.{NewPlace, gather-keeps}
use Rattle.apic.proofs.Fields.{velocity-fields}
use Rattle.apic.proofs.Bounds.{spread-whole}
use Rattle.apic.proofs.Kernel.{Lawful}
use Rattle.apic.proofs.Conservation as apic
use Rattle.gathering.specs.Gather.{move_checks}
use Rattle.gathering.proofs.Checks.{checks-result, Passed, passed}
use Rattle.gathering.proofs.Kept.{set-kept}
use Rattle.settings.specs.declared.Settings.{Settings}
use Rattle.simulation.specs.Step.{velocities_by, move_by, stepped_by, step_by}
use Rattle.simulation.proofs.Fields.{updated_field, field, stepped-is}

-- the checks of a step, apart from what it leads to
abbrev pub checks : (ℕ → ℕ → ℤ) → ℕ → Settings → List Particle → Answer (Unit {0})
checks w D s ps = move_checks s.nx s.ny (move_by w D s ps) 0 ps (gives tt)

pub record Completed (w : ℕ → ℕ → ℤ) (D : ℕ) (s : Settings) (ps : List Particle) : Type 0 where
  pub limits : SetLimits s.nx s.ny ps
  pub checked : checks w D s ps ≡ gives tt
  pub unrefused : step_by w D s ps ≡ gives (stepped_by w D s ps)

pub step-result : (w : ℕ → ℕ → ℤ) (D : ℕ) (s : Settings) (ps : List Particle) {qs : List Particle} → step_by w D s ps ≡ gives qs → (checks w D s ps ≡ gives tt) × (stepped_by w D s ps ≡ qs)
unfolding step_by
step-result w D s ps e = checks-result s.nx s.ny (move_by w D s ps) 0 ps (stepped_by w D s ps) e

pub completed : (w : ℕ → ℕ → ℤ) (D : ℕ) (s : Settings) (ps : List Particle) {qs : List Particle} → SetLimits s.nx s.ny ps → step_by w D s ps ≡ gives qs → Completed w D s ps
completed w D s ps limits e =
    let h = step-result w D s ps e in
    record { limits = limits; checked = h.0; unrefused = e ∙ ap gives (sym h.1) }

pub all-passed : (nx ny : ℕ) (move : Particle → Particle) (k : ℕ) (ps : List Particle) → move_checks nx ny move k ps (gives (tt {0})) ≡ gives tt → Each (λ p. Passed nx ny p (move p)) ps
unfolding move_checks
all-passed nx ny move k [] e = tt
all-passed nx ny move k (p ∷ ps) e =
    let h = passed nx ny p (move p) k (move_checks nx ny move (suc k) ps (gives tt)) e in
    (h.0, all-passed nx ny move (suc k) ps h.1)

-- ---- what is kept

module _ (w : ℕ → ℕ → ℤ) (D : ℕ) (s : Settings) (ps : List Particle) where
  abbrev ux : ℕ → ℕ → ℤ
  ux = node s.nx (velocities_by w D s along_x ps)

  abbrev uy : ℕ → ℕ → ℤ
  uy = node s.nx (velocities_by w D s along_y ps)

  kept : {A : Type 0} (f : Particle → A) → ((p : Particle) → f (move_by w D s ps p) ≡ f p) → map f (stepped_by w D s ps) ≡ map f ps
  unfolding stepped_by
  kept f same = gather-keeps rounded w s.nx s.ny ux uy f same ps

  pub kept-labels : map label (stepped_by w D s ps) ≡ map label ps
  unfolding moved
  kept-labels = kept label (λ p. refl)

  pub kept-identifiers : map (λ p. p.identifier) (stepped_by w D s ps) ≡ map (λ p. p.identifier) ps
  unfolding moved
  kept-identifiers = kept (λ p. p.identifier) (λ p. refl)

  pub kept-masses : map (λ p. p.mass) (stepped_by w D s ps) ≡ map (λ p. p.mass) ps
  unfolding moved
  kept-masses = kept (λ p. p.mass) (λ p. refl)

  pub kept-marks : map (λ p. p.marks) (stepped_by w D s ps) ≡ map (λ p. p.marks) ps
  unfolding moved
  kept-marks = kept (λ p. p.marks) (λ p. refl)

  pub kept-mass : total_mass (stepped_by w D s ps) ≡ total_mass ps
  kept-mass = total-same (λ p. p.mass) (λ m. m) (stepped_by w D s ps) ps kept-masses

  module _ (h : Completed w D s ps) where
    pub limits-after : SetLimits s.nx s.ny (stepped_by w D s ps)
    unfolding stepped_by
    limits-after = set-kept w s.nx s.ny (velocities_by w D s along_x ps) (velocities_by w D s along_y ps) 0 ps h.limits h.checked

    new-place : (p : Particle) → Passed s.nx s.ny p (move_by w D s ps p) → NewPlace rounded w s.nx s.ny (updated_field w D s along_x ps) (updated_field w D s along_y ps) p
    unfolding moved
    new-place p m =
        record {
          new-x = subst (λ v. pos 0 ≤ℤ new_coordinate along_x p v) (velocity-fields rounded w s.nx s.ny ux (updated_field w D s along_x ps) (field w D s ps along_x) p) (nonneg m.x.0);
          new-y = subst (λ v. pos 0 ≤ℤ new_coordinate along_y p v) (velocity-fields rounded w s.nx s.ny uy (updated_field w D s along_y ps) (field w D s ps along_y) p) (nonneg m.y.0);
        }
      where
        nonneg : {z : ℤ} → T (non_neg z) → pos 0 ≤ℤ z
        nonneg {z} t = subst (λ y. pos 0 ≤ℤ y) (pos-nat_abs z t) (pos-nonneg _)

    pub step-linear : Lawful w D → (a : Axis) → Within (pos (257 * 2 ^ 26) *ℤ pos (total_mass ps)) (pos (2 ^ 35) *ℤ (momentum a (stepped_by w D s ps) -ℤ momentum a ps) -ℤ pos 2 *ℤ (pos (2 ^ 26) *ℤ (pos (total_mass ps) *ℤ gravity s a) +ℤ impulse rounded w D s a ps))
    step-linear law a =
        subst (λ qs. Within (pos (257 * 2 ^ 26) *ℤ pos (total_mass ps)) (pos (2 ^ 35) *ℤ (momentum a qs -ℤ momentum a ps) -ℤ pos 2 *ℤ (pos (2 ^ 26) *ℤ (pos (total_mass ps) *ℤ gravity s a) +ℤ impulse rounded w D s a ps))) (sym (stepped-is w D s ps))
        (apic.step-linear rounded rounded-error w D (spread-whole law.spread) s ps (law.placed s.nx s.ny ps h.limits.each) a)

    pub step-angular : Lawful w D → Within (pos (2 ^ 35) *ℤ pos (total_mass ps) +ℤ pos (257 * 2 ^ 26) *ℤ first_moment ps) (pos (2 ^ 35) *ℤ (angular_momentum (stepped_by w D s ps) -ℤ angular_momentum ps) -ℤ pos 2 *ℤ (pos (2 ^ 26) *ℤ torque s.gx s.gy ps +ℤ angular_impulse rounded w D s ps))
    step-angular law =
        subst (λ qs. Within (pos (2 ^ 35) *ℤ pos (total_mass ps) +ℤ pos (257 * 2 ^ 26) *ℤ first_moment ps) (pos (2 ^ 35) *ℤ (angular_momentum qs -ℤ angular_momentum ps) -ℤ pos 2 *ℤ (pos (2 ^ 26) *ℤ torque s.gx s.gy ps +ℤ angular_impulse rounded w D s ps))) (sym (stepped-is w D s ps))
        (apic.step-angular rounded rounded-error w D (spread-whole law.spread) s ps (law.placed s.nx s.ny ps h.limits.each)
        (each_map _ _ new-place ps (all-passed s.nx s.ny (move_by w D s ps) 0 ps h.checked)))
