-- A step of particles at rest.
--     check-passed, checks-passed    particles that are not moved pass the checks of the gather
--     rest-move, rest-step           a step is done, and leaves them
-- Assumes nothing.
use mathlib.Core.Path.{◌≡◌, refl, ap, ap₂, ◌∙◌}
use mathlib.Core.Bool.{false, not}
use mathlib.Core.List.{List, [], ◌∷◌, map}
use Prim.Native.Nat.{ℕ, suc, ◌<◌}
use lib.Dec.{T}
use lib.IntN.{ℤ, pos, nat_abs, ◌+ℤ◌, +ℤ_idr}
use borrow.Author.Tests.{le-ltb}
use Rattle.refusal.specs.Refused.{Answer, gives}
use Rattle.limits.specs.Limits.{most_velocity, most_affine}
use Rattle.arith.specs.Order.{is_true}
use Rattle.arith.specs.Rounding.{rounded}
use Rattle.arith.specs.Sums.{Each, each_map}
use Rattle.spline.specs.Spline.{on_axis}
use Rattle.particle.specs.declared.Particle.{Particle}
use Rattle.settings.specs.declared.Settings.{Settings}
use Rattle.apic.specs.Step.{Axis, along_x, along_y, gravity}
use Rattle.apic.specs.Limits.{ParticleLimits, SetLimits}
use Rattle.apic.specs.Motion.{Placed, AtRest}
use Rattle.apic.proofs.Fields.{moved-field}
use Rattle.apic.proofs.Weighed.{Weighs}
use Rattle.apic.proofs.Bounds.{spread-whole}
use Rattle.apic.proofs.Kernel.{Lawful}
use Rattle.gathering.specs.Gather.{off_axis, move_check, move_checks}
use Rattle.simulation.specs.Step.{move_by, stepped_by, step_by}
use Rattle.simulation.proofs.Fields.{updated_field, field}
use Rattle.at_rest.specs.Still.{Gentle}
use Rattle.at_rest.proofs.Nodes.{rest-weighs, rest-gathered}

-- ---- the checks

module _ (nx ny : ℕ) (p : Particle) (limits : ParticleLimits nx ny p) (still : AtRest p) where
  on-axis : (n x : ℕ) {v : ℤ} → v ≡ pos 0 → T (on_axis n x) → off_axis n (pos x +ℤ v) ≡ false
  on-axis n x e h = ap (λ v. off_axis n (pos x +ℤ v)) e ∙ ap (off_axis n) (+ℤ_idr (pos x)) ∙ ap not (is_true (on_axis n x) h)

  check-passed : {A : Type 0} (k : ℕ) (rest : Answer A) → move_check nx ny p p k rest ≡ rest
  unfolding move_check
  check-passed k rest =
      simp (
        le-ltb most_velocity (nat_abs p.vx) limits.vx,
        le-ltb most_velocity (nat_abs p.vy) limits.vy,
        le-ltb most_affine (nat_abs p.bxx) limits.bxx,
        le-ltb most_affine (nat_abs p.bxy) limits.bxy,
        le-ltb most_affine (nat_abs p.byx) limits.byx,
        le-ltb most_affine (nat_abs p.byy) limits.byy,
        on-axis nx p.x still.vx limits.x-on,
        on-axis ny p.y still.vy limits.y-on,
      )

checks-passed : {A : Type 0} (nx ny : ℕ) (move : Particle → Particle) (k : ℕ) (ps : List Particle) (rest : Answer A) → Each (ParticleLimits nx ny) ps → Each AtRest ps → Each (λ p. move p ≡ p) ps → move_checks nx ny move k ps rest ≡ rest
unfolding move_checks
checks-passed nx ny move k [] rest limits still same = refl
checks-passed nx ny move k (p ∷ ps) rest limits still same =
    ap (λ q. move_check nx ny p q k (move_checks nx ny move (suc k) ps rest)) same.0
    ∙ check-passed nx ny p limits.0 still.0 k (move_checks nx ny move (suc k) ps rest)
    ∙ checks-passed nx ny move (suc k) ps rest limits.1 still.1 same.1

-- ---- the step

unmoved : {A : Type 0} (f : A → A) (xs : List A) → Each (λ x. f x ≡ x) xs → map f xs ≡ xs
unmoved f [] h = refl
unmoved f (x ∷ xs) h = ap₂ ◌∷◌ h.0 (unmoved f xs h.1)

module _ {w : ℕ → ℕ → ℤ} {D : ℕ} (law : Lawful w D) (s : Settings) (gentle : Gentle s) (ps : List Particle) (limits : SetLimits s.nx s.ny ps) (still : Each AtRest ps) where
  abbrev on : Each (Placed w D s.nx s.ny) ps
  on = law.placed s.nx s.ny ps limits.each

  massive : Each (λ p. 0 < p.mass) ps
  massive = each_map (ParticleLimits s.nx s.ny) _ (λ p h. h.mass-least) ps limits.each

  abbrev WeighsOn : Axis → Particle → Type 0
  WeighsOn a = Weighs w s.nx s.ny (updated_field w D s a ps) (λ i j. gravity s a)

  rest-move : Each (λ p. move_by w D s ps p ≡ p) ps
  rest-move =
      all ps on still
      (rest-weighs w D (spread-whole law.spread) s gentle.plain ps on massive still along_x)
      (rest-weighs w D (spread-whole law.spread) s gentle.plain ps on massive still along_y)
    where
      all : (qs : List Particle) → Each (Placed w D s.nx s.ny) qs → Each AtRest qs → Each (WeighsOn along_x) qs → Each (WeighsOn along_y) qs → Each (λ p. move_by w D s ps p ≡ p) qs
      all [] placed rests x y = tt
      all (p ∷ qs) placed rests x y = (
        moved-field rounded w s.nx s.ny _ _ _ _ (field w D s ps along_x) (field w D s ps along_y) p
            ∙ rest-gathered placed.0 rests.0 x.0 y.0 gentle.gravity-x gentle.gravity-y,
        all qs placed.1 rests.1 x.1 y.1,
      )

  pub rest-step : step_by w D s ps ≡ gives ps
  unfolding step_by stepped_by
  rest-step =
      checks-passed s.nx s.ny (move_by w D s ps) 0 ps (gives (map (move_by w D s ps) ps)) limits.each still rest-move
      ∙ ap gives (unmoved (move_by w D s ps) ps rest-move)
