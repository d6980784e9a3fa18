-- `update_node::velocity`, with mass and without. Assumes nothing.
use Rattle.std.proofs.Common.{◌≡◌, ℕ, zero, suc, ◌*◌, ◌/◌, ◌^◌, ◌≤◌, ℤ, pos, nat_abs, ◌+ℤ◌, w64, to_z, of_z, FitsSigned, refl, sym, ap, ◌∙◌}
use mir.Facts.{to_z-of_z}
use Rattle.arith.specs.Size.{Bound, sizes, fits}
use Rattle.arith.specs.Machine.{result₂}
use Rattle.arith.specs.Rounding.{rounded}
use Rattle.limits.specs.Limits.{most_gravity}
use Rattle.apic.specs.Step.{node_velocity}
use Rattle.update.specs.Update.{velocity_of}
use Rattle.update_node.proofs.velocity.Goals as goal

massless : (d : ℕ) (g : ℤ) (m : ℕ) (p : ℤ) → m ≡ 0 → velocity_of d g m p ≡ pos 0
unfolding node_velocity
massless d g m p e = ap (λ n. velocity_of d g n p) e

massive : (d : ℕ) (g : ℤ) (m : ℕ) (p : ℤ) → (m ≡ 0 → ⊥) → velocity_of d g m p ≡ rounded p (d / 256 * m) +ℤ g
unfolding node_velocity
massive d g zero p e = absurd (e refl)
massive d g (suc m) p e = refl

-- the sum, as the machine holds it
module _ (r g : ℤ) (r_small : nat_abs r ≤ 2 ^ 62) (g-small : nat_abs g ≤ most_gravity) (g-fits : FitsSigned w64 g) where
  r-bound : Bound r (2 ^ 62)
  r-bound = record { size = r_small }

  g-bound : Bound g most_gravity
  g-bound = record { size = g-small }

  r-fits : FitsSigned w64 r
  r-fits = fits (search (sizes, r-bound) depth 20) tt

  sum_fits : FitsSigned w64 (r +ℤ g)
  sum_fits = fits (search (sizes, r-bound, g-bound) depth 20) tt

  sum_is : to_z w64 (of_z w64 (to_z w64 (of_z w64 r) +ℤ to_z w64 (of_z w64 g))) ≡ r +ℤ g
  sum_is = result₂ ◌+ℤ◌ (to_z-of_z r-fits) (to_z-of_z g-fits) sum_fits

pub returns-then-mass-eq0 : goal.returns-then-mass-eq0
returns-then-mass-eq0 c = sym (massless c.args.d c.args.gravity c.args.mass c.args.momentum c.if-mass-eq0.true)

pub returns : goal.returns
returns c =
    let a = c.args in
    sum_is c.rounded.result a.gravity c.rounded.ensures.1 c.requires.1 c.ranges.gravity
    ∙ ap (λ r. r +ℤ a.gravity) (rw (to_z-of_z c.ranges.momentum) at c.rounded.ensures.0)
    ∙ sym (massive a.d a.gravity a.mass a.momentum c.if-mass-eq0.false)
