-- A calm node is within its limits, for every D under every gravity, and so passes its check. Assumes nothing.
use mathlib.Core.Path.{◌≡◌}
use mathlib.Core.Bool.{true}
use Prim.Native.Nat.{ℕ, zero, suc, ◌*◌, ◌/◌, ◌≤◌}
use native.Mathlib.Nat.{mul-le-mul_right}
use native.Mathlib.Omega.{arith}
use lib.Dec.{leb}
use lib.IntN.{ℤ, pos, nat_abs}
use borrow.Author.Tests.{leb-true}
use Rattle.arith.specs.Size.{Bound, bound-sum}
use Rattle.arith.specs.Rounding.{rounded}
use Rattle.arith.proofs.Rounding.{rounded-bound}
use Rattle.limits.specs.Limits.{most_node_mass, most_node_velocity, most_gravity}
use Rattle.spline.specs.Kernel.{Spread}
use Rattle.apic.specs.Step.{node_velocity}
use Rattle.refusal.specs.Refused.{done}
use Rattle.entry.specs.Checks.{both_within}
use Rattle.entry.proofs.Entry.{and-true, within_both}
use Rattle.update.specs.Update.{velocity_of, check_node, NodeLimits}
use Rattle.update.specs.Internal.{calm_momentum, is_calm}
use Rattle.update.proofs.Walk.{zero-size, limits-pass}

calm-velocity : (D : ℕ) (g : ℤ) (M : ℕ) (p : ℤ) → Spread D → nat_abs g ≤ most_gravity → nat_abs p ≤ M * calm_momentum → nat_abs (velocity_of D g M p) ≤ most_node_velocity
unfolding node_velocity
calm-velocity D g zero p s h k = omega arith
calm-velocity D g (suc M) p s h k = (bound-sum calm (record { size = h })).size
  where
    -- the least divisor is the spline's
    least : 4 * suc M ≤ D / 256 * suc M
    least = mul-le-mul_right (suc M) (omega (arith, s.least))

    calm : Bound (rounded p (D / 256 * suc M)) 126976
    calm = rounded-bound p (D / 256 * suc M) 126976 (omega (arith, least)) (record { size = omega (arith, least) })

calm-massless : (M : ℕ) (p : ℤ) → nat_abs p ≤ M * calm_momentum → M ≡ 0 → p ≡ pos 0
calm-massless M p h e = zero-size p (omega arith)

module _ (D : ℕ) (gx gy : ℤ) (M : ℕ) (px py : ℤ) (spread : Spread D) (light-x : nat_abs gx ≤ most_gravity) (light-y : nat_abs gy ≤ most_gravity) (calm : is_calm M px py ≡ true) where
  pub calm-limits : NodeLimits D gx gy M px py
  calm-limits =
      let a = and-true (leb M most_node_mass) (both_within (M * calm_momentum) px py) calm in
      let p = within_both (M * calm_momentum) px py a.1 in
      record {
        mass = leb-true M most_node_mass a.0;
        massless-x = calm-massless M px p.0;
        massless-y = calm-massless M py p.1;
        vx = calm-velocity D gx M px spread light-x p.0;
        vy = calm-velocity D gy M py spread light-y p.1;
      }

  pub calm-passes : (k : ℕ) → check_node D gx gy k M px py ≡ done
  calm-passes k = limits-pass D gx gy k M px py calm-limits
