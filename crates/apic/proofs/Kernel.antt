-- A kernel's weights are an instance of the laws' weights.
--     Lawful             what the laws of a step use of weights and their D
--     lawful-gravity, lawful-updated
--                        then the velocity after gravity is within its limit, and so is what the update leaves
--     kernel-placed      a particle on the grid is placed
--     kernel-lawful      a kernel's weights are lawful
--     kernel-mass-nonneg, kernel-mass
--                        a node's mass is not negative, and at most 2^26 times the total mass
--     kernel-momentum    a node's momentum is at most most_momentum·2^26 times the total mass
-- Assumes nothing.
use mathlib.Core.List.{List}
use Prim.Native.Nat.{ℕ, ◌*◌, ◌^◌, ◌<◌, ◌≤◌}
use native.Mathlib.Nat.{le_trans}
use lib.IntN.{ℤ, pos, nat_abs}
use lib.Signed.{◌≤ℤ◌}
use Rattle.arith.specs.Order.{within_of}
use Rattle.arith.specs.Size.{Bound, bound-within, within-bound}
use Rattle.arith.specs.Rounding.{Nearest}
use Rattle.arith.specs.Sums.{Each, each_map}
use Rattle.limits.specs.Limits.{most_node_velocity, most_gravity}
use Rattle.spline.specs.Kernel.{weight_in, Spread, Kernel}
use Rattle.spline.proofs.Axis.{near, moments}
use Rattle.particle.specs.declared.Particle.{Particle}
use Rattle.settings.specs.declared.Settings.{Settings}
use Rattle.settings.specs.Settings.{ForceLimits}
use Rattle.apic.specs.Step.{Axis, along_x, along_y, node_mass, node_momentum, gravity, after_gravity, after_update}
use Rattle.apic.specs.Totals.{total_mass}
use Rattle.apic.specs.Limits.{ParticleLimits}
use Rattle.apic.specs.Motion.{Placed}
use Rattle.apic.proofs.Update.{node-mass-nonneg}
use Rattle.apic.proofs.Edges.{updated-less}
use Rattle.apic.proofs.Bounds.{Near, Limited, most_momentum, node-mass-total, node-momentum-total, gravity-within}

pub record Lawful (w : ℕ → ℕ → ℤ) (D : ℕ) : Type 0 where
  pub spread : Spread D
  -- a node with a weight is near
  pub near : Near w
  -- a particle on the grid is placed
  pub placed : (nx ny : ℕ) (ps : List Particle) → Each (ParticleLimits nx ny) ps → Each (Placed w D nx ny) ps

light : {s : Settings} → ForceLimits s → (a : Axis) → nat_abs (gravity s a) ≤ most_gravity
light forces along_x = forces.gravity-x
light forces along_y = forces.gravity-y

module _ {w : ℕ → ℕ → ℤ} {D : ℕ} (law : Lawful w D) (round : ℤ → ℕ → ℤ) (nearest : Nearest round) (s : Settings) (ps : List Particle) (limits : Limited s.nx s.ny ps) (forces : ForceLimits s) (a : Axis) (i j : ℕ) where
  pub lawful-gravity : nat_abs (after_gravity round w D (gravity s a) a ps i j) ≤ most_node_velocity
  lawful-gravity =
      (within-bound
      (gravity-within w law.near D s.nx s.ny ps (law.placed s.nx s.ny ps limits.each) limits law.spread round nearest
      (gravity s a) (bound-within (record { size = light forces a })) a i j)).size

  pub lawful-updated : nat_abs (after_update round w D s a ps i j) ≤ most_node_velocity
  lawful-updated = le_trans (updated-less round nearest D s forces.drag a i j _ _) lawful-gravity

-- ---- a kernel

kernel-near : (table : List (List ℕ)) → Near (weight_in table)
kernel-near table x i = near table x i

module _ {table : List (List ℕ)} {D : ℕ} (kernel : Kernel table D) (nx ny : ℕ) (ps : List Particle) where
  pub kernel-placed : Each (ParticleLimits nx ny) ps → Each (Placed (weight_in table) D nx ny) ps
  kernel-placed e =
      each_map (ParticleLimits nx ny) (Placed (weight_in table) D nx ny)
      (λ p h. record { along-x = moments kernel p.x nx h.x-on; along-y = moments kernel p.y ny h.y-on }) ps e

  pub kernel-mass-nonneg : Each (ParticleLimits nx ny) ps → (i j : ℕ) → pos 0 ≤ℤ node_mass (weight_in table) ps i j
  kernel-mass-nonneg e = node-mass-nonneg (weight_in table) D nx ny ps (kernel-placed e)

  module _ (limits : Limited nx ny ps) (i j : ℕ) (in-x : i < nx) (in-y : j < ny) where
    pub kernel-mass : Bound (node_mass (weight_in table) ps i j) (2 ^ 26 * total_mass ps)
    kernel-mass =
        within-bound
        (within_of (kernel-mass-nonneg limits.each i j)
        (node-mass-total (weight_in table) (kernel-near table) D nx ny ps (kernel-placed limits.each) i j in-x in-y))

    pub kernel-momentum : (a : Axis) → Bound (node_momentum (weight_in table) D a ps i j) (most_momentum D * (2 ^ 26 * total_mass ps))
    kernel-momentum a =
        node-momentum-total (weight_in table) (kernel-near table) D nx ny ps (kernel-placed limits.each) limits a i j in-x in-y

pub kernel-lawful : {table : List (List ℕ)} {D : ℕ} → Kernel table D → Lawful (weight_in table) D
kernel-lawful {table} kernel = record { spread = kernel.spread; near = kernel-near table; placed = kernel-placed kernel }
