-- What the internal functions of Update are given and leave: their contracts name these, and no public one does.
-- Assumes nothing.
use Rattle.std.specs.Prelude.{◌≡◌, Bool, List, map, ℕ, ◌*◌, ◌≤◌, ◌<◌, length, get_or, ℤ, pos, nat_abs}
use Rattle.arith.specs.Sums.{up_to}
use Rattle.limits.specs.Limits.{most_node_mass, most_gravity}
use Rattle.spline.specs.Kernel.{Spread}
use Rattle.apic.specs.Limits.{SizeLimits}
use Rattle.settings.specs.declared.Settings.{Settings}
use Rattle.settings.specs.Settings.{ForceLimits}
use Rattle.node_momentum.specs.Momentum.{momenta_within}
use Rattle.update.specs.Update.{velocity_of, NodeLimits}

-- the velocities of n nodes on one axis after gravity, from the masses and the momenta
unfoldable pub accelerated : ℕ → ℕ → ℤ → List ℕ → List ℤ → List ℤ
accelerated d n g mass momentum = map (λ k. velocity_of d g (get_or mass k 0) (get_or momentum k (pos 0))) (up_to n)

-- masses and momenta on one axis of as many nodes; D, gravity and every node within their limits
pub record AxisWithin (d : ℕ) (g : ℤ) (mass : List ℕ) (momentum : List ℤ) : Type 0 where
  pub spread : Spread d
  pub as_many : length mass ≡ length momentum
  pub gravity : nat_abs g ≤ most_gravity
  pub mass-most : (k : ℕ) → k < length momentum → get_or mass k 0 ≤ most_node_mass
  pub massless : (k : ℕ) → k < length momentum → get_or mass k 0 ≡ 0 → get_or momentum k (pos 0) ≡ pos 0

-- grids of n nodes; D, gravity and every node within their limits
pub record NodesWithin (d n : ℕ) (gx gy : ℤ) (mass : List ℕ) (px py : List ℤ) : Type 0 where
  pub spread : Spread d
  pub mass-length : length mass ≡ n
  pub px-length : length px ≡ n
  pub py-length : length py ≡ n
  pub gravity-x : nat_abs gx ≤ most_gravity
  pub gravity-y : nat_abs gy ≤ most_gravity
  pub nodes : (k : ℕ) → k < n → NodeLimits d gx gy (get_or mass k 0) (get_or px k (pos 0)) (get_or py k (pos 0))

-- the settings and every node of the grids within their limits
pub record GridLimits (d : ℕ) (s : Settings) (mass : List ℕ) (px py : List ℤ) : Type 0 where
  pub sizes : SizeLimits s.nx s.ny
  pub forces : ForceLimits s
  pub within : NodesWithin d (s.nx * s.ny) s.gx s.gy mass px py

-- 4·(131,072 − 4096): a node's momentum of at most so much per unit of mass keeps the velocity's limit under every gravity, for
-- the least D and so for every one
abbrev pub calm_momentum : ℕ
calm_momentum = 507904

-- a node that surely breaks no limit, by a test without division
abbrev pub is_calm : ℕ → ℤ → ℤ → Bool
is_calm M px py = momenta_within calm_momentum M px py
