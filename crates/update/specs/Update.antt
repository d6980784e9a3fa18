-- Documents 01 and 02, operation "Update": what it answers to a caller for any numbers and any buffers, and what the grids hold
-- afterwards.
-- The operation's D is the spline's; what stands before it is for any.
-- Assumes nothing.
use Rattle.std.specs.Prelude.{◌≡◌, Bool, not, ◌&&◌, ◌||◌, List, map, ℕ, ◌*◌, ◌/◌, ◌%◌, ◌≤◌, ltb, eqb, length, get_or, ℤ, pos, nat_abs}
use Rattle.arith.specs.Sums.{up_to}
use Rattle.arith.specs.Rounding.{rounded}
use Rattle.refusal.specs.Refused.{Answer, refuse_if, and_then, done, for_each, Leaves}
use Rattle.limits.specs.Limits.{most_node_mass, most_node_velocity}
use Rattle.limits.specs.declared.Caller.{Caller}
use Rattle.spline.specs.Spline.{D}
use Rattle.apic.specs.Step.{Axis, along_x, along_y, node_velocity, updated_velocity}
use Rattle.settings.specs.declared.Settings.{Settings}
use Rattle.entry.specs.declared.Buffers.TheVariants.{Three}
use Rattle.entry.specs.Checks.{both_within}
use Rattle.entry.specs.Entry.{begin_answer}

-- a node's velocity on one axis after gravity: momentum/(M·D/256), rounded, plus gravity; 0 where M is 0
abbrev pub velocity_of : ℕ → ℤ → ℕ → ℤ → ℤ
velocity_of d g M momentum = node_velocity rounded d g M momentum

-- ---- the limits of a node

-- 11: mass above 2^43, or mass 0 with momentum not 0
abbrev pub breaks_mass : ℕ → ℤ → ℤ → Bool
breaks_mass M px py = ltb most_node_mass M || (eqb M 0 && (not (eqb (nat_abs px) 0) || not (eqb (nat_abs py) 0)))

-- 12: a velocity after gravity beyond ±131,072
abbrev pub breaks_velocity : ℕ → ℤ → ℤ → ℕ → ℤ → ℤ → Bool
breaks_velocity d gx gy M px py = not (both_within most_node_velocity (velocity_of d gx M px) (velocity_of d gy M py))

unfoldable pub check_node : ℕ → ℤ → ℤ → ℕ → ℕ → ℤ → ℤ → Answer Unit
check_node d gx gy k M px py =
    refuse_if (breaks_mass M px py) 11 k (refuse_if (breaks_velocity d gx gy M px py) 12 k done)

-- the same as facts
pub record NodeLimits (d : ℕ) (gx gy : ℤ) (M : ℕ) (px py : ℤ) : Type 0 where
  pub mass : M ≤ most_node_mass
  pub massless-x : M ≡ 0 → px ≡ pos 0
  pub massless-y : M ≡ 0 → py ≡ pos 0
  pub vx : nat_abs (velocity_of d gx M px) ≤ most_node_velocity
  pub vy : nat_abs (velocity_of d gy M py) ≤ most_node_velocity

-- ---- grids of n nodes

abbrev pub check_node_at : ℕ → ℤ → ℤ → List ℕ → List ℤ → List ℤ → ℕ → Answer Unit
check_node_at d gx gy mass px py k = check_node d gx gy k (get_or mass k 0) (get_or px k (pos 0)) (get_or py k (pos 0))

unfoldable pub check_nodes : ℕ → ℕ → ℤ → ℤ → List ℕ → List ℤ → List ℤ → Answer Unit
check_nodes d n gx gy mass px py = for_each (check_node_at d gx gy mass px py) 0 n

-- the velocities on one axis, from the masses and the momenta: after gravity, drag and rim
unfoldable pub velocities : ℕ → Settings → Axis → List ℕ → List ℤ → List ℤ
velocities d s a mass momentum =
    map (λ k. updated_velocity rounded d s a (k % s.nx) (k / s.nx) (get_or mass k 0) (get_or momentum k (pos 0))) (up_to (s.nx * s.ny))

-- ---- the operation

-- 2; 1 for the grid buffers; 10; 18; 19; then for each node 11, 12
unfoldable pub update_answer : Caller → Settings → List ℕ → List ℤ → List ℤ → Answer Unit
update_answer caller s mass px py =
    and_then (begin_answer caller s (Three (length mass) (length px) (length py)) 0 0)
    (λ _. check_nodes D (s.nx * s.ny) s.gx s.gy mass px py)

-- the grids of both axes
pub record BothAxes : Type 0 where
  pub x : List ℤ
  pub y : List ℤ

abbrev pub both_axes : List ℤ → List ℤ → BothAxes
both_axes x y = record { x = x; y = y }

-- the answer of a call, and both grids as it leaves them: velocity takes the momentum's place; a refused call leaves it unchanged
abbrev pub UpdateIs : Caller → Settings → List ℕ → List ℤ → List ℤ → Answer Unit → List ℤ → List ℤ → Type 0
UpdateIs caller s mass px py told px' py' =
    Leaves (update_answer caller s mass px py)
    (λ _. both_axes (velocities D s along_x mass px) (velocities D s along_y mass py)) (both_axes px py) told (both_axes px' py')
