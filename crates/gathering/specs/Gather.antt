-- Document 01, "Gather", once the nodes' velocities are checked: the particles that it leaves, and what it is refused for.
-- Assumes nothing.
use Rattle.refusal.specs.declared.Refusal.{Refusal}
use Rattle.std.specs.Prelude.{◌≡◌, Bool, not, ◌&&◌, ◌||◌, List, [], ◌∷◌, ◌++◌, map, ℕ, suc, ◌-◌, ◌*◌, ◌≤◌, ltb, length, take, drop, ℤ, nat_abs, Result}
use Rattle.std.specs.Int.Signed.{non_neg}
use Rattle.arith.specs.Rounding.{rounded}
use Rattle.arith.specs.Sums.{Each}
use Rattle.refusal.specs.Refused.{Answer, gives, refused, refuse_if, told}
use Rattle.limits.specs.Limits.{most_velocity, most_affine, most_node_velocity}
use Rattle.spline.specs.Spline.{on_axis}
use Rattle.particle.specs.declared.Particle.{Particle}
use Rattle.apic.specs.Step.{moved, node, new_coordinate, along_x, along_y}
use Rattle.unpacked.specs.Unpacked.{per_particle, unpacked, Holds, UnpackedSet}

-- the particle after the gather, from node velocities that stand in two lists: the engine's rounding, and axis weights w
abbrev pub gathered : (ℕ → ℕ → ℤ) → ℕ → ℕ → List ℤ → List ℤ → Particle → Particle
gathered w nx ny ux uy p = moved rounded w nx ny (node nx ux) (node nx uy) p

-- ---- the refusals of a record: 13 new velocity beyond ±63, 14 new B beyond ±2047, 15 new place off the grid (document 01's bath)

abbrev pub beyond : ℕ → ℤ → Bool
beyond most z = ltb most (nat_abs z)

abbrev pub too_fast : ℤ → ℤ → Bool
too_fast vx vy = beyond most_velocity vx || beyond most_velocity vy

abbrev pub too_steep : ℤ → ℤ → ℤ → ℤ → Bool
too_steep bxx bxy byx byy = (beyond most_affine bxx || beyond most_affine bxy) || (beyond most_affine byx || beyond most_affine byy)

abbrev pub off_axis : ℕ → ℤ → Bool
off_axis n z = not (non_neg z && on_axis n (nat_abs z))

abbrev pub off_grid : ℕ → ℕ → ℤ → ℤ → Bool
off_grid nx ny x y = off_axis nx x || off_axis ny y

-- in this order at record k
abbrev pub first_of : {A : Type 0} → Bool → Bool → Bool → ℕ → Answer A → Answer A
first_of fast steep off k rest = refuse_if fast 13 k (refuse_if steep 14 k (refuse_if off 15 k rest))

-- one record: p before its move, q after it
unfoldable pub move_check : {A : Type 0} → ℕ → ℕ → Particle → Particle → ℕ → Answer A → Answer A
move_check nx ny p q k rest =
    first_of
    (too_fast q.vx q.vy)
    (too_steep q.bxx q.bxy q.byx q.byy)
    (off_grid nx ny (new_coordinate along_x p q.vx) (new_coordinate along_y p q.vy))
    k
    rest

-- all records, the first of which is record k
unfoldable pub move_checks : {A : Type 0} → ℕ → ℕ → (Particle → Particle) → ℕ → List Particle → Answer A → Answer A
move_checks nx ny move k [] rest = rest
move_checks nx ny move k (p ∷ ps) rest = move_check nx ny p (move p) k (move_checks nx ny move (suc k) ps rest)

-- the answer for a list of particles, the first of which is record `first`
abbrev pub answer_from : (ℕ → ℕ → ℤ) → ℕ → ℕ → ℕ → List ℤ → List ℤ → List Particle → Answer (Unit {0})
answer_from w first nx ny ux uy ps = move_checks nx ny (gathered w nx ny ux uy) first ps (gives tt)

-- ---- what `gather_from` asks and promises

-- velocities of nx by ny nodes, none beyond ±131,072
pub record NodeVelocities (nx ny : ℕ) (u : List ℤ) : Type 0 where
  pub count : length u ≡ nx * ny
  pub each : Each (λ z. nat_abs z ≤ most_node_velocity) u

pub record Gatherable (nx ny : ℕ) (source ux uy target : List ℤ) : Type 0 where
  pub particles : UnpackedSet nx ny source
  pub x-velocities : NodeVelocities nx ny ux
  pub y-velocities : NodeVelocities nx ny uy
  pub room : length target ≡ length source

-- how many of `count` records are moved, the first of which is record `first`: all of them, or those before the refused one
abbrev pub moved_before : Answer (Unit {0}) → ℕ → ℕ → ℕ
moved_before (gives u) first count = count
moved_before (refused n k) first count = k - first

-- the first n particles moved, and behind them what the target held
abbrev pub moved_into : (Particle → Particle) → ℕ → List Particle → List ℤ → List ℤ
moved_into move n ps target = unpacked (map move (take n ps)) ++ drop (per_particle * n) target

unfoldable pub target_from : (ℕ → ℕ → ℤ) → ℕ → ℕ → ℕ → List ℤ → List ℤ → List Particle → List ℤ → List ℤ
target_from w first nx ny ux uy ps target =
    moved_into (gathered w nx ny ux uy) (moved_before (answer_from w first nx ny ux uy ps) first (length ps)) ps target

-- the answer, and the target afterwards, for a target of any content
pub record GathersFrom (w : ℕ → ℕ → ℤ) (first nx ny : ℕ) (ps : List Particle) (ux uy target target' : List ℤ) (r : Result Unit Refusal) : Type 0 where
  pub answer : told r ≡ answer_from w first nx ny ux uy ps
  pub target_is : target' ≡ target_from w first nx ny ux uy ps target

-- whichever particles the source holds
abbrev pub Gathers : (ℕ → ℕ → ℤ) → ℕ → ℕ → ℕ → List ℤ → List ℤ → List ℤ → List ℤ → List ℤ → (Result Unit Refusal) → Type 0
Gathers w first nx ny source ux uy target target' r =
    (ps : List Particle) → Holds nx ny source ps → GathersFrom w first nx ny ps ux uy target target' r
