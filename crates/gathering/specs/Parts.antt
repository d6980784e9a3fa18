-- What the helpers of the gather answer: a record's checks on plain numbers, and its numbers stored where it passes. Assumes nothing.
use Rattle.refusal.specs.declared.Refusal.{Refusal}
use Rattle.std.specs.Prelude.{◌≡◌, List, ℕ, ◌+◌, ◌*◌, ◌≤◌, length, set, ℤ, pos, Result}
use Rattle.arith.specs.Size.{Bound}
use Rattle.refusal.specs.Refused.{Answer, gives, kept_unless, told}
use Rattle.gather_point.specs.Point.{most_gathered}
use Rattle.limits.specs.Limits.{most_position}
use Rattle.particle.specs.declared.Particle.{Particle}
use Rattle.apic.specs.Step.{new_coordinate, along_x, along_y}
use Rattle.apic.specs.Limits.{SizeLimits}
use Rattle.unpacked.specs.Unpacked.{per_particle, HoldsAt}
use Rattle.gather_point.specs.declared.AffineVelocity.{AffineVelocity}
use Rattle.gathering.specs.Gather.{gathered, too_fast, too_steep, off_grid, first_of, move_check}

-- what record k is refused for, come to (x, y) with a on the x axis and b on the y axis
unfoldable pub check_of : ℕ → ℕ → ℕ → ℤ → ℤ → AffineVelocity → AffineVelocity → Answer (Unit {0})
check_of k nx ny x y a b =
    first_of (too_fast a.v b.v) (too_steep a.bx a.by b.bx b.by) (off_grid nx ny x y) k (gives tt)

-- a number that 16 bits with sign hold
abbrev pub Narrow : ℤ → Type 0
Narrow z = Bound z 32767

-- the numbers of a particle, in the order of `numbers`
unfoldable pub particle_stored : List ℤ → ℕ → ℤ → ℤ → ℤ → AffineVelocity → AffineVelocity → List ℤ
particle_stored l at mass x y a b =
    set (set (set (set (set (set (set (set (set l at mass) (at + 1) x) (at + 2) y)
    (at + 3) a.v) (at + 4) b.v) (at + 5) a.bx) (at + 6) a.by) (at + 7) b.bx) (at + 8) b.by

pub record Storable (at : ℕ) (mass x y : ℤ) (a b : AffineVelocity) (target : List ℤ) : Type 0 where
  pub room : at + per_particle ≤ length target
  pub mass-size : Narrow mass
  pub x-size : Narrow x
  pub y-size : Narrow y
  pub vx-size : Narrow a.v
  pub vy-size : Narrow b.v
  pub bxx-size : Narrow a.bx
  pub bxy-size : Narrow a.by
  pub byx-size : Narrow b.bx
  pub byy-size : Narrow b.by

-- ---- one record

pub record Settling (k nx ny : ℕ) (mass x y : ℤ) (a b : AffineVelocity) (target : List ℤ) : Type 0 where
  pub sizes : SizeLimits nx ny
  pub room : per_particle * k + per_particle ≤ length target
  pub mass-size : Narrow mass
  pub x-size : Bound x most_position
  pub y-size : Bound y most_position
  pub vx-size : Bound a.v most_gathered
  pub vy-size : Bound b.v most_gathered

-- (x, y) is the new place of the record with this index
pub record Settled (index k nx ny : ℕ) (mass x y : ℤ) (a b : AffineVelocity) (target target' : List ℤ) (r : Result Unit Refusal) : Type 0 where
  pub answer : told r ≡ check_of index nx ny x y a b
  pub target_is : target' ≡ kept_unless (told r) (particle_stored target (per_particle * k) mass x y a b) target

-- a particle's velocity on the x axis and on the y axis
abbrev pub along_x_of : Particle → AffineVelocity
along_x_of p = record { v = p.vx; bx = p.bxx; by = p.bxy }

abbrev pub along_y_of : Particle → AffineVelocity
along_y_of p = record { v = p.vy; bx = p.byx; by = p.byy }

-- the numbers of a particle that is p before its move and q after it
unfoldable pub moved_stored : List ℤ → ℕ → Particle → Particle → List ℤ
moved_stored l at p q =
    particle_stored l at (pos p.mass) (new_coordinate along_x p q.vx) (new_coordinate along_y p q.vy) (along_x_of q) (along_y_of q)

-- the record with this index, which stands at place k, is p before its move and q after it
pub record MovesOne (nx ny index k : ℕ) (p q : Particle) (target target' : List ℤ) (r : Result Unit Refusal) : Type 0 where
  pub answer : told r ≡ move_check nx ny p q index (gives tt)
  pub target_is : target' ≡ kept_unless (told r) (moved_stored target (per_particle * k) p q) target

-- whichever particle stands at place k of the source
abbrev pub MovesAt : (ℕ → ℕ → ℤ) → ℕ → ℕ → ℕ → ℕ → List ℤ → List ℤ → List ℤ → List ℤ → List ℤ → (Result Unit Refusal) → Type 0
MovesAt w nx ny index k source ux uy target target' r =
    (p : Particle) → HoldsAt nx ny source k p → MovesOne nx ny index k p (gathered w nx ny ux uy p) target target' r
