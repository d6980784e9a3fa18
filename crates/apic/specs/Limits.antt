-- Document 01's limits on particles, as facts: what one particle keeps, and what a particle set keeps on a grid of nx by ny
-- nodes. Assumes nothing.
use Rattle.std.specs.Prelude.{List, [], ◌∷◌, ℕ, ◌≤◌, ◌<◌, T, length, nat_abs}
use Rattle.arith.specs.Sums.{Each}
use Rattle.limits.specs.Limits.{least_side, most_side, least_mass, most_mass, most_velocity, most_affine, most_records, most_total_mass}
use Rattle.spline.specs.Spline.{on_axis}
use Rattle.particle.specs.declared.Particle.{Particle}
use Rattle.apic.specs.Totals.{total_mass}

pub record SizeLimits (nx ny : ℕ) : Type 0 where
  pub x-least : least_side ≤ nx
  pub x-most : nx ≤ most_side
  pub y-least : least_side ≤ ny
  pub y-most : ny ≤ most_side

-- an identifier of 16 bits; mass 1 to 1023; velocities −63 to 63; B entries −2047 to 2047; on the grid; marks of 8 bits
pub record ParticleLimits (nx ny : ℕ) (p : Particle) : Type 0 where
  pub identifier : p.identifier < 65536
  pub mass-least : least_mass ≤ p.mass
  pub mass-most : p.mass ≤ most_mass
  pub vx : nat_abs p.vx ≤ most_velocity
  pub vy : nat_abs p.vy ≤ most_velocity
  pub bxx : nat_abs p.bxx ≤ most_affine
  pub bxy : nat_abs p.bxy ≤ most_affine
  pub byx : nat_abs p.byx ≤ most_affine
  pub byy : nat_abs p.byy ≤ most_affine
  pub x-on : T (on_axis nx p.x)
  pub y-on : T (on_axis ny p.y)
  pub marks : p.marks < 256

-- identifiers rise strictly
abbrev pub Rising : List Particle → Type 0
Rising [] = Unit {0}
Rising (p ∷ []) = Unit {0}
Rising (p ∷ q ∷ ps) = (p.identifier < q.identifier) × Rising (q ∷ ps)

pub record SetLimits (nx ny : ℕ) (ps : List Particle) : Type 0 where
  pub sizes : SizeLimits nx ny
  pub count : length ps ≤ most_records
  pub each : Each (ParticleLimits nx ny) ps
  pub rising : Rising ps
  pub mass : total_mass ps ≤ most_total_mass
