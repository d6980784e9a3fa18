-- What the internal functions ask and leave: their contracts name these, and no public one does.
-- Assumes nothing.
use Rattle.refusal.specs.declared.Refusal.{Refusal}
use Rattle.std.specs.Prelude.{◌≡◌, List, map, ℕ, ◌*◌, ◌≤◌, length, ℤ, Result}
use Rattle.refusal.specs.Refused.{gives, told}
use Rattle.limits.specs.Limits.{most_records}
use Rattle.limits.specs.declared.Caller.TheVariants.{Bench}
use Rattle.spline.specs.Kernel.{Kernel}
use Rattle.particle.specs.declared.Particle.{Particle}
use Rattle.particle.specs.Layout.{record_length}
use Rattle.apic.specs.Limits.{SetLimits}
use Rattle.particles.specs.Set.{set_length, set_answer, record_count, particles_in}
use Rattle.unpacked.specs.Unpacked.{per_particle, unpacked}
use Rattle.scatter_block.specs.Lines.{Held}
use Rattle.scatter_core.specs.Scatter.{Room}
use Rattle.gathering.specs.Gather.{gathered, answer_from, NodeVelocities}

-- a set is worked on in parts of so many records
abbrev pub part : ℕ
part = 64

-- ---- scatter

-- a set that is accepted on this grid, and grids of its size
pub record ScatterSet (nx ny : ℕ) (records mass : List ℕ) (px py : List ℤ) : Type 0 where
  pub particles : List Particle
  pub set : set_answer Bench nx ny records ≡ gives particles
  pub mass-long : length mass ≡ nx * ny
  pub px-long : length px ≡ nx * ny
  pub py-long : length py ≡ nx * ny

-- records that hold a set within its limits, a kernel, and cleared grids of its size
pub record AddReady (nx ny : ℕ) (records : List ℕ) (table : List (List ℕ)) (D : ℕ) (mass : List ℕ) (px py : List ℤ) : Type 0 where
  pub limits : SetLimits nx ny (particles_in records)
  pub kernel : Kernel table D
  pub cleared : Held 0 (nx * ny) mass px py

-- the same with whole records, and room for the numbers of a part
pub record PartsReady (nx ny : ℕ) (records : List ℕ) (array : List ℤ) (table : List (List ℕ)) (D : ℕ) (mass : List ℕ) (px py : List ℤ) : Type 0 where
  pub ready : AddReady nx ny records table D mass px py
  pub whole : record_length * record_count records ≡ length records
  pub room : length array ≡ part * per_particle

-- some records of a set, and grids with room for them
pub record PartReady (nx ny : ℕ) (records : List ℕ) (table : List (List ℕ)) (D : ℕ) (mass : List ℕ) (px py : List ℤ) : Type 0 where
  pub limits : SetLimits nx ny (particles_in records)
  pub kernel : Kernel table D
  pub already : ℕ
  pub room : Room already nx ny (particles_in records) mass px py

-- ---- gather

-- a set that is accepted on this grid, and node velocities within their limits
pub record GatherSet (nx ny : ℕ) (records : List ℕ) (ux uy : List ℤ) : Type 0 where
  pub particles : List Particle
  pub set : set_answer Bench nx ny records ≡ gives particles
  pub most : length records ≤ set_length
  pub x-velocities : NodeVelocities nx ny ux
  pub y-velocities : NodeVelocities nx ny uy

-- records that hold a set within its limits, and node velocities within theirs
pub record MoveReady (nx ny : ℕ) (records : List ℕ) (ux uy : List ℤ) : Type 0 where
  pub limits : SetLimits nx ny (particles_in records)
  pub x-velocities : NodeVelocities nx ny ux
  pub y-velocities : NodeVelocities nx ny uy

-- room for the numbers of some records of a set, which begin at record `first`
pub record PartRoom (first : ℕ) (records : List ℕ) (source target : List ℤ) : Type 0 where
  pub index : first ≤ most_records
  pub source-numbers : length source ≡ per_particle * record_count records
  pub target-numbers : length target ≡ per_particle * record_count records

-- whole records, room for the numbers of a part, and for those of the set
pub record SetRoom (records : List ℕ) (source target : List ℤ) : Type 0 where
  pub whole : record_length * record_count records ≡ length records
  pub source-numbers : length source ≡ part * per_particle
  pub target-numbers : length target ≡ per_particle * record_count records

-- both
pub record PartsMovable (nx ny : ℕ) (records : List ℕ) (source target ux uy : List ℤ) : Type 0 where
  pub ready : MoveReady nx ny records ux uy
  pub room : SetRoom records source target

-- what is left of the records from record `first` on: where none is refused, the moved particles, and else anything
pub record MovedFrom (w : ℕ → ℕ → ℤ) (first nx ny : ℕ) (records : List ℕ) (ux uy target : List ℤ) (r : Result Unit Refusal) : Type 0 where
  pub answer : told r ≡ answer_from w first nx ny ux uy (particles_in records)
  pub target_is : told r ≡ gives tt → target ≡ unpacked (map (gathered w nx ny ux uy) (particles_in records))
