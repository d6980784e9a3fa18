-- The particle-to-grid transfer of a particle set, for any axis weights w and their D: what the grids hold after a scatter.
-- Document 01: "All sums are exact and start from zero." Assumes nothing.
use Rattle.std.specs.Prelude.{◌≡◌, List, [], ◌∷◌, ℕ, ◌+◌, ◌*◌, ◌/◌, ◌^◌, ◌≤◌, ◌<◌, length, ℤ, nat_abs}
use Rattle.limits.specs.Limits.{most_total_mass}
use Rattle.spline.specs.Kernel.{weight_in, Kernel}
use Rattle.particle.specs.declared.Particle.{Particle}
use Rattle.apic.specs.Step.{along_x, along_y, node_mass, node_momentum, grid}
use Rattle.apic.specs.Totals.{total_mass}
use Rattle.unpacked.specs.Unpacked.{per_particle, Holds, UnpackedSet, HoldsAt}
use Rattle.scatter_block.specs.Lines.{Held, most_before, most_rate}
use Rattle.scatter_particle.specs.Added.{Added}

-- the grids after a scatter
pub record ScatteredGrids (w : ℕ → ℕ → ℤ) (D nx ny : ℕ) (ps : List Particle) (mass : List ℕ) (px py : List ℤ) : Type 0 where
  pub of-mass : mass ≡ grid nx ny (λ i j. nat_abs (node_mass w ps i j))
  pub of-px : px ≡ grid nx ny (node_momentum w D along_x ps)
  pub of-py : py ≡ grid nx ny (node_momentum w D along_y ps)

-- ---- what the functions are called with

-- the most that a unit of mass brings to a cell
abbrev pub most_share : ℕ
most_share = 2 ^ 26 * most_rate

-- the grids hold what so much mass may have brought; with the set's it is at most the total mass of a set
pub record Room (already nx ny : ℕ) (ps : List Particle) (mass : List ℕ) (px py : List ℤ) : Type 0 where
  pub light : already + total_mass ps ≤ most_total_mass
  pub held : Held (already * most_share) (nx * ny) mass px py

pub record SetReady (nx ny : ℕ) (particles : List ℤ) (table : List (List ℕ)) (D : ℕ) (mass : List ℕ) (px py : List ℤ) : Type 0 where
  pub set : UnpackedSet nx ny particles
  pub kernel : Kernel table D
  pub already : ℕ
  pub room : Room already nx ny set.particles mass px py

pub record ScatterReady (nx ny : ℕ) (particles : List ℤ) (table : List (List ℕ)) (D : ℕ) (mass : List ℕ) (px py : List ℤ) : Type 0 where
  pub set : UnpackedSet nx ny particles
  pub kernel : Kernel table D
  pub mass-long : length mass ≡ nx * ny
  pub px-long : length px ≡ nx * ny
  pub py-long : length py ≡ nx * ny

pub record NthReady (nx ny : ℕ) (particles : List ℤ) (k : ℕ) (table : List (List ℕ)) (D : ℕ) (mass : List ℕ) (px py : List ℤ) : Type 0 where
  pub set : UnpackedSet nx ny particles
  pub below : k < length particles / per_particle
  pub kernel : Kernel table D
  pub held : Held most_before (nx * ny) mass px py

-- ---- what they leave, whichever particles the array holds

abbrev pub AddsNth : ℕ → ℕ → List ℤ → ℕ → List (List ℕ) → ℕ → List ℕ → List ℤ → List ℤ → List ℕ → List ℤ → List ℤ → Type 0
AddsNth nx ny particles k table D mass px py mass' px' py' =
    (p : Particle) → HoldsAt nx ny particles k p → Added (weight_in table) D nx ny (p ∷ []) mass px py mass' px' py'

abbrev pub Adds : ℕ → ℕ → List ℤ → List (List ℕ) → ℕ → List ℕ → List ℤ → List ℤ → List ℕ → List ℤ → List ℤ → Type 0
Adds nx ny particles table D mass px py mass' px' py' =
    (ps : List Particle) → Holds nx ny particles ps → Added (weight_in table) D nx ny ps mass px py mass' px' py'

abbrev pub Scatters : ℕ → ℕ → List ℤ → List (List ℕ) → ℕ → List ℕ → List ℤ → List ℤ → Type 0
Scatters nx ny particles table D mass px py =
    (ps : List Particle) → Holds nx ny particles ps → ScatteredGrids (weight_in table) D nx ny ps mass px py
