-- An array of numbers as a particle set's records: what the function that packs is given, and what it leaves. Assumes nothing.
use Rattle.std.specs.Prelude.{◌≡◌, List, map, ℕ, ℤ}
use Rattle.particle.specs.declared.Particle.{Particle}
use Rattle.particle.specs.Record.{label}
use Rattle.particles.specs.Set.{records_of, particles_in}
use Rattle.unpacked.specs.Unpacked.{unpacked, UnpackedSet}

-- an array that holds a set, on some grid
pub record Packable (l : List ℤ) : Type 0 where
  pub nx : ℕ
  pub ny : ℕ
  pub set : UnpackedSet nx ny l

abbrev pub labels : List Particle → List (ℕ × ℕ)
labels ps = map label ps

-- the records of the array's particles, with the identifiers and marks that the records had
abbrev pub Packs : List ℤ → List ℕ → List ℕ → Type 0
Packs l records records' =
    (ps : List Particle) → l ≡ unpacked ps → labels ps ≡ labels (particles_in records) → records' ≡ records_of ps
