-- Particles as one array of numbers, nine for each particle: mass, x, y, vx, vy, Bxx, Bxy, Byx, Byy. The transfers work on such
-- arrays. Identifier and marks are not among the numbers: they stay in the particle's record. Assumes nothing.
use Rattle.std.specs.Prelude.{◌≡◌, List, [], ◌∷◌, ◌++◌, ℕ, ◌+◌, ◌*◌, ◌≤◌, ◌<◌, length, get_or, ℤ, pos}
use Rattle.particle.specs.declared.Particle.{Particle}
use Rattle.particle.specs.Record.{label}
use Rattle.apic.specs.Limits.{SizeLimits, ParticleLimits, SetLimits}

-- how many numbers a particle has
abbrev pub per_particle : ℕ
per_particle = 9

abbrev pub numbers : Particle → List ℤ
numbers p =
    pos p.mass
    ∷ pos p.x
    ∷ pos p.y
    ∷ p.vx
    ∷ p.vy
    ∷ p.bxx
    ∷ p.bxy
    ∷ p.byx
    ∷ p.byy
    ∷ []

unfoldable pub unpacked : List Particle → List ℤ
unpacked [] = []
unpacked (p ∷ ps) = numbers p ++ unpacked ps

-- ---- an array that holds a particle set

-- these particles, within a set's limits, and nothing else; an array doesn't tell their labels
pub record Holds (nx ny : ℕ) (l : List ℤ) (ps : List Particle) : Type 0 where
  pub is : l ≡ unpacked ps
  pub limits : SetLimits nx ny ps

-- some particles
pub record UnpackedSet (nx ny : ℕ) (l : List ℤ) : Type 0 where
  pub particles : List Particle
  pub holds : Holds nx ny l particles

-- ---- one particle of it

-- the numbers of p stand from the place of particle k on
pub record NumbersAt (l : List ℤ) (k : ℕ) (p : Particle) : Type 0 where
  pub mass : get_or l (per_particle * k) (pos 0) ≡ pos p.mass
  pub x : get_or l (per_particle * k + 1) (pos 0) ≡ pos p.x
  pub y : get_or l (per_particle * k + 2) (pos 0) ≡ pos p.y
  pub vx : get_or l (per_particle * k + 3) (pos 0) ≡ p.vx
  pub vy : get_or l (per_particle * k + 4) (pos 0) ≡ p.vy
  pub bxx : get_or l (per_particle * k + 5) (pos 0) ≡ p.bxx
  pub bxy : get_or l (per_particle * k + 6) (pos 0) ≡ p.bxy
  pub byx : get_or l (per_particle * k + 7) (pos 0) ≡ p.byx
  pub byy : get_or l (per_particle * k + 8) (pos 0) ≡ p.byy

-- a number that is not below zero stands there
pub record NaturalAt (l : List ℤ) (at : ℕ) : Type 0 where
  pub inside : at < length l
  pub number : ℕ
  pub is : get_or l at (pos 0) ≡ pos number

-- p stands at place k and is within its limits
pub record HoldsAt (nx ny : ℕ) (l : List ℤ) (k : ℕ) (p : Particle) : Type 0 where
  pub inside : per_particle * k + per_particle ≤ length l
  pub numbers : NumbersAt l k p
  pub sizes : SizeLimits nx ny
  pub limits : ParticleLimits nx ny p

pub record ParticleAt (nx ny : ℕ) (l : List ℤ) (k : ℕ) : Type 0 where
  pub particle : Particle
  pub holds : HoldsAt nx ny l k particle

-- ---- a particle read from it

-- the numbers of some particle stand at place k
pub record ReadableAt (l : List ℤ) (k : ℕ) : Type 0 where
  pub particle : Particle
  pub inside : per_particle * k + per_particle ≤ length l
  pub numbers : NumbersAt l k particle

-- r is the particle with this identifier and these marks whose numbers stand there
abbrev pub ReadsAt : List ℤ → ℕ → ℕ → ℕ → Particle → Type 0
ReadsAt l k identifier marks r = (p : Particle) → NumbersAt l k p → label p ≡ (identifier, marks) → r ≡ p
