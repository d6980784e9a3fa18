-- What the helper of `pack_set` asks and leaves.
-- Assumes nothing.
use Rattle.std.specs.Prelude.{◌≡◌, List, ℕ, ◌*◌, ℤ}
use Rattle.arith.specs.Lists.{placed}
use Rattle.particle.specs.declared.Particle.{Particle}
use Rattle.particle.specs.Layout.{record_length}
use Rattle.particle.specs.Record.{label, record_of, Valid}
use Rattle.particles.specs.Set.{particle_in}
use Rattle.unpacked.specs.Unpacked.{NumbersAt, ReadableAt}

-- the numbers of some particle stand at place k, and a record can hold it
pub record PackableAt (l : List ℤ) (k : ℕ) : Type 0 where
  pub readable : ReadableAt l k
  pub valid : Valid readable.particle

-- record k holds the particle at place k, with the identifier and the marks that it had; the others are as they were
abbrev pub PacksAt : List ℤ → ℕ → List ℕ → List ℕ → Type 0
PacksAt l k records records' =
    (p : Particle) → NumbersAt l k p → label p ≡ label (particle_in records k) → records' ≡ placed records (record_length * k) (record_of p)
