-- Examples of the definitions.
--     reads, writes      the record of document 01's worked input, "The program": the particle that the document moves by one step
--     each-its-own       a record in which every field holds another number
--     first-refusal      where several limits are broken, the first of the list is told, at the record's index
--     still-there        a particle that is not written leaves the buffer as it was
-- Assumes nothing.
use Prim.Native.Nat.{ℕ}
use mathlib.Core.Path.{◌≡◌, refl}
use mathlib.Core.List.{List, [], ◌∷◌}
use lib.IntN.{pos, neg_ℤ}
use Rattle.refusal.specs.Refused.{gives, refused}
use Rattle.particle.specs.declared.Particle.{Particle}
use Rattle.particle.specs.Record.{particle_of, read_particle, read_answer, record_of, write_particle, write_answer, written}

bytes : List ℕ
bytes = 0x00 ∷ 0x07 ∷ 0x00 ∷ 0x81 ∷ 0x00 ∷ 0x10 ∷ 0x01 ∷ 0xfe ∷ 0x00 ∷ 0x00 ∷ 0x00 ∷ 0x00 ∷ 0x00 ∷ 0x00 ∷ 0x00 ∷ []

particle : Particle
particle =
    record {
      identifier = 7;
      mass = 2;
      x = 64;
      y = 64;
      vx = pos 3;
      vy = neg_ℤ (pos 2);
      bxx = pos 0;
      bxy = pos 0;
      byx = pos 0;
      byy = pos 0;
      marks = 0;
    }

reads : read_answer 0 bytes ≡ gives particle
unfolding bytes particle read_answer read_particle particle_of
reads = refl

writes : record_of particle ≡ bytes
unfolding bytes particle record_of
writes = refl

-- ---- every field another number

distinct : Particle
distinct =
    record {
      identifier = 1;
      mass = 2;
      x = 3;
      y = 4;
      vx = pos 5;
      vy = neg_ℤ (pos 6);
      bxx = pos 7;
      bxy = neg_ℤ (pos 8);
      byx = pos 9;
      byy = neg_ℤ (pos 10);
      marks = 11;
    }

distinct-bytes : List ℕ
distinct-bytes = 0x00 ∷ 0x01 ∷ 0x00 ∷ 0x80 ∷ 0x0c ∷ 0x01 ∷ 0x02 ∷ 0xfa ∷ 0x00 ∷ 0x7f ∷ 0xf8 ∷ 0x00 ∷ 0x9f ∷ 0xf6 ∷ 0x0b ∷ []

each-its-own : (read_answer 0 distinct-bytes ≡ gives distinct) × (record_of distinct ≡ distinct-bytes)
unfolding distinct distinct-bytes read_answer read_particle particle_of record_of
each-its-own = (refl, refl)

-- ---- several limits broken

breaking : ℕ → Particle
breaking mass =
    record {
      identifier = 0;
      mass = mass;
      x = 0;
      y = 0;
      vx = neg_ℤ (pos 64);
      vy = pos 0;
      bxx = pos 0;
      bxy = pos 0;
      byx = pos 0;
      byy = neg_ℤ (pos 2048);
      marks = 0;
    }

first-refusal : (read_particle 3 (breaking 0) ≡ refused 4 3) × (read_particle 3 (breaking 1) ≡ refused 5 3)
unfolding breaking read_particle
first-refusal = (refl, refl)

still-there : written (breaking 0) bytes ≡ bytes
unfolding bytes breaking written write_answer write_particle
still-there = refl
