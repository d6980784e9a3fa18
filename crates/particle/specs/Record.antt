-- Reading and writing a particle record: the answers of document 01's "Read a record" and "Write a record", and the buffer that a write leaves.
-- Assumes nothing.
use Rattle.std.specs.Prelude.{ℕ, ◌≤◌, Bool, not, ◌&&◌, ◌||◌, List, map, eqb, ℤ, pos, neg_ℤ, nat_abs, length}
use Rattle.refusal.specs.Refused.{Answer, gives, refuse_if, kept_unless}
use Rattle.limits.specs.Limits.{least_mass, most_mass, most_velocity, most_affine, most_position, isℤ, valid_mass, valid_velocity, valid_affine, valid_position}
use Rattle.particle.specs.declared.Particle.{Particle}
use Rattle.particle.specs.Layout.{Name, identifier, mass, x, y, vx, vy, Bxx, Bxy, Byx, Byy, marks, record_length, layout, held, packed}

-- the particle that a record of the right length holds
unfoldable pub particle_of : List ℕ → Particle
particle_of bytes =
    record {
      identifier = nat_abs (held identifier bytes);
      mass = nat_abs (held mass bytes);
      x = nat_abs (held x bytes);
      y = nat_abs (held y bytes);
      vx = held vx bytes;
      vy = held vy bytes;
      bxx = held Bxx bytes;
      bxy = held Bxy bytes;
      byx = held Byx bytes;
      byy = held Byy bytes;
      marks = nat_abs (held marks bytes);
    }

abbrev pub value_in : Particle → Name → ℤ
value_in p identifier = pos p.identifier
value_in p mass = pos p.mass
value_in p x = pos p.x
value_in p y = pos p.y
value_in p vx = p.vx
value_in p vy = p.vy
value_in p Bxx = p.bxx
value_in p Bxy = p.bxy
value_in p Byx = p.byx
value_in p Byy = p.byy
value_in p marks = pos p.marks

-- identifier and marks: no transfer reads them, and no step changes them
abbrev pub label : Particle → ℕ × ℕ
label p = (p.identifier, p.marks)

-- the numbers of a particle, in the order of its record's fields
abbrev pub numbers : Particle → List ℤ
numbers p = map (λ f. value_in p f.name) layout.fields

-- the record that holds a particle
unfoldable pub record_of : Particle → List ℕ
record_of p = packed (value_in p)

-- ---- "Read a record"

-- a velocity of −64
abbrev pub lowest_velocity : Particle → Bool
lowest_velocity p = isℤ (neg_ℤ (pos 64)) p.vx || isℤ (neg_ℤ (pos 64)) p.vy

-- a B entry of −2048
abbrev pub lowest_affine : Particle → Bool
lowest_affine p =
    (isℤ (neg_ℤ (pos 2048)) p.bxx || isℤ (neg_ℤ (pos 2048)) p.bxy)
    || (isℤ (neg_ℤ (pos 2048)) p.byx || isℤ (neg_ℤ (pos 2048)) p.byy)

-- 4 mass zero; 5 a velocity of −64; 6 a B entry of −2048
unfoldable pub read_particle : ℕ → Particle → Answer Particle
read_particle index p =
    refuse_if (eqb p.mass 0) 4 index
    (refuse_if (lowest_velocity p) 5 index
    (refuse_if (lowest_affine p) 6 index
    (gives p)))

-- 1 wrong length, and then the particle's; a refusal names the record with this index of its set
unfoldable pub read_answer : ℕ → List ℕ → Answer Particle
read_answer index bytes =
    refuse_if (not (eqb (length bytes) record_length)) 1 0 (read_particle index (particle_of bytes))

-- ---- "Write a record"

abbrev pub valid_velocities : Particle → Bool
valid_velocities p = valid_velocity p.vx && valid_velocity p.vy

abbrev pub valid_affines : Particle → Bool
valid_affines p = (valid_affine p.bxx && valid_affine p.bxy) && (valid_affine p.byx && valid_affine p.byy)

abbrev pub valid_positions : Particle → Bool
valid_positions p = valid_position p.x && valid_position p.y

-- 4 mass not 1 to 1023; 5 velocity out of range; 6 B out of range; 7 x or y outside 0 to 4095
unfoldable pub write_particle : Particle → Answer Unit
write_particle p =
    refuse_if (not (valid_mass p.mass)) 4 0
    (refuse_if (not (valid_velocities p)) 5 0
    (refuse_if (not (valid_affines p)) 6 0
    (refuse_if (not (valid_positions p)) 7 0
    (gives tt))))

-- the same as facts
pub record Valid (p : Particle) : Type 0 where
  pub mass-from : least_mass ≤ p.mass
  pub mass-to : p.mass ≤ most_mass
  pub vx-to : nat_abs p.vx ≤ most_velocity
  pub vy-to : nat_abs p.vy ≤ most_velocity
  pub bxx-to : nat_abs p.bxx ≤ most_affine
  pub bxy-to : nat_abs p.bxy ≤ most_affine
  pub byx-to : nat_abs p.byx ≤ most_affine
  pub byy-to : nat_abs p.byy ≤ most_affine
  pub x-to : p.x ≤ most_position
  pub y-to : p.y ≤ most_position

-- 1 wrong length, and then the particle's
unfoldable pub write_answer : Particle → List ℕ → Answer Unit
write_answer p bytes = refuse_if (not (eqb (length bytes) record_length)) 1 0 (write_particle p)

-- the buffer afterwards
unfoldable pub written : Particle → List ℕ → List ℕ
written p bytes = kept_unless (write_answer p bytes) (record_of p) bytes
