-- Documents 01, "Check a set", and 02, Paper 9: the walk over the records of a set, and the operation's answer to a caller.
-- A set's records lie one after the other from a byte `start` on. Assumes nothing.
use Rattle.std.specs.Prelude.{Bool, not, ◌&&◌, List, [], ◌∷◌, ◌++◌, map, ℕ, zero, suc, ◌+◌, ◌*◌, ◌/◌, ◌%◌, ◌<◌, leb, ltb, eqb, length, get_or, take, drop}
use Rattle.refusal.specs.Refused.{Answer, gives, refused_by, refuse_if, and_then}
use Rattle.limits.specs.declared.Caller.{Caller}
use Rattle.limits.specs.Limits.{least_side, most_records, most_total_mass, most_side_of, most_records_of}
use Rattle.arith.specs.Sums.{up_to}
use Rattle.spline.specs.Spline.{on_axis}
use Rattle.particle.specs.declared.Particle.{Particle}
use Rattle.particle.specs.Layout.{record_length}
use Rattle.particle.specs.Record.{read_answer, particle_of, record_of}

-- ---- the set: for each record 4, 5, 6, 7, 8, 9

-- the record with index k
abbrev pub record_at : ℕ → List ℕ → ℕ → List ℕ
record_at start bytes k = take record_length (drop (start + record_length * k) bytes)

abbrev pub on_grid : ℕ → ℕ → Particle → Bool
on_grid nx ny p = on_axis nx p.x && on_axis ny p.y

-- 7 off the grid, 8 identifier not above the one before, 9 mass so far above 131,072; `least` is one more than the
-- identifier before, and 0 at the first record
unfoldable pub checked_particle : ℕ → ℕ → ℕ → ℕ → ℕ → Particle → Answer Particle
checked_particle nx ny k least mass p =
    refuse_if (not (on_grid nx ny p)) 7 k
    (refuse_if (ltb p.identifier least) 8 k (refuse_if (ltb most_total_mass (mass + p.mass)) 9 k (gives p)))

-- the particles of the records from index k on, of which `left` are left
unfoldable pub set_from : ℕ → ℕ → ℕ → List ℕ → ℕ → ℕ → ℕ → ℕ → Answer (List Particle)
set_from nx ny start bytes zero k least mass = gives []
set_from nx ny start bytes (suc left) k least mass =
    and_then (read_answer k (record_at start bytes k))
    (λ p.
    and_then (checked_particle nx ny k least mass p)
    (λ q.
    and_then (set_from nx ny start bytes left (suc k) (suc q.identifier) (mass + q.mass)) (λ ps. gives (q ∷ ps))))

abbrev pub set_of : ℕ → ℕ → ℕ → List ℕ → ℕ → Answer (List Particle)
set_of nx ny start bytes count = set_from nx ny start bytes count 0 0 0

-- the records of particles, one after the other
unfoldable pub records_of : List Particle → List ℕ
records_of [] = []
records_of (p ∷ ps) = record_of p ++ records_of ps

-- numbers that are bytes
abbrev pub Bytes : List ℕ → Type 0
Bytes records = (i : ℕ) → get_or records i 0 < 256

-- ---- the operation

-- Nx and Ny are from 4 to this number
abbrev pub valid_size : ℕ → ℕ → ℕ → Bool
valid_size most nx ny = (leb least_side nx && leb nx most) && (leb least_side ny && leb ny most)

-- the length in bytes of the largest set: 61,440
abbrev pub set_length : ℕ
set_length = record_length * most_records

-- a length in bytes is whole records, and not too many
abbrev pub valid_length : ℕ → Bool
valid_length n = eqb (n % record_length) 0 && leb n set_length

abbrev pub record_count : List ℕ → ℕ
record_count bytes = length bytes / record_length

-- the particles that records hold, one in each record, whether or not the set is accepted
abbrev pub particle_in : List ℕ → ℕ → Particle
particle_in bytes k = particle_of (record_at 0 bytes k)

unfoldable pub particles_in : List ℕ → List Particle
particles_in bytes = map (λ k. particle_in bytes k) (up_to (record_count bytes))

-- bytes of so many whole records are too many records for a caller
abbrev pub too_many : Caller → ℕ → Bool
too_many caller n = ltb (most_records_of caller) (n / record_length)

-- 2 the caller's sizes; 1; 3 the caller's number of records, which no length that passes 1 breaks at the bench; the set
abbrev pub set_answer : Caller → ℕ → ℕ → List ℕ → Answer (List Particle)
set_answer caller nx ny bytes =
    refuse_if (not (valid_size (most_side_of caller) nx ny)) 2 0
    (refuse_if (not (valid_length (length bytes))) 1 0
    (refuse_if (too_many caller (length bytes)) 3 0 (set_of nx ny 0 bytes (record_count bytes))))

-- "Check a set": the result is the number of records
abbrev pub check_answer : Caller → ℕ → ℕ → List ℕ → Answer ℕ
check_answer caller nx ny bytes = and_then (set_answer caller nx ny bytes) (λ ps. gives (length ps))
