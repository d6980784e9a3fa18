-- What the internal functions of the check compute: their contracts name these, and no public operation's does.
-- Assumes nothing.
use Rattle.std.specs.Prelude.{List, ℕ, suc, ◌+◌, length}
use Rattle.refusal.specs.Refused.{Answer, gives, refused_by, and_then}
use Rattle.particle.specs.declared.Particle.{Particle}
use Rattle.particle.specs.Record.{read_answer}
use Rattle.particles.specs.declared.Entry.{Entry}
use Rattle.particles.specs.Set.{checked_particle, record_at, set_of}

-- how far the check is after one more particle
abbrev pub followed : Entry → Particle → Entry
followed e p = record { least = suc p.identifier; mass = e.mass + p.mass }

abbrev pub check_particle : ℕ → ℕ → ℕ → Entry → Particle → Answer Entry
check_particle nx ny k e p = and_then (checked_particle nx ny k e.least e.mass p) (λ q. gives (followed e q))

-- and after the record with index k
abbrev pub check_record : ℕ → ℕ → ℕ → List ℕ → ℕ → Entry → Answer Entry
check_record nx ny start bytes k e = and_then (read_answer k (record_at start bytes k)) (λ p. check_particle nx ny k e p)

-- the number of the records from byte `start` on, where they are accepted as a set
abbrev pub counted : ℕ → ℕ → ℕ → List ℕ → ℕ → Answer ℕ
counted nx ny start bytes count = and_then (set_of nx ny start bytes count) (λ ps. gives (length ps))
