-- What a refused set tells, for those who doubt the walk: the record that the refusal names is the first that breaks a limit,
-- and the number is that of the first limit in document 01's order that it breaks. Assumes nothing.
use Rattle.std.specs.Prelude.{◌≡◌, Bool, true, false, not, List, [], ◌∷◌, ◌⊎◌, ℕ, suc, ◌+◌, ◌<◌, eqb, ltb, length}
use Rattle.refusal.specs.Refused.{gives}
use Rattle.limits.specs.declared.Caller.{Caller}
use Rattle.limits.specs.Limits.{most_total_mass, most_side_of, most_records_of}
use Rattle.particle.specs.declared.Particle.{Particle}
use Rattle.particle.specs.Record.{particle_of, lowest_velocity, lowest_affine}
use Rattle.apic.specs.Totals.{total_mass}
use Rattle.particles.specs.Set.{record_at, record_count, on_grid, set_of, valid_size, valid_length}

-- one more than the identifier of the last of these particles, and `least` where there is none
abbrev pub least_after : ℕ → List Particle → ℕ
least_after least [] = least
least_after least (p ∷ ps) = least_after (suc p.identifier) ps

-- the limits on a particle, in document 01's order, each with whether it is broken; `least` is the least identifier that is
-- above the one before, and `mass` the mass before
abbrev pub limits_on : ℕ → ℕ → ℕ → ℕ → Particle → List (ℕ × Bool)
limits_on nx ny least mass p =
    (4, eqb p.mass 0)
    ∷ (5, lowest_velocity p)
    ∷ (6, lowest_affine p)
    ∷ (7, not (on_grid nx ny p))
    ∷ (8, ltb p.identifier least)
    ∷ (9, ltb most_total_mass (mass + p.mass))
    ∷ []

-- this number is the first of a list that is broken
pub data FirstBroken (n : ℕ) : List (ℕ × Bool) → Type 0 where
  here : {rest : List (ℕ × Bool)} → FirstBroken n ((n, true) ∷ rest)
  later : {m : ℕ} {rest : List (ℕ × Bool)} → FirstBroken n rest → FirstBroken n ((m, false) ∷ rest)

-- of `count` records from byte `start` on, those before record k are a set, and record k breaks limit n and none before it
pub record Broken (nx ny start : ℕ) (bytes : List ℕ) (count n k : ℕ) : Type 0 where
  pub before : List Particle
  pub inside : k < count
  pub set : set_of nx ny start bytes k ≡ gives before
  pub first : FirstBroken n (limits_on nx ny (least_after 0 before) (total_mass before) (particle_of (record_at start bytes k)))

-- what a refused call tells: 2 the sizes, then 1 the length, then 3 the number of records, each at place 0; or a limit of record k
abbrev pub Refuses : Caller → ℕ → ℕ → List ℕ → ℕ → ℕ → Type 0
Refuses caller nx ny bytes n k =
    let size = valid_size (most_side_of caller) nx ny in
    let whole = valid_length (length bytes) in
    ((n ≡ 2) × (k ≡ 0) × (size ≡ false))
    ⊎ (((n ≡ 1) × (k ≡ 0) × (size ≡ true) × (whole ≡ false))
    ⊎ (((n ≡ 3) × (k ≡ 0) × (size ≡ true) × (whole ≡ true) × (most_records_of caller < record_count bytes))
    ⊎ Broken nx ny 0 bytes (record_count bytes) n k))
