-- What the internal functions of the walk compute: their contracts name these, and no public operation's does.
-- Assumes nothing.
use Rattle.refusal.specs.declared.Refusal.{Refusal}
use Rattle.std.specs.Prelude.{List, ℕ, ◌*◌, ◌^◌, ◌≤◌, nat_abs, Result, Ok, Err}
use Rattle.limits.specs.Limits.{most_total_mass}
use Rattle.refusal.specs.Refused.{Answer, gives, and_then}
use Rattle.particle.specs.declared.Particle.{Particle}
use Rattle.particle.specs.Record.{read_answer}
use Rattle.particles.specs.Set.{checked_particle, record_at, set_of}
use Rattle.particles.specs.Walk.{followed}
use Rattle.totals.specs.declared.Totals.{Totals}
use Rattle.totals_set.specs.declared.Progress.{Progress}
use Rattle.totals.specs.Totals.{totals_of}
use Rattle.totals.specs.Share.{share, plus}

-- what one record's share of a sum is at most, in size
abbrev pub most_share : ℕ
most_share = 2 ^ 35

-- no sum is above n times a record's
pub record SmallSums (n : ℕ) (t : Totals) : Type 0 where
  pub mass : nat_abs t.mass ≤ n * most_share
  pub px : nat_abs t.px ≤ n * most_share
  pub py : nat_abs t.py ≤ n * most_share
  pub spin : nat_abs t.spin ≤ n * most_share
  pub motion : nat_abs t.motion ≤ n * most_share
  pub marks : nat_abs t.marks ≤ n * most_share

-- the progress of a walk that has passed n records
pub record Small (n : ℕ) (s : Progress) : Type 0 where
  pub light : s.entry.mass ≤ most_total_mass
  pub sums : SmallSums n s.totals

-- the progress after one more particle
abbrev pub advanced : Progress → Particle → Progress
advanced s p = record { entry = followed s.entry p; totals = plus s.totals (share p) }

abbrev pub next_answer : ℕ → ℕ → ℕ → Progress → Particle → Answer Progress
next_answer nx ny k s p = and_then (checked_particle nx ny k s.entry.least s.entry.mass p) (λ q. gives (advanced s q))

abbrev pub SmallNext : ℕ → Result Progress Refusal → Type 0
SmallNext n (Ok s) = Small n s
SmallNext n (Err e) = Unit {0}

-- the progress after the record with index k
abbrev pub next_record : ℕ → ℕ → ℕ → List ℕ → ℕ → Progress → Answer Progress
next_record nx ny start bytes k s = and_then (read_answer k (record_at start bytes k)) (λ p. next_answer nx ny k s p)

-- the totals of the records from byte `start` on
abbrev pub walked : ℕ → ℕ → ℕ → List ℕ → ℕ → Answer Totals
walked nx ny start bytes count = and_then (set_of nx ny start bytes count) (λ ps. gives (totals_of ps))
