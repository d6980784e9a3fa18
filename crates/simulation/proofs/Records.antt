-- The particles that records hold.
--     records-particles  the records of particles that break no limit hold these particles
--     records-accepted   and are accepted
--     accepted-length    accepted records are `record_length` bytes for each particle
-- Assumes nothing.
use mathlib.Core.Path.{◌≡◌, sym, ap, ◌∙◌}
use mathlib.Core.List.{List}
use Prim.Native.Nat.{ℕ, ◌*◌}
use lib.ListN.{length}
use Rattle.refusal.specs.Refused.{gives, and_then}
use Rattle.refusal.proofs.Answers.{went_on}
use Rattle.limits.specs.declared.Caller.TheVariants.{Bench}
use Rattle.particle.specs.declared.Particle.{Particle}
use Rattle.particle.specs.Layout.{record_length}
use Rattle.apic.specs.Limits.{SetLimits}
use Rattle.particles.specs.Set.{record_count, set_answer, records_of, particles_in}
use Rattle.particles.proofs.Checks.{counted, entered, length-limits}
use Rattle.particles.proofs.Accepted.{limits-accepted}
use Rattle.unpacking.proofs.Sets.{particles_in-accepted}
use Rattle.simulation.specs.Demand3.{Accepted}

module _ {nx ny : ℕ} {ps : List Particle} (limits : SetLimits nx ny ps) where
  pub records-particles : particles_in (records_of ps) ≡ ps
  records-particles = particles_in-accepted nx ny (records_of ps) (limits-accepted nx ny ps limits)

  pub records-accepted : Accepted (records_of ps)
  records-accepted =
      record { nx = nx; ny = ny; count = length ps; accepts = ap (λ a. and_then a (λ qs. gives (length qs))) (limits-accepted nx ny ps limits) }

pub accepted-length : {records : List ℕ} → Accepted records → length records ≡ record_length * length (particles_in records)
accepted-length {records} h =
    let a = went_on (set_answer Bench h.nx h.ny records) (λ ps. gives (length ps)) h.accepts in
    let n = entered Bench h.nx h.ny records a.1 in
    sym (length-limits (length records) n.whole).whole
    ∙ ap (λ k. record_length * k)
    (sym (counted h.nx h.ny 0 records (record_count records) 0 0 0 n.set) ∙ ap length (sym (particles_in-accepted h.nx h.ny records a.1)))
