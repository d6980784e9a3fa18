-- The records that a run leaves are again a set that check a set accepts, for the same sizes.
--     run-kept       they are, where those before the run were
--     kept-totals    so their totals are those of the particles that they hold
-- Assumes nothing.
use Prim.Native.Nat.{ℕ, zero, suc}
use mathlib.Core.Path.{◌≡◌, refl, sym, ap, ◌∙◌, subst}
use mathlib.Core.List.{List}
use Rattle.refusal.specs.Refused.{Answer, gives, refused, and_then}
use Rattle.limits.specs.declared.Caller.TheVariants.{Bench}
use Rattle.spline.specs.Spline.{axis_weight, D}
use Rattle.particle.specs.declared.Particle.{Particle}
use Rattle.apic.specs.Limits.{SetLimits}
use Rattle.particles.specs.Set.{records_of, set_answer, particles_in}
use Rattle.totals.specs.Totals.{totals_of, totals_answer}
use Rattle.particles.proofs.Accepted.{accepted-limits, limits-accepted}
use Rattle.settings.specs.declared.Settings.{Settings}
use Rattle.apic.specs.Step.{Grids}
use Rattle.simulation.specs.Step.{nodes_of, step_of}
use Rattle.simulation.specs.Run.{run_from, run_by, run_entry, run_after}
use Rattle.unpacking.proofs.Sets.{particles_in-accepted}
use Rattle.simulation.proofs.Steps.{step-result, completed, limits-after}
use Rattle.simulation.proofs.Calls.{ready-run}

-- the particles of records that are accepted
pub record Held (nx ny : ℕ) (records : List ℕ) : Type 0 where
  pub particles : List Particle
  pub set : set_answer Bench nx ny records ≡ gives particles

pub held-particles : {nx ny : ℕ} {records : List ℕ} (h : Held nx ny records) → particles_in records ≡ h.particles
held-particles {nx} {ny} {records} h = particles_in-accepted nx ny records h.set

pub kept-totals : {nx ny : ℕ} {records : List ℕ} → Held nx ny records → totals_answer Bench nx ny records ≡ gives (totals_of (particles_in records))
kept-totals h = ap (λ a. and_then a (λ ps. gives (totals_of ps))) h.set ∙ ap (λ ps. gives (totals_of ps)) (sym (held-particles h))

module _ (s : Settings) where
  abbrev Kept : List ℕ → Type 0
  Kept records = Held s.nx s.ny records

  -- the records hold these particles
  abbrev Holds : List ℕ → List Particle → Type 0
  Holds records ps = set_answer Bench s.nx s.ny records ≡ gives ps

  next-kept : (records : List ℕ) {ps qs : List Particle} → Holds records ps → step_of s ps ≡ gives qs → Holds (records_of qs) qs
  next-kept records {ps} {qs} e f =
      let limits = limits-after axis_weight D s ps (completed axis_weight D s ps (accepted-limits s.nx s.ny records e) f) in
      limits-accepted s.nx s.ny qs (subst (SetLimits s.nx s.ny) (step-result axis_weight D s ps f).1 limits)

  steps-kept : (n : ℕ) (records : List ℕ) (ps : List Particle) (grids : Grids) → Holds records ps → Kept (run_from s n records ps grids).records
  unfolding run_by
  steps-kept zero records ps grids e = record { particles = ps; set = e }
  steps-kept (suc n) records ps grids e = go (λ qs. steps-kept n (records_of qs) qs (nodes_of s ps)) (step_of s ps) refl
    where
      go :
          ((qs : List Particle) → Holds (records_of qs) qs → Kept (run_from s n (records_of qs) qs (nodes_of s ps)).records) →
          (a : Answer (List Particle)) →
          step_of s ps ≡ a →
          Kept (run_from s (suc n) records ps grids).records
      go further (gives qs) f = rw f (further qs (next-kept records e f))
      go further (refused k p) f = rw f (record { particles = ps; set = e })

  pub run-kept : (steps : ℕ) (records : List ℕ) (grids : Grids) → Kept records → Kept (run_after Bench s steps records grids).records
  unfolding run_after
  run-kept steps records grids h = go (run_entry Bench s steps records grids) refl
    where
      go : (a : Answer (List Particle)) → run_entry Bench s steps records grids ≡ a → Kept (run_after Bench s steps records grids).records
      go (gives ps) e =
          let same : h.particles ≡ ps = sym (held-particles h) ∙ (ready-run Bench s records steps grids e).holds in
          rw e (steps-kept steps records ps grids (h.set ∙ ap gives same))
      go (refused n k) e = rw e h
