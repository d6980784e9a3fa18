-- What is known where a step's checks at entry pass.
--     step_after-entry  a step, by its answer at entry
--     known           the set is accepted and keeps its limits, and the grids have the right length
-- Assumes nothing.
use mathlib.Core.Path.{◌≡◌, ap}
use mathlib.Core.List.{List}
use Prim.Native.Nat.{ℕ}
use Rattle.refusal.specs.Refused.{Answer, gives, refused, either}
use Rattle.limits.specs.declared.Caller.{Caller}
use Rattle.particle.specs.declared.Particle.{Particle}
use Rattle.apic.specs.Step.{Grids}
use Rattle.apic.specs.Limits.{SetLimits}
use Rattle.settings.specs.declared.Settings.{Settings}
use Rattle.entry.proofs.Entry.{Accepted, accepted}
use Rattle.simulation.specs.Step.{seen, buffers_of, step_entry, step_from, step_after}
use Rattle.simulation.proofs.Calls.{ready-step}

pub step_after-entry : (caller : Caller) (s : Settings) (records : List ℕ) (lent : Grids) {a : Answer (List Particle)} → step_entry caller s records lent ≡ a → step_after caller s records lent ≡ either a (λ ps. step_from s records ps) (λ n k. seen (refused n k) records lent)
unfolding step_after
step_after-entry caller s records lent e = ap (λ a. either a (λ ps. step_from s records ps) (λ n k. seen (refused n k) records lent)) e

pub record Known (caller : Caller) (s : Settings) (records : List ℕ) (lent : Grids) (ps : List Particle) : Type 0 where
  pub accepted : Accepted caller s (buffers_of lent) 0 records ps
  pub limits : SetLimits s.nx s.ny ps

pub known : (caller : Caller) (s : Settings) (records : List ℕ) (lent : Grids) {ps : List Particle} → step_entry caller s records lent ≡ gives ps → Known caller s records lent ps
unfolding step_entry
known caller s records lent e =
    let a = accepted caller s (buffers_of lent) 0 records e in
    record {
      accepted = a;
      limits = (ready-step caller s records lent e).limits;
    }
