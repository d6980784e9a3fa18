-- A run is a step and a run of one step fewer.
--     run-entry     with at most 10,000 steps, the checks at entry are those of a step
--     again         what a completed step leaves passes them
-- Assumes nothing.
use mathlib.Core.Path.{◌≡◌, refl, sym, ap, ◌∙◌, subst}
use mathlib.Core.List.{List}
use Prim.Native.Nat.{ℕ, suc, ◌≤◌, ◌<◌}
use native.Mathlib.Omega.{arith}
use lib.ListN.{length, length-map}
use borrow.Author.Tests.{le-ltb}
use Rattle.refusal.specs.Refused.{Answer, gives, refused, either}
use Rattle.limits.specs.declared.Caller.{Caller}
use Rattle.limits.specs.Limits.{most_steps, CallerLimits}
use Rattle.spline.specs.Spline.{axis_weight, D}
use Rattle.particle.specs.declared.Particle.{Particle}
use Rattle.apic.specs.Step.{along_x, along_y, Grids}
use Rattle.apic.specs.Limits.{SetLimits}
use Rattle.particles.specs.Set.{records_of}
use Rattle.particles.proofs.Accepted.{accepted-within, within-accepted}
use Rattle.entry.specs.Entry.{begin_answer, entry_answer}
use Rattle.entry.proofs.Entry.{three-long, enters}
use Rattle.settings.specs.declared.Settings.{Settings}
use Rattle.simulation.specs.Step.{seen, After, buffers_of, move_by, stepped_by, step_of, nodes_of, step_entry, step_from, step_after}
use Rattle.simulation.specs.Run.{Completion, after_one, run_from, run_by, run_entry, run_after}
use Rattle.apic.proofs.Spline.{spline-lawful}
use Rattle.simulation.proofs.Refusals.{grid-limits, velocity-limits}
use Rattle.simulation.proofs.Steps.{step-result, completed, limits-after}
use Rattle.composition.specs.Repeated.{then_run, RunIsSteps}
use Rattle.composition.proofs.Entry.{step_after-entry, known}

-- stopped before its first step
abbrev stopped : ℕ → ℕ → List ℕ → Grids → After Completion
stopped k p records grids = seen (record { completed = 0; stop = refused k p }) records grids

module _ (caller : Caller) (s : Settings) (records : List ℕ) (grids : Grids) where
  run-entry : (n : ℕ) → n ≤ most_steps → run_entry caller s n records grids ≡ step_entry caller s records grids
  unfolding run_entry step_entry entry_answer begin_answer
  run-entry n h = rw (le-ltb most_steps n h)

  run-from : (n : ℕ) → n ≤ most_steps → {a : Answer (List Particle)} → step_entry caller s records grids ≡ a → run_after caller s n records grids ≡ either a (λ ps. run_from s n records ps grids) (λ k p. stopped k p records grids)
  unfolding run_after
  run-from n h e = ap (λ a. either a (λ ps. run_from s n records ps grids) (λ k p. stopped k p records grids)) (run-entry n h ∙ e)

module _ (caller : Caller) (s : Settings) (records : List ℕ) (grids : Grids) where
  module _ {ps : List Particle} (e : step_entry caller s records grids ≡ gives ps) {qs : List Particle} (m : step_of s ps ≡ gives qs) where
    after : SetLimits s.nx s.ny qs
    after = subst (SetLimits s.nx s.ny) (step-result axis_weight D s ps m).1 (limits-after axis_weight D s ps (completed axis_weight D s ps (known caller s records grids e).limits m))

    again : step_entry caller s (records_of qs) (nodes_of s ps) ≡ gives qs
    unfolding step_entry stepped_by
    again =
        let k = known caller s records grids e in
        let g = grid-limits spline-lawful s ps k.limits k.accepted.forces in
        let v = velocity-limits spline-lawful s ps k.limits k.accepted.forces in
        enters caller s (buffers_of (nodes_of s ps)) 0 (records_of qs)
        (within-accepted caller s.nx s.ny qs after (subst (CallerLimits caller s.nx s.ny) as_many (accepted-within caller s.nx s.ny records k.accepted.own)))
        (three-long (record { mass-is = g.within.mass-length; x-is = (v along_x).count; y-is = (v along_y).count }))
        k.accepted.forces
        (omega arith)
      where
        as_many : length ps ≡ length qs
        as_many = sym (length-map ps (move_by axis_weight D s ps)) ∙ ap length (step-result axis_weight D s ps m).1

  -- by what the first step answers
  module _ (n : ℕ) (few : n < most_steps) where
    tried : {ps : List Particle} → step_entry caller s records grids ≡ gives ps → (a : Answer (List Particle)) → step_of s ps ≡ a → run_from s (suc n) records ps grids ≡ then_run caller s n (step_from s records ps)
    unfolding run_by step_from
    tried {ps} e (gives qs) m = rw m (ap after_one (sym (run-from caller s (records_of qs) (nodes_of s ps) n (omega arith) (again e m))))
    tried e (refused k p) m = rw m

    by-entry : (a : Answer (List Particle)) → step_entry caller s records grids ≡ a → run_after caller s (suc n) records grids ≡ then_run caller s n (step_after caller s records grids)
    by-entry (gives ps) e = run-from caller s records grids (suc n) few e ∙ tried e (step_of s ps) refl ∙ sym (ap (then_run caller s n) (step_after-entry caller s records grids e))
    by-entry (refused k p) e = run-from caller s records grids (suc n) few e ∙ sym (ap (then_run caller s n) (step_after-entry caller s records grids e))

pub run-is-steps : RunIsSteps
run-is-steps caller s n records grids few = by-entry caller s records grids n few (step_entry caller s records grids) refl
