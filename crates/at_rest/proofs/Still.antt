-- Records at rest, through a call and a list of calls.
--     run-rests              the steps of a run
--     still-rests            a run, refused at entry or not
--     still-through-calls    every list of step and run calls
-- Assumes nothing.
use mathlib.Core.Path.{◌≡◌, refl, sym, ap, ◌∙◌, subst}
use mathlib.Core.List.{List, [], ◌∷◌}
use Prim.Native.Nat.{ℕ, zero, suc}
use Rattle.refusal.specs.Refused.{Answer, gives, refused, done}
use Rattle.refusal.proofs.Answers.{not-refused}
use Rattle.arith.specs.Sums.{Each}
use Rattle.limits.specs.declared.Caller.{Caller}
use Rattle.particle.specs.declared.Particle.{Particle}
use Rattle.particles.specs.Set.{records_of}
use Rattle.particles.proofs.Accepted.{accepted-records, accepted-limits}
use Rattle.unpacking.proofs.Sets.{particles_in-accepted}
use Rattle.entry.specs.Entry.{entry_answer}
use Rattle.entry.proofs.Entry.{accepted}
use Rattle.settings.specs.declared.Settings.{Settings}
use Rattle.apic.specs.Step.{Grids}
use Rattle.apic.specs.Motion.{AtRest}
use Rattle.apic.proofs.Spline.{spline-lawful}
use Rattle.simulation.specs.Step.{After, buffers_of, step_of, nodes_of, step_entry, step_from, step_after}
use Rattle.simulation.specs.Run.{Completion, run_by, run_from, run_entry, run_after}
use Rattle.simulation.specs.Demand3.{Call, step, run, settings_of, leaves, leaves_all}
use Rattle.at_rest.specs.Still.{Gentle, Still, Rests, StillRests, StillThroughCalls}
use Rattle.at_rest.proofs.Steps.{rest-step}

-- what a call whose checks at entry pass finds
record Found (s : Settings) (records : List ℕ) (ps : List Particle) : Type 0 where
  written : records_of ps ≡ records
  stays : step_of s ps ≡ gives ps

module _ (records : List ℕ) (still : Still records) (caller : Caller) (s : Settings) (gentle : Gentle s) where
  found : (grids : Grids) (steps : ℕ) {ps : List Particle} → entry_answer caller s (buffers_of grids) steps records ≡ gives ps → Found s records ps
  found grids steps {ps} e =
      let a = accepted caller s (buffers_of grids) steps records e in
      record {
        written = sym (accepted-records s.nx s.ny records still.bytes a.set);
        stays =
            rest-step spline-lawful s gentle ps (accepted-limits s.nx s.ny records a.set)
            (subst (Each AtRest) (particles_in-accepted s.nx s.ny records a.set) still.at_rest);
      }

-- ---- the steps of a run

abbrev Ends : ℕ → List ℕ → After Completion → Type 0
Ends n records r = (r.records ≡ records) × (r.answer ≡ record { completed = n; stop = done })

run-rests : (s : Settings) (n : ℕ) (records : List ℕ) (ps : List Particle) (grids : Grids) → Found s records ps → Ends n records (run_from s n records ps grids)
unfolding run_by
run-rests s zero records ps grids found = (refl, refl)
run-rests s (suc n) records ps grids found =
    let further = run-rests s n (records_of ps) ps (nodes_of s ps) (record { written = refl; stays = found.stays }) in
    rw found.stays (further.0 ∙ found.written, ap (λ r. record { completed = suc r.completed; stop = r.stop }) further.1)

pub still-rests : StillRests
unfolding run_entry run_after
still-rests records still caller s gentle steps grids = go (run_entry caller s steps records grids) refl
  where
    go : (a : Answer (List Particle)) → run_entry caller s steps records grids ≡ a → Rests caller s steps records grids
    go (gives ps) e =
        let ends = run-rests s steps records ps grids (found records still caller s gentle grids steps e) in
        record { left = rw e ends.0; completes = λ qs f. rw e ends.1 }
    go (refused n k) e = record { left = rw e refl; completes = λ qs f. not-refused (sym f ∙ e) }

-- ---- calls

still-call : (records : List ℕ) → Still records → (c : Call) → Gentle (settings_of c) → leaves c records ≡ records
unfolding step_entry step_from step_after
still-call records still (step caller s grids) gentle = go (step_entry caller s records grids) refl
  where
    go : (a : Answer (List Particle)) → step_entry caller s records grids ≡ a → (step_after caller s records grids).records ≡ records
    go (gives ps) e = let f = found records still caller s gentle grids 0 e in rw (e, f.stays) f.written
    go (refused n k) e = rw e refl
still-call records still (run caller s steps grids) gentle = (still-rests records still caller s gentle steps grids).left

pub still-through-calls : StillThroughCalls
unfolding leaves_all
still-through-calls records still [] gentle = refl
still-through-calls records still (c ∷ cs) gentle =
    let same = still-call records still c gentle.0 in
    ap (leaves_all cs) same ∙ still-through-calls records still cs gentle.1
