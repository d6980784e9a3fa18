-- What calls make of the records: completed steps, and nothing else.
--     Ready            the records hold the particles ps, which break no limit of these settings
--     Works            from the records before, the steps with these settings are completed and lead to the records after
--     works-none, works-append
--                      no step; two parts in a row
--     ready-step, ready-run
--                      what the checks at entry let in is ready
--     ready-after      and so is what a completed step leads to
--     step-works, run-works, call-works, calls-work
--                      one step; the steps of a run; a call; a list of calls
--     calls-number     as many steps as the calls say
-- Assumes nothing.
use mathlib.Core.Path.{◌≡◌, refl, sym, ap, ◌∙◌, subst}
use mathlib.Core.List.{List, [], ◌∷◌, ◌++◌}
use Prim.Native.Nat.{ℕ, zero, suc, ◌+◌}
use lib.ListN.{length, replicate, length-append, length-replicate}
use lib.IntN.{ℤ}
use Rattle.refusal.specs.Refused.{Answer, gives, refused, either}
use Rattle.limits.specs.declared.Caller.{Caller}
use Rattle.spline.specs.Spline.{axis_weight, D}
use Rattle.particle.specs.declared.Particle.{Particle}
use Rattle.apic.specs.Limits.{SetLimits}
use Rattle.particles.specs.Set.{records_of, particles_in}
use Rattle.particles.proofs.Accepted.{accepted-limits}
use Rattle.unpacking.proofs.Sets.{particles_in-accepted}
use Rattle.entry.specs.Entry.{entry_answer}
use Rattle.entry.proofs.Entry.{accepted}
use Rattle.settings.specs.declared.Settings.{Settings}
use Rattle.apic.specs.Step.{Grids}
use Rattle.simulation.specs.Step.{After, buffers_of, stepped, step_by, step_of, nodes_of, step_entry, step_from, step_after}
use Rattle.simulation.specs.Run.{Completion, run_from, run_by, run_entry, run_after}
use Rattle.simulation.specs.Demand3.{Accepted, Call, step, run, settings_of, leaves, completes, leaves_all, completes_all, settings_all, arrives}
use Rattle.simulation.proofs.Records.{records-particles, records-accepted}
use Rattle.simulation.proofs.Steps.{step-result, completed, limits-after}
use Rattle.simulation.proofs.Chains.{Chain, chain-append, arrives-append}

pub record Ready (s : Settings) (records : List ℕ) (ps : List Particle) : Type 0 where
  pub holds : particles_in records ≡ ps
  pub limits : SetLimits s.nx s.ny ps

pub record Works (ss : List Settings) (before after : List ℕ) : Type 0 where
  pub chain : Chain ss (particles_in before)
  pub last : particles_in after ≡ arrives ss (particles_in before)
  pub accepted : Accepted after

pub works-none : {records : List ℕ} → Accepted records → Works [] records records
unfolding arrives
works-none h = record { chain = tt; last = refl; accepted = h }

pub works-append : {ss ts : List Settings} {a b c : List ℕ} → Works ss a b → Works ts b c → Works (ss ++ ts) a c
works-append {ss} {ts} {a} v w =
    record {
      chain = chain-append ss ts (particles_in a) v.chain (subst (Chain ts) v.last w.chain);
      last = w.last ∙ ap (arrives ts) v.last ∙ sym (arrives-append ss ts (particles_in a));
      accepted = w.accepted;
    }

-- ---- entry

module _ (caller : Caller) (s : Settings) (records : List ℕ) where
  ready-entry : (grids : Grids) (steps : ℕ) {ps : List Particle} → entry_answer caller s (buffers_of grids) steps records ≡ gives ps → Ready s records ps
  ready-entry grids steps e =
      let a = accepted caller s (buffers_of grids) steps records e in
      record {
        holds = particles_in-accepted s.nx s.ny records a.set;
        limits = accepted-limits s.nx s.ny records a.set;
      }

  pub ready-step : (grids : Grids) {ps : List Particle} → step_entry caller s records grids ≡ gives ps → Ready s records ps
  unfolding step_entry
  ready-step grids e = ready-entry grids 0 e

  pub ready-run : (steps : ℕ) (grids : Grids) {ps : List Particle} → run_entry caller s steps records grids ≡ gives ps → Ready s records ps
  unfolding run_entry
  ready-run steps grids e = ready-entry grids steps e

-- ---- one step

-- a step that is not refused leads to particles that are ready again, whatever its weights
pub ready-after : (w : ℕ → ℕ → ℤ) (d : ℕ) {s : Settings} {records : List ℕ} {ps qs : List Particle} → Ready s records ps → step_by w d s ps ≡ gives qs → Ready s (records_of qs) qs
ready-after w d {s} {records} {ps} {qs} ready e =
    let limits : SetLimits s.nx s.ny qs = subst (SetLimits s.nx s.ny) (step-result w d s ps e).1 (limits-after w d s ps (completed w d s ps ready.limits e)) in
    record { holds = records-particles limits; limits = limits }

pub step-works : {s : Settings} {records : List ℕ} {ps qs : List Particle} → Ready s records ps → step_of s ps ≡ gives qs → Works (s ∷ []) records (records_of qs) × Ready s (records_of qs) qs
unfolding arrives
step-works {s} {records} {ps} {qs} ready e =
    let after = ready-after axis_weight D ready e in (
      record {
        chain = subst (Chain (s ∷ [])) (sym ready.holds) (completed axis_weight D s ps ready.limits e, tt);
        last = after.holds ∙ sym (step-result axis_weight D s ps e).1 ∙ ap (stepped s) (sym ready.holds);
        accepted = records-accepted after.limits;
      },
      after,
    )

-- ---- the steps of a run

abbrev RunWorks : Settings → List ℕ → After Completion → Type 0
RunWorks s records r = Works (replicate r.answer.completed s) records r.records

pub run-works : (s : Settings) (n : ℕ) (records : List ℕ) (ps : List Particle) (grids : Grids) → Accepted records → Ready s records ps → RunWorks s records (run_from s n records ps grids)
unfolding run_by
run-works s zero records ps grids h ready = works-none h
run-works s (suc n) records ps grids h ready =
    go (λ qs. run-works s n (records_of qs) qs (nodes_of s ps)) (step_of s ps) refl
  where
    go : ((qs : List Particle) → Accepted (records_of qs) → Ready s (records_of qs) qs → RunWorks s (records_of qs) (run_from s n (records_of qs) qs (nodes_of s ps))) → (a : Answer (List Particle)) → step_of s ps ≡ a → RunWorks s records (run_from s (suc n) records ps grids)
    go further (gives qs) e =
        let w = step-works ready e in
        rw e (works-append w.0 (further qs w.0.accepted w.1))
    go further (refused k p) e = rw e (works-none h)

-- ---- calls

abbrev StepWorks : Settings → List ℕ → After (Answer Unit) → Type 0
StepWorks s records r = Works (replicate (either r.answer (λ _. 1) (λ n k. 0)) s) records r.records

one-step : (s : Settings) (records : List ℕ) (ps : List Particle) → Accepted records → Ready s records ps → StepWorks s records (step_from s records ps)
unfolding step_from
one-step s records ps h ready = go (step_of s ps) refl
  where
    go : (a : Answer (List Particle)) → step_of s ps ≡ a → StepWorks s records (step_from s records ps)
    go (gives qs) e = rw e (step-works ready e).0
    go (refused n k) e = rw e (works-none h)

pub call-works : (c : Call) (records : List ℕ) → Accepted records → Works (replicate (completes c records) (settings_of c)) records (leaves c records)
unfolding step_after run_after
call-works (step caller s grids) records h = go (step_entry caller s records grids) refl
  where
    go : (a : Answer (List Particle)) → step_entry caller s records grids ≡ a → StepWorks s records (step_after caller s records grids)
    go (gives ps) e = rw e (one-step s records ps h (ready-step caller s records grids e))
    go (refused n k) e = rw e (works-none h)
call-works (run caller s steps grids) records h = go (run_entry caller s steps records grids) refl
  where
    go : (a : Answer (List Particle)) → run_entry caller s steps records grids ≡ a → RunWorks s records (run_after caller s steps records grids)
    go (gives ps) e = rw e (run-works s steps records ps grids h (ready-run caller s records steps grids e))
    go (refused n k) e = rw e (works-none h)

pub calls-work : (calls : List Call) (start : List ℕ) → Accepted start → Works (settings_all calls start) start (leaves_all calls start)
unfolding settings_all leaves_all
calls-work [] start h = works-none h
calls-work (c ∷ cs) start h =
    let w = call-works c start h in
    works-append w (calls-work cs (leaves c start) w.accepted)

pub calls-number : (calls : List Call) (start : List ℕ) → length (settings_all calls start) ≡ completes_all calls start
unfolding settings_all completes_all
calls-number [] start = refl
calls-number (c ∷ cs) start =
    length-append (replicate (completes c start) (settings_of c)) (settings_all cs (leaves c start))
    ∙ ap (λ n. n + length (settings_all cs (leaves c start))) (length-replicate (completes c start) (settings_of c))
    ∙ ap (λ n. completes c start + n) (calls-number cs (leaves c start))
