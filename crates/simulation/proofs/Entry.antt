-- The checks at entry, and what the operations make of them.
--     run-ready                    what is accepted can be run
--     entry_done, entry-refused    what a caller of the check learns
--     run-accepted, run-refused    what the run then leaves
--     step-is-run, step-sees       a step is a run of one step
-- Assumes nothing.
use mathlib.Core.Path.{◌≡◌, refl, sym, ap, ◌∙◌}
use mathlib.Core.List.{List}
use Prim.Native.Nat.{ℕ}
use lib.ListN.{length}
use lib.IntN.{ℤ}
use Rattle.refusal.specs.Refused.{Answer, gives, refused, refused_by, and_then, either, done}
use Rattle.refusal.specs.declared.Refusal.{Refusal}
use Rattle.refusal.proofs.Answers.{went_on, same-result}
use Rattle.limits.specs.declared.Caller.{Caller}
use Rattle.particle.specs.declared.Particle.{Particle}
use Rattle.particles.specs.Set.{record_count, records_of, particle_in, particles_in}
use Rattle.arith.specs.Lists.{length-tabulated}
use Rattle.unpacking.proofs.Sets.{set-length}
use Rattle.settings.specs.declared.Settings.{Settings}
use Rattle.entry.specs.Entry.{entry_answer, begin_answer}
use Rattle.entry.proofs.Entry.{kept-refusal, accepted, long-three}
use Rattle.apic.specs.Step.{Grids, grids_of}
use Rattle.simulation.specs.Step.{After, Sees, seen, buffers_of, nodes_of, step_of, step_entry, step_from, step_after}
use Rattle.simulation.specs.Run.{Completion, after_one, run_from, run_by, run_entry, run_after}
use Rattle.simulation.specs.Internal.{RunReady}
use Rattle.simulation.proofs.Calls.{ready-run}

module _ (caller : Caller) (s : Settings) (steps : ℕ) (records mass : List ℕ) (px py : List ℤ) where
  abbrev entry : Answer (List Particle)
  entry = run_entry caller s steps records (grids_of mass px py)

  pub run-ready : {ps : List Particle} → entry ≡ gives ps → RunReady s records mass px py
  unfolding run_entry
  run-ready {ps} e =
      let a = accepted caller s (buffers_of (grids_of mass px py)) steps records e in
      let l = long-three _ _ _ _ a.long in
      record {
        particles = ps;
        set = a.set;
        most = set-length s.nx s.ny records a.set;
        forces = a.forces;
        mass-long = l.mass-is;
        px-long = l.x-is;
        py-long = l.y-is;
      }

  run-count : {ps : List Particle} → entry ≡ gives ps → length ps ≡ record_count records
  unfolding particles_in
  run-count e =
      ap length (sym (ready-run caller s records steps (grids_of mass px py) e).holds)
      ∙ length-tabulated (λ k. particle_in records k) (record_count records)

  -- what the check at entry tells
  abbrev pub told_entry : Answer ℕ
  told_entry = and_then (entry_answer caller s (buffers_of (grids_of mass px py)) steps records) (λ ps. gives (length ps))

  pub entry_done : {n : ℕ} → gives n ≡ told_entry → (ps : List Particle) × (entry ≡ gives ps) × (n ≡ record_count records)
  unfolding run_entry
  entry_done e = let w = went_on entry (λ ps. gives (length ps)) (sym e) in (w.0, w.1, sym (same-result w.2) ∙ run-count w.1)

  pub entry-refused : (f : Refusal) → refused_by f ≡ told_entry → entry ≡ refused_by f
  unfolding run_entry
  entry-refused f e = kept-refusal entry length (sym e)

  -- ---- what the run leaves

  module _ {A : Type 0} {after : After A} {answer : A} {bytes mass' : List ℕ} {x y : List ℤ} where
    sees : seen answer bytes (grids_of mass' x y) ≡ after → Sees after answer bytes mass' x y
    sees e =
        record {
          answer = ap (λ r. r.answer) e;
          records = ap (λ r. r.records) e;
          masses = ap (λ r. r.grids.mass) e;
          x-velocities = ap (λ r. r.grids.x) e;
          y-velocities = ap (λ r. r.grids.y) e;
        }

  pub run-accepted : {ps : List Particle} {c : Completion} {bytes mass' : List ℕ} {x y : List ℤ} → entry ≡ gives ps → seen c bytes (grids_of mass' x y) ≡ run_from s steps records (particles_in records) (grids_of mass px py) → Sees (run_after caller s steps records (grids_of mass px py)) c bytes mass' x y
  unfolding run_after
  run-accepted {ps} e h =
      sees (h ∙ ap (λ qs. run_from s steps records qs (grids_of mass px py)) (ready-run caller s records steps (grids_of mass px py) e).holds ∙ sym (ap by e))
    where
      by : Answer (List Particle) → After Completion
      by a = either a (λ ps. run_from s steps records ps (grids_of mass px py)) (λ n k. seen (record { completed = 0; stop = refused n k }) records (grids_of mass px py))

  pub run-refused : (f : Refusal) → entry ≡ refused_by f → Sees (run_after caller s steps records (grids_of mass px py)) (record { completed = 0; stop = refused_by f }) records mass px py
  unfolding run_after
  run-refused f e = sees (sym (ap by e))
    where
      by : Answer (List Particle) → After Completion
      by a = either a (λ ps. run_from s steps records ps (grids_of mass px py)) (λ n k. seen (record { completed = 0; stop = refused n k }) records (grids_of mass px py))

-- ---- a step

module _ (caller : Caller) (s : Settings) (records : List ℕ) (grids : Grids) where
  abbrev stop_of : After Completion → After (Answer Unit)
  stop_of r = seen r.answer.stop r.records r.grids

  pub step-is-run : step_after caller s records grids ≡ stop_of (run_after caller s 1 records grids)
  unfolding step_after run_after step_entry run_entry entry_answer begin_answer step_from run_by
  step-is-run = go (step_entry caller s records grids)
    where
      tried : (ps : List Particle) (a : Answer (List Particle)) → either a (λ qs. seen done (records_of qs) (nodes_of s ps)) (λ n k. seen (refused n k) records (nodes_of s ps)) ≡ stop_of (either a (λ qs. after_one (run_from s 0 (records_of qs) qs (nodes_of s ps))) (λ k p. seen (record { completed = 0; stop = refused k p }) records (nodes_of s ps)))
      tried ps (gives qs) = refl
      tried ps (refused n k) = refl

      go : (a : Answer (List Particle)) → either a (λ ps. step_from s records ps) (λ n k. seen (refused n k) records grids) ≡ stop_of (either a (λ ps. run_from s 1 records ps grids) (λ n k. seen (record { completed = 0; stop = refused n k }) records grids))
      go (gives ps) = tried ps (step_of s ps)
      go (refused n k) = refl

  pub step-sees : {c : Completion} {t : Answer Unit} {bytes mass : List ℕ} {x y : List ℤ} → c.stop ≡ t → Sees (run_after caller s 1 records grids) c bytes mass x y → Sees (step_after caller s records grids) t bytes mass x y
  step-sees e h =
      record {
        answer = sym e ∙ ap (λ r. r.stop) h.answer ∙ ap (λ r. r.answer) (sym step-is-run);
        records = h.records ∙ ap (λ r. r.records) (sym step-is-run);
        masses = h.masses ∙ ap (λ r. r.grids.mass) (sym step-is-run);
        x-velocities = h.x-velocities ∙ ap (λ r. r.grids.x) (sym step-is-run);
        y-velocities = h.y-velocities ∙ ap (λ r. r.grids.y) (sym step-is-run);
      }
