-- Gather, step and run leave identifiers and marks as they are.
--     arrives-labels      completed steps
--     call-labels         a call of step or run: refused at entry it leaves the records, and else they were accepted
--     calls-labels        a list of calls
--     gather-keeps-marks, step-keeps-marks, run-keeps-marks, calls-keep-marks
--                         the theorems
-- Assumes nothing.
use mathlib.Core.Path.{◌≡◌, refl, sym, ap, ◌∙◌}
use mathlib.Core.List.{List, [], ◌∷◌, map}
use Prim.Native.Nat.{ℕ}
use lib.ListN.{length}
use lib.IntN.{ℤ}
use Rattle.refusal.specs.Refused.{Answer, gives, refused, and_then, either}
use Rattle.refusal.proofs.Answers.{went_on}
use Rattle.arith.specs.Rounding.{rounded}
use Rattle.arith.specs.Sums.{total-same}
use Rattle.limits.specs.declared.Caller.{Caller}
use Rattle.spline.specs.Spline.{axis_weight, D}
use Rattle.particle.specs.declared.Particle.{Particle}
use Rattle.particle.specs.Record.{label}
use Rattle.particles.specs.Set.{records_of, particles_in}
use Rattle.particles.proofs.Accepted.{accepted-limits}
use Rattle.unpacking.proofs.Sets.{particles_in-accepted}
use Rattle.settings.specs.declared.Settings.{Settings}
use Rattle.apic.specs.Step.{Grids, node}
use Rattle.apic.proofs.Gather.{gather-labels}
use Rattle.entry.specs.Entry.{entry_answer}
use Rattle.entry.proofs.Entry.{accepted}
use Rattle.gathering.specs.Gather.{gathered}
use Rattle.gathering.proofs.Checks.{checks-result}
use Rattle.gathering.proofs.Kept.{set-kept}
use Rattle.transfer.specs.Transfer.{checked_set, move_answer, gather_answer}
use Rattle.transfer.proofs.Gathers.{set-accepted}
use Rattle.simulation.specs.Step.{stepped, buffers_of, step_entry, step_after}
use Rattle.simulation.specs.Run.{run_entry, run_after}
use Rattle.simulation.specs.Demand3.{Accepted, Call, step, run, leaves, leaves_all, arrives}
use Rattle.simulation.proofs.Records.{records-particles}
use Rattle.simulation.proofs.Steps.{kept-labels}
use Rattle.simulation.proofs.Calls.{Works, call-works}
use Rattle.marks.specs.Marks.{KeepsMarks, GatherKeepsMarks, StepKeepsMarks, RunKeepsMarks, CallsKeepMarks}

-- the labels of the particles in records, in their order
abbrev labels_in : List ℕ → List (ℕ × ℕ)
labels_in records = map label (particles_in records)

-- where labels are kept, so is the sum of the marks
keeps : {before after : List ℕ} → labels_in after ≡ labels_in before → KeepsMarks before after
keeps {before} {after} e = record { each = e; sum = total-same label (λ l. l.1) (particles_in after) (particles_in before) e }

-- ---- step and run

arrives-labels : (ss : List Settings) (ps : List Particle) → map label (arrives ss ps) ≡ map label ps
unfolding arrives
arrives-labels [] ps = refl
arrives-labels (s ∷ ss) ps = arrives-labels ss (stepped s ps) ∙ kept-labels axis_weight D s ps

works-labels : {ss : List Settings} {before after : List ℕ} → Works ss before after → labels_in after ≡ labels_in before
works-labels {ss} {before} w = ap (map label) w.last ∙ arrives-labels ss (particles_in before)

let-in : (caller : Caller) (s : Settings) (records : List ℕ) (grids : Grids) (steps : ℕ) {ps : List Particle} → entry_answer caller s (buffers_of grids) steps records ≡ gives ps → Accepted records
let-in caller s records grids steps {ps} e =
    record {
      nx = s.nx;
      ny = s.ny;
      count = length ps;
      accepts = ap (λ a. and_then a (λ qs. gives (length qs))) (accepted caller s (buffers_of grids) steps records e).set;
    }

-- by what the checks at entry answer
by-entry : {records after : List ℕ} (a : Answer (List Particle)) → ((ps : List Particle) → a ≡ gives ps → labels_in after ≡ labels_in records) → ((n k : ℕ) → a ≡ refused n k → after ≡ records) → labels_in after ≡ labels_in records
by-entry (gives ps) passed stopped = passed ps refl
by-entry (refused n k) passed stopped = ap labels_in (stopped n k refl)

call-labels : (c : Call) (records : List ℕ) → labels_in (leaves c records) ≡ labels_in records
unfolding step_entry step_after run_entry run_after
call-labels (step caller s grids) records =
    by-entry {after = (step_after caller s records grids).records} (step_entry caller s records grids)
    (λ ps e. works-labels (call-works (step caller s grids) records (let-in caller s records grids 0 e)))
    (λ n k e. rw e refl)
call-labels (run caller s steps grids) records =
    by-entry {after = (run_after caller s steps records grids).records} (run_entry caller s steps records grids)
    (λ ps e. works-labels (call-works (run caller s steps grids) records (let-in caller s records grids steps e)))
    (λ n k e. rw e refl)

pub step-keeps-marks : StepKeepsMarks
step-keeps-marks caller s records grids = keeps (call-labels (step caller s grids) records)

pub run-keeps-marks : RunKeepsMarks
run-keeps-marks caller s steps records grids = keeps (call-labels (run caller s steps grids) records)

calls-labels : (calls : List Call) (records : List ℕ) → labels_in (leaves_all calls records) ≡ labels_in records
unfolding leaves_all
calls-labels [] records = refl
calls-labels (c ∷ cs) records = calls-labels cs (leaves c records) ∙ call-labels c records

pub calls-keep-marks : CallsKeepMarks
calls-keep-marks calls records = keeps (calls-labels calls records)

-- ---- gather

module _ (caller : Caller) (nx ny : ℕ) (records : List ℕ) (ux uy : List ℤ) where
  gathered-labels : {qs : List Particle} → gather_answer caller nx ny records ux uy ≡ gives qs → labels_in (records_of qs) ≡ labels_in records
  gathered-labels e =
      let checked = went_on (checked_set caller nx ny records ux uy) (λ ps. move_answer nx ny ux uy ps) e in
      let ps = checked.0 in
      let in-set = set-accepted caller nx ny records ux uy checked.1 in
      let moves = checks-result nx ny (gathered axis_weight nx ny ux uy) 0 ps (map (gathered axis_weight nx ny ux uy) ps) checked.2 in
      ap (λ rs. labels_in (records_of rs)) (sym moves.1)
      ∙ ap (map label) (records-particles (set-kept axis_weight nx ny ux uy 0 ps (accepted-limits nx ny records in-set) moves.0))
      ∙ gather-labels rounded axis_weight nx ny (node nx ux) (node nx uy) ps
      ∙ ap (map label) (sym (particles_in-accepted nx ny records in-set))

  left-labels : (a : Answer (List Particle)) → gather_answer caller nx ny records ux uy ≡ a → labels_in (either a records_of (λ n k. records)) ≡ labels_in records
  left-labels (gives qs) e = gathered-labels e
  left-labels (refused n k) e = refl

pub gather-keeps-marks : GatherKeepsMarks
gather-keeps-marks caller nx ny records ux uy told after is =
    keeps (ap labels_in is.left_is ∙ left-labels caller nx ny records ux uy (gather_answer caller nx ny records ux uy) refl)
