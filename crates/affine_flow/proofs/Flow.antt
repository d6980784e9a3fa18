-- An affine flow through a step, and a uniform drift through a run, by what a caller sees.
--     limits-moved       a step of particles that break no limit, with any lawful weights
--     step-keeps-flow    step
--     unmoved, then-moved, still-drifts
--                        no step; one step and n more; a drift stays one
--     run-drifts         the steps of a run, with any lawful weights
--     run-keeps-drift    run
-- Assumes nothing.
use mathlib.Core.Path.{◌≡◌, refl, sym, ap, ◌∙◌, subst, subst₂}
use mathlib.Core.List.{List, [], ◌∷◌}
use Prim.Native.Nat.{ℕ, zero, suc, ◌/◌}
use native.Mathlib.Omega.{arith}
use lib.IntN.{ℤ, pos, ◌+ℤ◌, ◌*ℤ◌}
use Rattle.refusal.specs.Refused.{Answer, gives, refused, done}
use Rattle.refusal.proofs.Answers.{not-result}
use Rattle.arith.specs.Order.{linear, reading, ◌&◌}
use Rattle.arith.specs.Solver.{ring, quote}
use Rattle.arith.specs.Sums.{Each, each_map}
use Rattle.limits.specs.declared.Caller.{Caller}
use Rattle.spline.specs.Spline.{axis_weight, D}
use Rattle.particle.specs.declared.Particle.{Particle}
use Rattle.particles.specs.Set.{records_of, particles_in}
use Rattle.settings.specs.declared.Settings.{Settings}
use Rattle.apic.specs.Step.{Axis, coordinate, velocity, Grids}
use Rattle.apic.specs.Limits.{ParticleLimits, SetLimits}
use Rattle.apic.proofs.Bounds.{spread-whole}
use Rattle.apic.proofs.Kernel.{Lawful}
use Rattle.apic.proofs.Spline.{spline-lawful}
use Rattle.simulation.specs.Step.{After, step_by, step_of, nodes_by, step_entry, step_from, step_after}
use Rattle.simulation.specs.Run.{Completion, run_from, run_by, run_entry, run_after}
use Rattle.simulation.proofs.Calls.{Ready, ready-step, ready-run, ready-after}
use Rattle.affine_flow.specs.Flow.{Flow, Follows, drift, Unforced, MovedBy, EachPair, StepKeepsFlow, Drifts, RunKeepsDrift, WholeAtNodes}
use Rattle.affine_flow.proofs.Pairs.{pair_same, pair_then, pair-each}
use Rattle.affine_flow.proofs.Steps.{flow-comes-back, entries-nodes, spline-divides, drift-divides}

-- ---- a step

module _ {w : ℕ → ℕ → ℤ} {d : ℕ} (law : Lawful w d) (s : Settings) (unforced : Unforced s) (f : Flow) (nodes : WholeAtNodes d f s.nx s.ny) where
  limits-moved : {ps qs : List Particle} → SetLimits s.nx s.ny ps → Each (Follows d (d / 256) f) ps → step_by w d s ps ≡ gives qs → EachPair (MovedBy 1) ps qs
  limits-moved {ps} {qs} limits follows e =
      let whole = spread-whole law.spread in
      flow-comes-back w d (d / 256) whole.times whole.some s unforced f nodes ps
      (law.placed s.nx s.ny ps limits.each)
      (each_map (ParticleLimits s.nx s.ny) _ (λ p h. h.mass-least) ps limits.each)
      follows qs e

module _ (caller : Caller) (s : Settings) (unforced : Unforced s) (f : Flow) (records : List ℕ) (follows : Each (Follows D 4 f) (particles_in records)) (grids : Grids) where
  abbrev Kept : List ℕ → Type 0
  Kept after = EachPair (MovedBy 1) (particles_in records) (particles_in after)

  from_step : (ps : List Particle) → Ready s records ps → (step_from s records ps).answer ≡ done → Kept (step_from s records ps).records
  unfolding step_from
  from_step ps ready = go (step_of s ps) refl
    where
      go : (a : Answer (List Particle)) → step_of s ps ≡ a → (step_from s records ps).answer ≡ done → Kept (step_from s records ps).records
      go (gives qs) e =
          rw e (λ is-done.
          subst₂ (EachPair (MovedBy 1)) (sym ready.holds) (sym (ready-after axis_weight D ready e).holds)
          (limits-moved spline-lawful s unforced f (entries-nodes D f s.nx s.ny (spline-divides f)) ready.limits
          (subst (Each (Follows D 4 f)) ready.holds follows) e))
      go (refused n k) e = rw e (λ is-done. not-result is-done)

  after-step : (step_after caller s records grids).answer ≡ done → Kept (step_after caller s records grids).records
  unfolding step_after
  after-step = go (step_entry caller s records grids) refl
    where
      go : (a : Answer (List Particle)) → step_entry caller s records grids ≡ a → (step_after caller s records grids).answer ≡ done → Kept (step_after caller s records grids).records
      go (gives ps) e = rw e (from_step ps (ready-step caller s records grids e))
      go (refused n k) e = rw e (λ is-done. not-result is-done)

pub step-keeps-flow : StepKeepsFlow
step-keeps-flow caller s unforced f records follows grids told after mass x y sees is-done =
    subst (λ bytes. EachPair (MovedBy 1) (particles_in records) (particles_in bytes)) (sym sees.records)
    (after-step caller s unforced f records follows grids (sym sees.answer ∙ is-done))

-- ---- a run

unmoved : (p : Particle) → MovedBy 0 p p
unmoved p =
    record {
      same-velocity = λ a. refl;
      same-affine = λ a b. refl;
      same-identifier = refl;
      same-mass = refl;
      same-marks = refl;
      new-place = λ a. nowhere (pos (coordinate a p)) (velocity a p);
    }
  where
    nowhere : (x v : ℤ) → x ≡ x +ℤ pos 0 *ℤ v
    nowhere x v = ring (x ∷ v ∷ []) (search quote depth 30) (search quote depth 30) tt

then-moved : (n : ℕ) (p q r : Particle) → MovedBy 1 p q → MovedBy n q r → MovedBy (suc n) p r
then-moved n p q r h k =
    record {
      same-velocity = λ a. k.same-velocity a ∙ h.same-velocity a;
      same-affine = λ a b. k.same-affine a b ∙ h.same-affine a b;
      same-identifier = k.same-identifier ∙ h.same-identifier;
      same-mass = k.same-mass ∙ h.same-mass;
      same-marks = k.same-marks ∙ h.same-marks;
      new-place = λ a.
          further (pos (coordinate a p)) (pos (coordinate a q)) (pos (coordinate a r)) (velocity a p) (h.new-place a)
          (k.new-place a ∙ ap (λ v. pos (coordinate a q) +ℤ pos n *ℤ v) (h.same-velocity a));
    }
  where
    further : (x y z v : ℤ) → y ≡ x +ℤ pos 1 *ℤ v → z ≡ y +ℤ pos n *ℤ v → z ≡ x +ℤ pos (suc n) *ℤ v
    further x y z v e e' = linear (x ∷ y ∷ z ∷ v ∷ []) (e & e') (search reading depth 30) (omega arith)

still-drifts : (d : ℕ) (A : Axis → ℤ) (n : ℕ) (p q : Particle) → Follows d (d / 256) (drift A) p → MovedBy n p q → Follows d (d / 256) (drift A) q
still-drifts d A n p q h k =
    record {
      its-affine = λ a b. k.same-affine a b ∙ h.its-affine a b;
      its-velocity = λ a.
          ap (λ v. pos d *ℤ v) (k.same-velocity a)
          ∙ h.its-velocity a
          ∙ anywhere (pos (d / 256) *ℤ A a) (pos p.x) (pos p.y) (pos q.x) (pos q.y);
    }
  where
    anywhere : (c x y x' y' : ℤ) → c +ℤ (pos 0 *ℤ x +ℤ pos 0 *ℤ y) ≡ c +ℤ (pos 0 *ℤ x' +ℤ pos 0 *ℤ y')
    anywhere c x y x' y' = ring (c ∷ x ∷ y ∷ x' ∷ y' ∷ []) (search quote depth 30) (search quote depth 30) tt

abbrev Ends : ℕ → List Particle → After Completion → Type 0
Ends n ps r = Drifts n r.answer ps (particles_in r.records)

module _ {w : ℕ → ℕ → ℤ} {d : ℕ} (law : Lawful w d) (s : Settings) (unforced : Unforced s) (A : Axis → ℤ) where
  -- records that hold these particles
  stays : {records : List ℕ} {ps : List Particle} → Ready s records ps → EachPair (MovedBy 0) ps (particles_in records)
  stays {records} {ps} ready = subst (EachPair (MovedBy 0) ps) (sym ready.holds) (pair_same (MovedBy 0) unmoved ps)

  pub run-drifts : (n : ℕ) (records : List ℕ) (ps : List Particle) (grids : Grids) → Ready s records ps → Each (Follows d (d / 256) (drift A)) ps → Ends n ps (run_by w d s n records ps grids)
  unfolding run_by
  run-drifts zero records ps grids ready follows = record { unstopped = λ is-done. refl; each = stays ready }
  run-drifts (suc n) records ps grids ready follows = go (λ qs. run-drifts n (records_of qs) qs (nodes_by w d s ps)) (step_by w d s ps) refl
    where
      go : ((qs : List Particle) → Ready s (records_of qs) qs → Each (Follows d (d / 256) (drift A)) qs → Ends n qs (run_by w d s n (records_of qs) qs (nodes_by w d s ps))) → (a : Answer (List Particle)) → step_by w d s ps ≡ a → Ends (suc n) ps (run_by w d s (suc n) records ps grids)
      go further (gives qs) e =
          let first = limits-moved law s unforced (drift A) (entries-nodes d (drift A) s.nx s.ny (drift-divides d A)) ready.limits follows e in
          let rest = further qs (ready-after w d ready e) (pair-each (Follows d (d / 256) (drift A)) (MovedBy 1) (still-drifts d A 1) ps qs follows first) in
          rw e (record {
            unstopped = λ is-done. ap suc (rest.unstopped is-done);
            each = pair_then (MovedBy 1) (MovedBy _) (MovedBy _) (then-moved _) ps qs _ first rest.each;
          })
      go further (refused k p) e = rw e (record { unstopped = λ is-done. not-result is-done; each = stays ready })

after_run : (caller : Caller) (s : Settings) → Unforced s → (A : Axis → ℤ) (records : List ℕ) → Each (Follows D 4 (drift A)) (particles_in records) → (steps : ℕ) (grids : Grids) → Ends steps (particles_in records) (run_after caller s steps records grids)
unfolding run_after
after_run caller s unforced A records follows steps grids = go (run_entry caller s steps records grids) refl
  where
    go : (a : Answer (List Particle)) → run_entry caller s steps records grids ≡ a → Ends steps (particles_in records) (run_after caller s steps records grids)
    go (gives ps) e =
        let ready = ready-run caller s records steps grids e in
        let ends = run-drifts spline-lawful s unforced A steps records ps grids ready (subst (Each (Follows D 4 (drift A))) ready.holds follows) in
        rw e (subst (λ qs. Ends steps qs (run_from s steps records ps grids)) (sym ready.holds) ends)
    go (refused n k) e = rw e (record { unstopped = λ is-done. not-result is-done; each = pair_same (MovedBy 0) unmoved (particles_in records) })

pub run-keeps-drift : RunKeepsDrift
run-keeps-drift caller s unforced A records follows steps grids told after mass x y sees =
    subst₂ (λ t bytes. Drifts steps t (particles_in records) (particles_in bytes)) (sym sees.answer) (sym sees.records)
    (after_run caller s unforced A records follows steps grids)
