-- A run, turn by turn, and from records to records.
--     RunningFrom, Running     the loop's invariant: what remains to be done from here, added to what is done, is the whole run
--     running-stop, running-next, running-end
--                              a stop, a step and its end
--     repeat-ready, settle-ready, run-seen, built-in-run
--                              from records to numbers and back
-- Assumes nothing.
use Rattle.std.proofs.Common.{Result, Ok, Err}
use mathlib.Core.Path.{◌≡◌, refl, sym, ap, ap₂, subst, ◌∙◌}
use mathlib.Core.List.{List}
use Prim.Native.Nat.{ℕ, suc, ◌+◌, ◌-◌, ◌*◌, ◌/◌, ◌<◌}
use native.Mathlib.Nat.{add-zero, add-suc, suc-add}
use native.Mathlib.Numerals.{add-one}
use native.Mathlib.Omega.{arith}
use lib.ListN.{length, length-map}
use lib.IntN.{ℤ}
use Rattle.refusal.specs.Refused.{Answer, gives, refused, refused_by, either, done}
use Rattle.refusal.specs.declared.Refusal.{Refusal}
use Rattle.limits.specs.declared.Caller.TheVariants.{Bench}
use Rattle.spline.specs.Kernel.{weight_in, Kernel, BuiltIn}
use Rattle.spline.proofs.Spline.{built-in-weights}
use Rattle.particle.specs.Layout.{record_length}
use Rattle.particle.specs.declared.Particle.{Particle}
use Rattle.apic.specs.Step.{along_x, along_y, Grids, grids_of}
use Rattle.apic.proofs.Kernel.{kernel-lawful}
use Rattle.particles.specs.Set.{record_count, records_of, particles_in}
use Rattle.particles.proofs.Checks.{entered, length-limits}
use Rattle.unpacked.specs.Unpacked.{per_particle, unpacked, Holds}
use Rattle.unpacked.proofs.Laws.{numbers-count}
use Rattle.packing.specs.Packing.{labels}
use Rattle.unpacking.proofs.Sets.{unpacked-accepted}
use Rattle.settings.specs.declared.Settings.{Settings}
use Rattle.simulation.specs.declared.Stop.{Stop}
use Rattle.simulation.specs.Step.{After, seen, nodes_by, stepped_by, step_by}
use Rattle.simulation.specs.Run.{Completion, after_one, run_by, run_from, told_ran}
use Rattle.simulation.specs.Internal.{StepReady, StepLeaves, Turns, RepeatsFrom, Repeats, Settles, RunReady, told_gathered_to, current, other, records_after, completed_by}
use Rattle.simulation.proofs.Steps.{completed, limits-after, kept-labels}
use Rattle.simulation.proofs.Refusals.{grid-limits, velocity-limits}
use Rattle.simulation.proofs.Turns.{swap, current-length, Home}

-- ---- one step of the definition

-- k completed steps before r
abbrev plus : ℕ → After Completion → After Completion
plus k r = seen (record { completed = k + r.answer.completed; stop = r.answer.stop }) r.records r.grids

module _ (w : ℕ → ℕ → ℤ) (D : ℕ) (s : Settings) (m : ℕ) (records : List ℕ) (ps : List Particle) (grids : Grids) where
  abbrev by : Answer (List Particle) → After Completion
  by a =
      either a (λ qs. after_one (run_by w D s m (records_of qs) qs (nodes_by w D s ps)))
      (λ k p. seen (record { completed = 0; stop = refused k p }) records (nodes_by w D s ps))

  run_on : {qs : List Particle} → step_by w D s ps ≡ gives qs → run_by w D s (suc m) records ps grids ≡ after_one (run_by w D s m (records_of qs) qs (nodes_by w D s ps))
  unfolding run_by
  run_on e = ap by e

  run-stops : {n k : ℕ} → step_by w D s ps ≡ refused n k → run_by w D s (suc m) records ps grids ≡ seen (record { completed = 0; stop = refused n k }) records (nodes_by w D s ps)
  unfolding run_by
  run-stops e = ap by e

run_none : (w : ℕ → ℕ → ℤ) (D : ℕ) (s : Settings) (records : List ℕ) (ps : List Particle) (grids : Grids) → run_by w D s 0 records ps grids ≡ seen (record { completed = 0; stop = done }) records grids
unfolding run_by
run_none w D s records ps grids = refl

-- ---- the loop

-- from the particles ps: those that the array holds now, with their labels
pub record RunningFrom (w : ℕ → ℕ → ℤ) (D : ℕ) (s : Settings) (steps : ℕ) (ps : List Particle) (grids : Grids) (k : ℕ) (mass : List ℕ) (px py a b : List ℤ) : Type 0 where
  pub particles : List Particle
  pub holds : Holds s.nx s.ny (current k a b) particles
  pub labelled : labels particles ≡ labels ps
  pub is : (records : List ℕ) → plus k (run_by w D s (steps - k) (records_after records k particles) particles (grids_of mass px py)) ≡ run_by w D s steps records ps grids

-- from whichever particles the source holds
pub record Running (s : Settings) (steps : ℕ) (weights : List (List ℕ)) (d : ℕ) (source : List ℤ) (grids : Grids) (k : ℕ) (mass : List ℕ) (px py a b : List ℤ) : Type 0 where
  pub ready : StepReady s (current k a b) weights d mass px py (other k a b)
  pub from : (ps : List Particle) → Holds s.nx s.ny source ps → RunningFrom (weight_in weights) d s steps ps grids k mass px py a b

-- a completed step from the particles that the array holds
module _ {w : ℕ → ℕ → ℤ} {D : ℕ} {s : Settings} {k : ℕ} {a b a' b' : List ℤ} {r : Result Unit Refusal} {mass' : List ℕ} {px' py' : List ℤ} (t : Turns w D s k a b r mass' px' py' a' b') (c : r ≡ Ok tt) {qs : List Particle} (holds : Holds s.nx s.ny (current k a b) qs) where
  passed : step_by w D s qs ≡ gives (stepped_by w D s qs)
  passed = sym (t.step qs holds).answer ∙ ap (λ x. told_gathered_to x (stepped_by w D s qs)) c

  next-holds : Holds s.nx s.ny (current (suc k) a' b') (stepped_by w D s qs)
  next-holds =
      record {
        is = swap k a' b' ∙ (t.step qs holds).moved c;
        limits = limits-after w D s qs (completed w D s qs holds.limits passed);
      }

module _ {w : ℕ → ℕ → ℤ} {D : ℕ} {s : Settings} {steps : ℕ} {grids : Grids} {k : ℕ} {mass : List ℕ} {px py a b : List ℤ} where
  -- a step of the run from the particles ps
  module _ (less : k < steps) {ps : List Particle} (h : RunningFrom w D s steps ps grids k mass px py a b) {r : Result Unit Refusal} {mass' : List ℕ} {px' py' a' b' : List ℤ} (t : Turns w D s k a b r mass' px' py' a' b') where
    abbrev here : List Particle
    here = h.particles

    leaves : StepLeaves w D s h.particles r mass' px' py' (other k a' b')
    leaves = t.step h.particles h.holds

    -- the rest of the run from here
    abbrev rest : List ℕ → After Completion
    rest records = run_by w D s (suc (steps - suc k)) (records_after records k here) here (grids_of mass px py)

    left : steps - k ≡ suc (steps - suc k)
    left = omega arith

    whole : (records : List ℕ) → plus k (rest records) ≡ run_by w D s steps records ps grids
    whole records = ap (λ n. plus k (run_by w D s n (records_after records k here) here (grids_of mass px py))) (sym left) ∙ h.is records

    stop-from : {e : Refusal} → r ≡ Err e → RepeatsFrom w D s steps ps grids (Err (record { completed = k; refusal = e })) mass' px' py' a' b'
    stop-from {e} c =
        record {
          particles = here;
          holds = subst (λ l. Holds s.nx s.ny l here) (sym t.kept) h.holds;
          labelled = h.labelled;
          is = λ records.
              sym (
              sym (whole records)
              ∙ ap (plus k) (run-stops w D s (steps - suc k) (records_after records k here) here (grids_of mass px py) (sym leaves.answer ∙ ap (λ x. told_gathered_to x (stepped_by w D s here)) c))
              ∙ ap₂ (λ n g. seen (record { completed = n; stop = refused_by e }) (records_after records k here) g) (add-zero k) (sym leaves.grids)
              );
        }

    module _ (c : r ≡ Ok tt) where
      one_more : (r : After Completion) → plus (suc k) r ≡ plus k (after_one r)
      one_more r =
          ap (λ n. seen (record { completed = n; stop = r.answer.stop }) r.records r.grids) (suc-add k r.answer.completed ∙ sym (add-suc k r.answer.completed))

      next-from : RunningFrom w D s steps ps grids (suc k) mass' px' py' a' b'
      next-from =
          record {
            particles = stepped_by w D s here;
            holds = next-holds t c h.holds;
            labelled = kept-labels w D s here ∙ h.labelled;
            is = λ records.
                ap (λ g. plus (suc k) (run_by w D s (steps - suc k) (records_of (stepped_by w D s here)) (stepped_by w D s here) g)) leaves.grids
                ∙ one_more (run_by w D s (steps - suc k) (records_of (stepped_by w D s here)) (stepped_by w D s here) (nodes_by w D s here))
                ∙ ap (plus k) (sym (run_on w D s (steps - suc k) (records_after records k here) here (grids_of mass px py) (passed t c h.holds)))
                ∙ whole records;
          }

  end-from : {ps : List Particle} → RunningFrom w D s steps ps grids k mass px py a b → k ≡ steps → RepeatsFrom w D s steps ps grids (Ok k) mass px py a b
  end-from {ps} h e =
      record {
        particles = h.particles;
        holds = h.holds;
        labelled = h.labelled;
        is = λ records.
            sym (
            sym (h.is records)
            ∙ ap (λ n. plus k (run_by w D s n (records_after records k h.particles) h.particles (grids_of mass px py))) none
            ∙ ap (plus k) (run_none w D s (records_after records k h.particles) h.particles (grids_of mass px py))
            ∙ ap (λ n. seen (record { completed = n; stop = done }) (records_after records k h.particles) (grids_of mass px py)) (add-zero k)
            );
      }
    where
      none : steps - k ≡ 0
      none = omega arith

module _ {s : Settings} {steps : ℕ} {weights : List (List ℕ)} {d : ℕ} {source : List ℤ} {grids : Grids} {k : ℕ} {mass : List ℕ} {px py a b : List ℤ} (h : Running s steps weights d source grids k mass px py a b) where
  module _ (less : k < steps) {r : Result Unit Refusal} {mass' : List ℕ} {px' py' a' b' : List ℤ} (t : Turns (weight_in weights) d s k a b r mass' px' py' a' b') where
    pub running-stop : {e : Refusal} → r ≡ Err e → Repeats (weight_in weights) d s steps source grids (Err (record { completed = k; refusal = e })) mass' px' py' a' b'
    running-stop c ps holds = stop-from less (h.from ps holds) t c

    module _ (c : r ≡ Ok tt) where
      -- some particles that the array holds
      abbrev some : List Particle
      some = h.ready.set.particles

      abbrev held : Holds s.nx s.ny (current k a b) some
      held = h.ready.set.holds

      grids-are : grids_of mass' px' py' ≡ nodes_by (weight_in weights) d s some
      grids-are = (t.step some held).grids

      same_length : length (stepped_by (weight_in weights) d s some) ≡ length some
      unfolding stepped_by
      same_length = length-map some _

      room : length (other (suc k) a' b') ≡ length (current (suc k) a' b')
      room =
          ap length (swap k b' a' ∙ t.kept) ∙ numbers-count held ∙ ap (λ n. per_particle * n) (sym same_length)
          ∙ sym (numbers-count (next-holds t c held))

      next-ready : StepReady s (current (suc k) a' b') weights d mass' px' py' (other (suc k) a' b')
      next-ready =
          record {
            set = record { particles = stepped_by (weight_in weights) d s some; holds = next-holds t c held };
            forces = h.ready.forces;
            kernel = h.ready.kernel;
            mass-long = ap (λ g. length g.mass) grids-are ∙ (grid-limits (kernel-lawful h.ready.kernel) s some held.limits h.ready.forces).within.mass-length;
            px-long = ap (λ g. length g.x) grids-are ∙ (velocity-limits (kernel-lawful h.ready.kernel) s some held.limits h.ready.forces along_x).count;
            py-long = ap (λ g. length g.y) grids-are ∙ (velocity-limits (kernel-lawful h.ready.kernel) s some held.limits h.ready.forces along_y).count;
            room = room;
          }

      running-suc : Running s steps weights d source grids (suc k) mass' px' py' a' b'
      running-suc = record { ready = next-ready; from = λ ps holds. next-from less (h.from ps holds) t c }

      pub running-next : Running s steps weights d source grids (k + 1) mass' px' py' a' b'
      running-next = subst (λ n. Running s steps weights d source grids n mass' px' py' a' b') (sym (add-one k)) running-suc

  pub running-end : k ≡ steps → Repeats (weight_in weights) d s steps source grids (Ok steps) mass px py a b
  running-end e ps holds = subst (λ n. RepeatsFrom (weight_in weights) d s steps ps grids (Ok n) mass px py a b) e (end-from (h.from ps holds) e)

-- ---- from records to numbers and back

module _ {s : Settings} {records mass : List ℕ} {px py : List ℤ} (ready : RunReady s records mass px py) where
  bytes : length records ≡ record_length * record_count records
  bytes = sym (length-limits (length records) (entered Bench s.nx s.ny records ready.set).whole).whole

  module _ {a : List ℤ} (e : a ≡ unpacked (particles_in records)) where
    holds : Holds s.nx s.ny a (particles_in records)
    holds = subst (λ l. Holds s.nx s.ny l (particles_in records)) (sym e) (unpacked-accepted s.nx s.ny records ready.set)

    pub repeat-ready : {weights : List (List ℕ)} {d : ℕ} {b : List ℤ} → Kernel weights d → length b ≡ length a → StepReady s a weights d mass px py b
    repeat-ready w r =
        record {
          set = record { particles = particles_in records; holds = holds };
          forces = ready.forces;
          kernel = w;
          mass-long = ready.mass-long;
          px-long = ready.px-long;
          py-long = ready.py-long;
          room = r;
        }

    module _ {w : ℕ → ℕ → ℤ} {D steps : ℕ} {r : Result ℕ Stop} {mass' : List ℕ} {px' py' a' b' : List ℤ} (t : Repeats w D s steps a (grids_of mass px py) r mass' px' py' a' b') {k : ℕ} (same : k ≡ completed_by r) where
      after : RepeatsFrom w D s steps (particles_in records) (grids_of mass px py) r mass' px' py' a' b'
      after = t (particles_in records) holds

      held_then : Holds s.nx s.ny (current k a' b') after.particles
      held_then = subst (λ n. Holds s.nx s.ny (current n a' b') after.particles) (sym same) after.holds

      pub settle-ready : length a' ≡ per_particle * record_count records → length b' ≡ per_particle * record_count records → Home records (current k a' b')
      settle-ready la lb = (
        record { nx = s.nx; ny = s.ny; set = record { particles = after.particles; holds = held_then } },
        bytes ∙ ap (λ n. record_length * n) (many (record_count records) (length (current k a' b')) (current-length k a' b' la lb)),
      )
        where
          many : (n l : ℕ) → l ≡ per_particle * n → n ≡ l / per_particle
          many n l f = omega arith

      pub run-seen : {records' : List ℕ} → Settles k (current k a' b') records records' → seen (told_ran r) records' (grids_of mass' px' py') ≡ run_by w D s steps records (particles_in records) (grids_of mass px py)
      run-seen settles =
          ap (λ l. seen (told_ran r) l (grids_of mass' px' py')) (settles after.particles held_then.is after.labelled ∙ ap (λ n. records_after records n after.particles) same)
          ∙ after.is records

-- with the spline's table and its D
pub built-in-run : {weights : List (List ℕ)} {d : ℕ} → BuiltIn weights d → (s : Settings) (steps : ℕ) (records : List ℕ) (ps : List Particle) (grids : Grids) → run_by (weight_in weights) d s steps records ps grids ≡ run_from s steps records ps grids
built-in-run b s steps records ps grids = ap₂ (λ w d. run_by w d s steps records ps grids) (built-in-weights b) b.D-is
