-- What can refuse a step once its set is accepted: 13, 14 and 15, and nothing else. Then a run ends as document 01 says.
--     grid-limits        the masses and momenta after the scatter keep every limit of the update
--     update-done        so the update refuses no node
--     velocity-limits    and no updated velocity breaks the gather's limit, 12
--     step-refused       a step is refused for 13, 14 or 15, at one of its records
--     run_ends           a run completes the steps wanted, or the next one is refused
-- Assumes nothing.
use mathlib.Core.Path.{◌≡◌, refl, sym, ap, ◌∙◌, subst}
use mathlib.Core.Bool.{Bool, true, false, ◌||◌}
use mathlib.Core.List.{List, [], ◌∷◌, map}
use mathlib.Core.Logic.{◌⊎◌, inl, inr, ⊎_elim}
use Prim.Native.Nat.{ℕ, zero, suc, ◌+◌, ◌*◌, ◌/◌, ◌%◌, ◌≤◌, ◌<◌}
use native.Mathlib.Omega.{arith}
use lib.ListN.{length, get_or, replicate}
use lib.IntN.{ℤ, pos, nat_abs}
use lib.Signed.{◌≤ℤ◌}
use Rattle.arith.specs.Order.{nonneg_pos, pos-cancel}
use Rattle.arith.specs.Indices.{column-below, line-below}
use Rattle.arith.specs.Rounding.{rounded}
use Rattle.arith.proofs.Rounding.{rounded-error}
use Rattle.arith.specs.Sums.{Each, up_to, each-up_to}
use Rattle.refusal.specs.Refused.{Answer, gives, refused, refuse_if, done}
use Rattle.refusal.proofs.Answers.{not-refused}
use Rattle.limits.specs.Limits.{most_velocity, most_affine, most_node_mass, most_node_velocity, most_side_of}
use Rattle.spline.specs.Spline.{axis_weight, D}
use Rattle.particle.specs.declared.Particle.{Particle}
use Rattle.particles.specs.Set.{records_of, valid_size}
use Rattle.apic.specs.Step.{Axis, along_x, along_y, gravity, new_coordinate, node_mass, Grids}
use Rattle.apic.specs.Limits.{SetLimits}
use Rattle.apic.proofs.Bounds as bounds
use Rattle.apic.proofs.Bounds.{limited-set, node-limits}
use Rattle.apic.proofs.Kernel.{Lawful, lawful-gravity, lawful-updated}
use Rattle.apic.proofs.Spline.{spline-lawful}
use Rattle.arith.specs.Lists.{length-tabulated}
use Rattle.limits.specs.declared.Caller.{Caller}
use Rattle.gathering.specs.Gather.{beyond, off_axis, move_check, move_checks, NodeVelocities}
use Rattle.update.specs.Update.{velocity_of, update_answer}
use Rattle.update.specs.Internal.{GridLimits}
use Rattle.update.proofs.Answers.{update-accepts}
use Rattle.settings.specs.declared.Settings.{Settings}
use Rattle.settings.specs.Settings.{ForceLimits}
use Rattle.simulation.specs.Step.{masses_by, momenta_by, velocities_by, move_by, stepped_by, step_by, masses, momenta, stepped, step_of, nodes_of}
use Rattle.simulation.specs.Run.{Completion, run_by, run_from}
use Rattle.simulation.specs.Demand3.{arrives}
use Rattle.simulation.proofs.Fields.{updated_field, mass-at, momentum-at, velocity-grid}
use Rattle.simulation.proofs.Steps.{step-result}

-- ---- the update

inside : (k nx ny : ℕ) → k < nx * ny → (k % nx < nx) × (k / nx < ny)
inside k zero ny h = absurd (none k ny h)
  where
    none : (k ny : ℕ) → k < zero * ny → ⊥
    none k ny h = omega arith
inside k (suc n) ny h =
    let some : 0 < suc n = omega arith in
    (column-below (suc n) some k, line-below (suc n) some ny k h)

module _ {w : ℕ → ℕ → ℤ} {D : ℕ} (law : Lawful w D) (s : Settings) (ps : List Particle) (limits : SetLimits s.nx s.ny ps) (forces : ForceLimits s) where
  updated-most : (a : Axis) (i j : ℕ) → nat_abs (updated_field w D s a ps i j) ≤ most_node_velocity
  updated-most a i j =
      lawful-updated law rounded rounded-error s ps (limited-set limits) forces a i j

  node_at : (k : ℕ) → k < s.nx * s.ny → bounds.NodeLimits w D ps (k % s.nx) (k / s.nx)
  node_at k h =
      let c = inside k s.nx s.ny h in
      node-limits w law.near D s.nx s.ny ps (law.placed s.nx s.ny ps limits.each) (limited-set limits) (k % s.nx) (k / s.nx) c.0 c.1

  module _ (k : ℕ) (h : k < s.nx * s.ny) where
    mass-is : node_mass w ps (k % s.nx) (k / s.nx) ≡ pos (get_or (masses_by w s ps) k 0)
    mass-is = nonneg_pos (node_at k h).mass-least ∙ ap pos (sym (mass-at w D s ps k h))

    mass-most : get_or (masses_by w s ps) k 0 ≤ most_node_mass
    mass-most = pos-cancel (subst (λ z. z ≤ℤ pos most_node_mass) mass-is (node_at k h).mass-most)

    no-momentum : (a : Axis) → get_or (masses_by w s ps) k 0 ≡ 0 → get_or (momenta_by w D s a ps) k (pos 0) ≡ pos 0
    no-momentum a e = momentum-at w D s ps a k h ∙ (node_at k h).no-momentum a (mass-is ∙ ap pos e)

    velocity-most : (a : Axis) → nat_abs (velocity_of D (gravity s a) (get_or (masses_by w s ps) k 0) (get_or (momenta_by w D s a ps) k (pos 0))) ≤ most_node_velocity
    velocity-most a =
        rw (mass-at w D s ps k h, momentum-at w D s ps a k h) (lawful-gravity law rounded rounded-error s ps (limited-set limits) forces a (k % s.nx) (k / s.nx))

  pub grid-limits : GridLimits D s (masses_by w s ps) (momenta_by w D s along_x ps) (momenta_by w D s along_y ps)
  unfolding masses_by momenta_by
  grid-limits =
      record {
        sizes = limits.sizes;
        forces = forces;
        within =
            record {
              spread = law.spread;
              mass-length = length-tabulated _ (s.nx * s.ny);
              px-length = length-tabulated _ (s.nx * s.ny);
              py-length = length-tabulated _ (s.nx * s.ny);
              gravity-x = forces.gravity-x;
              gravity-y = forces.gravity-y;
              nodes = λ k h.
                  record {
                    mass = mass-most k h;
                    massless-x = no-momentum k h along_x;
                    massless-y = no-momentum k h along_y;
                    vx = velocity-most k h along_x;
                    vy = velocity-most k h along_y;
                  };
            };
      }

  pub velocity-limits : (a : Axis) → NodeVelocities s.nx s.ny (velocities_by w D s a ps)
  velocity-limits a =
      subst (NodeVelocities s.nx s.ny) (sym (velocity-grid w D s ps a))
      (record {
        count = length-tabulated _ (s.nx * s.ny);
        each = each-image _ _ (up_to (s.nx * s.ny)) (each-up_to _ (s.nx * s.ny) (λ k h. updated-most a (k % s.nx) (k / s.nx)));
      })
    where
      each-image : {A B : Type 0} (P : B → Type 0) (f : A → B) (xs : List A) → Each (λ x. P (f x)) xs → Each P (map f xs)
      each-image P f [] e = tt
      each-image P f (x ∷ xs) e = (e.0, each-image P f xs e.1)

-- with the spline's weights
pub update-done : (caller : Caller) (s : Settings) (ps : List Particle) → valid_size (most_side_of caller) s.nx s.ny ≡ true → SetLimits s.nx s.ny ps → ForceLimits s → update_answer caller s (masses s ps) (momenta s along_x ps) (momenta s along_y ps) ≡ done
update-done caller s ps size limits forces =
    update-accepts caller s (masses s ps) (momenta s along_x ps) (momenta s along_y ps) size (grid-limits spline-lawful s ps limits forces)

-- ---- the step

-- 13, 14 or 15, at one of so many records
pub record MoveRefusal (count n k : ℕ) : Type 0 where
  pub least : 13 ≤ n
  pub most : n ≤ 15
  pub place : k < count

refused-for : {A : Type 0} (b : Bool) (m j : ℕ) (rest : Answer A) {n k : ℕ} → refuse_if b m j rest ≡ refused n k → ((n ≡ m) × (k ≡ j)) ⊎ (rest ≡ refused n k)
refused-for true m j rest e = inl (cc, cc)
refused-for false m j rest e = inr e

move-refused : {A : Type 0} (nx ny : ℕ) (p q : Particle) (j : ℕ) (rest : Answer A) {n k : ℕ} → move_check nx ny p q j rest ≡ refused n k → ((13 ≤ n) × (n ≤ 15) × (k ≡ j)) ⊎ (rest ≡ refused n k)
unfolding move_check
move-refused nx ny p q j rest {n} {k} e =
    ⊎_elim (λ h. inl (at h.0 h.1 (omega arith) (omega arith)))
    (λ e. ⊎_elim (λ h. inl (at h.0 h.1 (omega arith) (omega arith)))
    (λ e. ⊎_elim (λ h. inl (at h.0 h.1 (omega arith) (omega arith))) inr
    (refused-for (off_axis nx (new_coordinate along_x p q.vx) || off_axis ny (new_coordinate along_y p q.vy)) 15 j rest e))
    (refused-for ((beyond most_affine q.bxx || beyond most_affine q.bxy) || (beyond most_affine q.byx || beyond most_affine q.byy)) 14 j _ e))
    (refused-for (beyond most_velocity q.vx || beyond most_velocity q.vy) 13 j _ e)
  where
    at : {m : ℕ} → n ≡ m → k ≡ j → 13 ≤ m → m ≤ 15 → (13 ≤ n) × (n ≤ 15) × (k ≡ j)
    at {m} e f l u = (omega arith, omega arith, f)

moves-refused : {A : Type 0} (nx ny : ℕ) (move : Particle → Particle) (j : ℕ) (ps : List Particle) (a : A) {n k : ℕ} → move_checks nx ny move j ps (gives a) ≡ refused n k → MoveRefusal (j + length ps) n k
unfolding move_checks
moves-refused nx ny move j [] a e = not-refused e
moves-refused nx ny move j (p ∷ ps) a {n} {k} e =
    ⊎_elim (λ h. first h.0 h.1 h.2) (λ e. later (moves-refused nx ny move (suc j) ps a e))
    (move-refused nx ny p (move p) j (move_checks nx ny move (suc j) ps (gives a)) e)
  where
    first : 13 ≤ n → n ≤ 15 → k ≡ j → MoveRefusal (j + length (p ∷ ps)) n k
    first l u f = record { least = l; most = u; place = omega arith }

    later : MoveRefusal (suc j + length ps) n k → MoveRefusal (j + length (p ∷ ps)) n k
    later h = record { least = h.least; most = h.most; place = omega (arith, h.place) }

pub step-refused : (w : ℕ → ℕ → ℤ) (D : ℕ) (s : Settings) (ps : List Particle) {n k : ℕ} → step_by w D s ps ≡ refused n k → MoveRefusal (length ps) n k
unfolding step_by
step-refused w D s ps {n} {k} e =
    let h = moves-refused s.nx s.ny (move_by w D s ps) 0 ps (stepped_by w D s ps) e in
    record { least = h.least; most = h.most; place = omega (arith, h.place) }

-- ---- the run

-- the step after so many completed ones is refused
pub record Stops (s : Settings) (wanted : ℕ) (ps : List Particle) (r : Completion) : Type 0 where
  pub number : ℕ
  pub place : ℕ
  pub fewer : r.completed < wanted
  pub stopped : r.stop ≡ refused number place
  pub refuses : step_of s (arrives (replicate r.completed s) ps) ≡ refused number place

abbrev pub Ends : Settings → ℕ → List Particle → Completion → Type 0
Ends s wanted ps r = ((r.completed ≡ wanted) × (r.stop ≡ done)) ⊎ Stops s wanted ps r

one_more : (s : Settings) (n : ℕ) (ps : List Particle) (r : Completion) → Ends s n (stepped s ps) r → Ends s (suc n) ps (record { completed = suc r.completed; stop = r.stop })
unfolding arrives
one_more s n ps r (inl h) = inl (ap suc h.0, h.1)
one_more s n ps r (inr h) =
    inr (record { number = h.number; place = h.place; fewer = omega (arith, h.fewer); stopped = h.stopped; refuses = h.refuses })

pub run_ends : (s : Settings) (n : ℕ) (records : List ℕ) (ps : List Particle) (grids : Grids) → Ends s n ps (run_from s n records ps grids).answer
unfolding run_by arrives
run_ends s zero records ps grids = inl (refl, refl)
run_ends s (suc n) records ps grids = go (λ qs. run_ends s n (records_of qs) qs (nodes_of s ps)) (step_of s ps) refl
  where
    go : ((qs : List Particle) → Ends s n qs (run_from s n (records_of qs) qs (nodes_of s ps)).answer) → (a : Answer (List Particle)) → step_of s ps ≡ a → Ends s (suc n) ps (run_from s (suc n) records ps grids).answer
    go further (gives qs) e =
        rw e
        (one_more s n ps (run_from s n (records_of qs) qs (nodes_of s ps)).answer
        (subst (λ l. Ends s n l (run_from s n (records_of qs) qs (nodes_of s ps)).answer) (sym (step-result axis_weight D s ps e).1) (further qs)))
    go further (refused k p) e = rw e (inr (record { number = k; place = p; fewer = omega arith; stopped = refl; refuses = e }))
