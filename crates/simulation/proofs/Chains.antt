-- Completed steps one after the other.
--     Chain                each of the steps with these settings, worked from ps, is completed
--     chain-append, arrives-append
--                          two chains in a row
--     chain-keeps          the allowances of the steps add up
--     chain-each, chain-unrefused, chain-number
--                          what holds of each step, and their number
-- Assumes nothing.
use mathlib.Core.Path.{◌≡◌, refl, ap, ◌∙◌, subst}
use mathlib.Core.List.{List, [], ◌∷◌, ◌++◌}
use Prim.Native.Nat.{ℕ, suc, ◌*◌, ◌^◌}
use native.Mathlib.Omega.{arith}
use lib.ListN.{length}
use lib.IntN.{ℤ, pos, ◌+ℤ◌, ◌-ℤ◌, ◌*ℤ◌}
use Rattle.arith.specs.Order.{Within, linear, reading, ◌&◌, nothing}
use Rattle.arith.specs.Rounding.{rounded}
use Rattle.arith.specs.Sums.{Each, sum_over, total-same}
use Rattle.refusal.specs.Refused.{gives}
use Rattle.spline.specs.Spline.{axis_weight, D}
use Rattle.particle.specs.declared.Particle.{Particle}
use Rattle.apic.specs.Step.{gravity}
use Rattle.apic.specs.Totals.{total_mass, momentum, angular_momentum, torque, impulse, angular_impulse, first_moment}
use Rattle.apic.proofs.Spline.{spline-lawful}
use Rattle.settings.specs.declared.Settings.{Settings}
use Rattle.simulation.specs.Step.{stepped, step_of}
use Rattle.simulation.specs.Demand3.{worked, arrives, forcing_of, turning_of, moment_of, Keeps}
use Rattle.simulation.proofs.Steps.{Completed, kept-identifiers, kept-masses, kept-marks, kept-mass, step-linear, step-angular}

abbrev pub Chain : List Settings → List Particle → Type 0
Chain [] ps = Unit {0}
Chain (s ∷ ss) ps = Completed axis_weight D s ps × Chain ss (stepped s ps)

pub chain-append : (ss ts : List Settings) (ps : List Particle) → Chain ss ps → Chain ts (arrives ss ps) → Chain (ss ++ ts) ps
unfolding arrives
chain-append [] ts ps h k = k
chain-append (s ∷ ss) ts ps h k = (h.0, chain-append ss ts (stepped s ps) h.1 k)

pub arrives-append : (ss ts : List Settings) (ps : List Particle) → arrives (ss ++ ts) ps ≡ arrives ts (arrives ss ps)
unfolding arrives
arrives-append [] ts ps = refl
arrives-append (s ∷ ss) ts ps = arrives-append ss ts (stepped s ps)

-- ---- allowances: a quantity goes from P over Q to R, with the forcing's parts G and S

added : (A K L P Q R G S : ℤ) → A ≡ K +ℤ L → Within K (pos (2 ^ 35) *ℤ (Q -ℤ P) -ℤ pos 2 *ℤ G) → Within L (pos (2 ^ 35) *ℤ (R -ℤ Q) -ℤ pos 2 *ℤ S) → Within A (pos (2 ^ 35) *ℤ (R -ℤ P) -ℤ pos 2 *ℤ (G +ℤ S))
added A K L P Q R G S e h k = linear (A ∷ K ∷ L ∷ P ∷ Q ∷ R ∷ G ∷ S ∷ []) (e & h & k) (search reading depth 30 fits 20000) (omega arith)

none : (A P : ℤ) → A ≡ pos 0 → Within A (pos (2 ^ 35) *ℤ (P -ℤ P) -ℤ pos 2 *ℤ pos 0)
none A P e = linear (A ∷ P ∷ []) e (search reading depth 30) (omega arith)

linear-more : (n : ℕ) (m : ℤ) → pos (suc n) *ℤ (pos (257 * 2 ^ 26) *ℤ m) ≡ pos (257 * 2 ^ 26) *ℤ m +ℤ pos n *ℤ (pos (257 * 2 ^ 26) *ℤ m)
linear-more n m = linear (m ∷ []) nothing (search reading depth 30) (omega arith)

angular-more : (n : ℕ) (m f g : ℤ) → pos (suc n) *ℤ (pos (2 ^ 35) *ℤ m) +ℤ pos (257 * 2 ^ 26) *ℤ (f +ℤ g) ≡ pos (2 ^ 35) *ℤ m +ℤ pos (257 * 2 ^ 26) *ℤ f +ℤ (pos n *ℤ (pos (2 ^ 35) *ℤ m) +ℤ pos (257 * 2 ^ 26) *ℤ g)
angular-more n m f g = linear (m ∷ f ∷ g ∷ []) nothing (search reading depth 30) (omega arith)

nothing_yet : (m : ℤ) → pos 0 *ℤ (pos (257 * 2 ^ 26) *ℤ m) ≡ pos 0
nothing_yet m = linear (m ∷ []) nothing (search reading depth 30) (omega arith)

nothing-turned : (m : ℤ) → pos 0 *ℤ (pos (2 ^ 35) *ℤ m) +ℤ pos (257 * 2 ^ 26) *ℤ pos 0 ≡ pos 0
nothing-turned m = linear (m ∷ []) nothing (search reading depth 30) (omega arith)

pub chain-keeps : (ss : List Settings) (ps : List Particle) → Chain ss ps → Keeps (length ss) (worked ss ps) ps (arrives ss ps)
unfolding worked arrives
chain-keeps [] ps h =
    record {
      identifiers = refl;
      masses = refl;
      marks = refl;
      marked = refl;
      linear = λ a. none (pos 0 *ℤ (pos (257 * 2 ^ 26) *ℤ pos (total_mass ps))) (momentum a ps) (nothing_yet (pos (total_mass ps)));
      angular = none (pos 0 *ℤ (pos (2 ^ 35) *ℤ pos (total_mass ps)) +ℤ pos (257 * 2 ^ 26) *ℤ pos 0) (angular_momentum ps) (nothing-turned (pos (total_mass ps)));
    }
chain-keeps (s ∷ ss) ps h =
    let k = chain-keeps ss (stepped s ps) h.1 in
    let n = length ss in
    let m : ℤ = pos (total_mass ps) in
    let steps = worked ss (stepped s ps) in
    record {
      identifiers = k.identifiers ∙ kept-identifiers axis_weight D s ps;
      masses = k.masses ∙ kept-masses axis_weight D s ps;
      marks = k.marks ∙ kept-marks axis_weight D s ps;
      marked = k.marked ∙ total-same (λ p. p.marks) (λ n. n) (stepped s ps) ps (kept-marks axis_weight D s ps);
      linear = λ a.
          added (pos (suc n) *ℤ (pos (257 * 2 ^ 26) *ℤ m)) (pos (257 * 2 ^ 26) *ℤ m) (pos n *ℤ (pos (257 * 2 ^ 26) *ℤ m))
          (momentum a ps) (momentum a (stepped s ps)) (momentum a (arrives ss (stepped s ps)))
          (pos (2 ^ 26) *ℤ (m *ℤ gravity s a) +ℤ impulse rounded axis_weight D s a ps) (sum_over steps (forcing_of a))
          (linear-more n m) (step-linear axis_weight D s ps h.0 spline-lawful a)
          (subst (λ t. Within (pos n *ℤ (pos (257 * 2 ^ 26) *ℤ pos t)) (pos (2 ^ 35) *ℤ (momentum a (arrives ss (stepped s ps)) -ℤ momentum a (stepped s ps)) -ℤ pos 2 *ℤ sum_over steps (forcing_of a))) (kept-mass axis_weight D s ps) (k.linear a));
      angular =
          added (pos (suc n) *ℤ (pos (2 ^ 35) *ℤ m) +ℤ pos (257 * 2 ^ 26) *ℤ (first_moment ps +ℤ sum_over steps moment_of)) (pos (2 ^ 35) *ℤ m +ℤ pos (257 * 2 ^ 26) *ℤ first_moment ps) (pos n *ℤ (pos (2 ^ 35) *ℤ m) +ℤ pos (257 * 2 ^ 26) *ℤ sum_over steps moment_of)
          (angular_momentum ps) (angular_momentum (stepped s ps)) (angular_momentum (arrives ss (stepped s ps)))
          (pos (2 ^ 26) *ℤ torque s.gx s.gy ps +ℤ angular_impulse rounded axis_weight D s ps) (sum_over steps turning_of)
          (angular-more n m (first_moment ps) (sum_over steps moment_of)) (step-angular axis_weight D s ps h.0 spline-lawful)
          (subst (λ t. Within (pos n *ℤ (pos (2 ^ 35) *ℤ pos t) +ℤ pos (257 * 2 ^ 26) *ℤ sum_over steps moment_of) (pos (2 ^ 35) *ℤ (angular_momentum (arrives ss (stepped s ps)) -ℤ angular_momentum (stepped s ps)) -ℤ pos 2 *ℤ sum_over steps turning_of)) (kept-mass axis_weight D s ps) k.angular);
    }

-- ---- each step

pub chain-each : (ss : List Settings) (ps : List Particle) → Chain ss ps → Each (λ c. Keeps 1 (c ∷ []) c.before c.after) (worked ss ps)
unfolding worked arrives
chain-each [] ps h = tt
chain-each (s ∷ ss) ps h = (chain-keeps (s ∷ []) ps (h.0, tt), chain-each ss (stepped s ps) h.1)

pub chain-unrefused : (ss : List Settings) (ps : List Particle) → Chain ss ps → Each (λ c. step_of c.settings c.before ≡ gives c.after) (worked ss ps)
unfolding worked
chain-unrefused [] ps h = tt
chain-unrefused (s ∷ ss) ps h = (h.0.unrefused, chain-unrefused ss (stepped s ps) h.1)

pub chain-number : (ss : List Settings) (ps : List Particle) → length (worked ss ps) ≡ length ss
unfolding worked
chain-number [] ps = refl
chain-number (s ∷ ss) ps = ap suc (chain-number ss (stepped s ps))
