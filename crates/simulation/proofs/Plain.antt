-- Demand 3 with open edges and no drag.
--     all_plain         the completed steps of calls with such settings have them
--     no-forcing        then drag and rim give no impulse
--     plain-keeps       and what is kept is what document 01 says
--     plain-demand-3    the corollary
-- Assumes nothing.
use mathlib.Core.Path.{◌≡◌, ap, ap₂, ◌∙◌}
use mathlib.Core.List.{List, [], ◌∷◌}
use Prim.Native.Nat.{ℕ, zero, suc, ◌*◌, ◌^◌}
use native.Mathlib.Omega.{arith}
use lib.ListN.{replicate}
use lib.IntN.{ℤ, pos, ◌+ℤ◌, ◌-ℤ◌, ◌*ℤ◌}
use Rattle.arith.specs.Order.{Within, linear, reading, ◌&◌, nothing}
use Rattle.arith.specs.Solver.{ring, quote}
use Rattle.arith.specs.Rounding.{rounded}
use Rattle.arith.proofs.Rounding.{rounded-error}
use Rattle.arith.specs.Lists.{each_append}
use Rattle.arith.specs.Sums.{Each, sum_over, sum-cong-each, sum-scale}
use Rattle.spline.specs.Spline.{axis_weight, D}
use Rattle.particle.specs.declared.Particle.{Particle}
use Rattle.particles.specs.Set.{particles_in}
use Rattle.apic.specs.Step.{Axis, along_x, along_y, node_mass}
use Rattle.apic.specs.Totals.{total_mass, momentum, angular_momentum, node_change, impulse, angular_impulse}
use Rattle.apic.proofs.Nodes.{nodes-zero}
use Rattle.apic.proofs.Edges.{plain-change}
use Rattle.settings.specs.declared.Settings.{Settings}
use Rattle.settings.specs.Settings.{Plain}
use Rattle.simulation.specs.Step.{stepped}
use Rattle.simulation.specs.Demand3.{Call, settings_of, leaves, completes, leaves_all, completes_all, settings_all, completed_steps, CompletedStep, worked, share_of, torque_of, forcing_of, turning_of, moment_of, Keeps}
use Rattle.simulation.specs.PlainDemand3.{PlainKeeps, PlainDemand3}
use Rattle.simulation.proofs.Conserved.{demand-3}

-- ---- the completed steps

each-replicate : {A : Type 0} (P : A → Type 0) (n : ℕ) (x : A) → P x → Each P (replicate n x)
each-replicate P zero x h = tt
each-replicate P (suc n) x h = (h, each-replicate P n x h)

plain-settings : (calls : List Call) (records : List ℕ) → Each (λ c. Plain (settings_of c)) calls → Each Plain (settings_all calls records)
unfolding settings_all
plain-settings [] records h = tt
plain-settings (c ∷ cs) records h =
    each_append Plain (replicate (completes c records) (settings_of c)) (settings_all cs (leaves c records))
    (each-replicate Plain (completes c records) (settings_of c) h.0)
    (plain-settings cs (leaves c records) h.1)

all_plain : (ss : List Settings) (ps : List Particle) → Each Plain ss → Each (λ c. Plain c.settings) (worked ss ps)
unfolding worked
all_plain [] ps h = tt
all_plain (s ∷ ss) ps h = (h.0, all_plain ss (stepped s ps) h.1)

-- ---- drag and rim give nothing

module _ (c : CompletedStep) (plain : Plain c.settings) where
  still : (a : Axis) (i j : ℕ) → node_change rounded axis_weight D c.settings a c.before i j ≡ pos 0
  still a i j = plain-change rounded rounded-error D c.settings plain axis_weight a c.before i j

  no-impulse : (a : Axis) → impulse rounded axis_weight D c.settings a c.before ≡ pos 0
  no-impulse a =
      nodes-zero c.settings.nx c.settings.ny _
      (λ i j. ap (λ u. node_mass axis_weight c.before i j *ℤ u) (still a i j) ∙ times_zero (node_mass axis_weight c.before i j))
    where
      times_zero : (M : ℤ) → M *ℤ pos 0 ≡ pos 0
      times_zero M = linear (M ∷ []) nothing (search reading depth 30) (omega arith)

  no-angular-impulse : angular_impulse rounded axis_weight D c.settings c.before ≡ pos 0
  no-angular-impulse =
      nodes-zero c.settings.nx c.settings.ny _
      (λ i j. ap₂ (λ u v. node_mass axis_weight c.before i j *ℤ (pos (64 * i) *ℤ v -ℤ pos (64 * j) *ℤ u)) (still along_x i j) (still along_y i j) ∙ times_zero (node_mass axis_weight c.before i j) (pos (64 * i)) (pos (64 * j)))
    where
      times_zero : (M X Y : ℤ) → M *ℤ (X *ℤ pos 0 -ℤ Y *ℤ pos 0) ≡ pos 0
      times_zero M X Y = ring (M ∷ X ∷ Y ∷ []) (search quote depth 30) (search quote depth 30) tt

-- a sum of such steps, in units of 2^−8
module _ (share forcing : CompletedStep → ℤ) (alone : (c : CompletedStep) → Plain c.settings → forcing c ≡ pos (2 ^ 26) *ℤ share c) where
  no-forcing : (steps : List CompletedStep) → Each (λ c. Plain c.settings) steps → sum_over steps forcing ≡ pos (2 ^ 26) *ℤ sum_over steps share
  no-forcing steps h =
      sum-cong-each (λ c. Plain c.settings) forcing (λ c. pos (2 ^ 26) *ℤ share c) alone steps h ∙ sum-scale (pos (2 ^ 26)) share steps

nothing-more : (S I : ℤ) → I ≡ pos 0 → S +ℤ I ≡ S
nothing-more S I e = linear (S ∷ I ∷ []) e (search reading depth 30) (omega arith)

reduced : (A K P P' F G : ℤ) → A ≡ pos (2 ^ 26) *ℤ K → F ≡ pos (2 ^ 26) *ℤ G → Within A (pos (2 ^ 35) *ℤ (P' -ℤ P) -ℤ pos 2 *ℤ F) → Within K (pos 512 *ℤ (P' -ℤ P) -ℤ pos 2 *ℤ G)
reduced A K P P' F G e g h = linear (A ∷ K ∷ P ∷ P' ∷ F ∷ G ∷ []) (e & g & h) (search reading depth 30 fits 20000) (omega arith)

plain-keeps : (n : ℕ) (steps : List CompletedStep) (ps qs : List Particle) → Each (λ c. Plain c.settings) steps → Keeps n steps ps qs → PlainKeeps n steps ps qs
plain-keeps n steps ps qs plain k =
    record {
      identifiers = k.identifiers;
      masses = k.masses;
      marks = k.marks;
      marked = k.marked;
      linear = λ a.
          reduced (pos n *ℤ (pos (257 * 2 ^ 26) *ℤ pos (total_mass ps))) (pos n *ℤ (pos 257 *ℤ pos (total_mass ps))) (momentum a ps) (momentum a qs) (sum_over steps (forcing_of a)) (sum_over steps (share_of a))
          (linear-allowance (pos n) (pos (total_mass ps)))
          (no-forcing (share_of a) (forcing_of a) (λ c h. nothing-more (pos (2 ^ 26) *ℤ share_of a c) (impulse rounded axis_weight D c.settings a c.before) (no-impulse c h a)) steps plain)
          (k.linear a);
      angular =
          reduced (pos n *ℤ (pos (2 ^ 35) *ℤ pos (total_mass ps)) +ℤ pos (257 * 2 ^ 26) *ℤ sum_over steps moment_of) (pos n *ℤ (pos 512 *ℤ pos (total_mass ps)) +ℤ pos 257 *ℤ sum_over steps moment_of) (angular_momentum ps) (angular_momentum qs) (sum_over steps turning_of) (sum_over steps torque_of)
          (angular-allowance (pos n) (pos (total_mass ps)) (sum_over steps moment_of))
          (no-forcing torque_of turning_of (λ c h. nothing-more (pos (2 ^ 26) *ℤ torque_of c) (angular_impulse rounded axis_weight D c.settings c.before) (no-angular-impulse c h)) steps plain)
          k.angular;
    }
  where
    linear-allowance : (n m : ℤ) → n *ℤ (pos (257 * 2 ^ 26) *ℤ m) ≡ pos (2 ^ 26) *ℤ (n *ℤ (pos 257 *ℤ m))
    linear-allowance n m = ring (n ∷ m ∷ []) (search quote depth 30) (search quote depth 30) tt

    angular-allowance : (n m F : ℤ) → n *ℤ (pos (2 ^ 35) *ℤ m) +ℤ pos (257 * 2 ^ 26) *ℤ F ≡ pos (2 ^ 26) *ℤ (n *ℤ (pos 512 *ℤ m) +ℤ pos 257 *ℤ F)
    angular-allowance n m F = ring (n ∷ m ∷ F ∷ []) (search quote depth 30) (search quote depth 30) tt

-- each step by itself
each-plain : (steps : List CompletedStep) → Each (λ c. Plain c.settings) steps → Each (λ c. Keeps 1 (c ∷ []) c.before c.after) steps → Each (λ c. PlainKeeps 1 (c ∷ []) c.before c.after) steps
each-plain [] h k = tt
each-plain (c ∷ steps) h k = (plain-keeps 1 (c ∷ []) c.before c.after (h.0, tt) k.0, each-plain steps h.1 k.1)

pub plain-demand-3 : PlainDemand3
plain-demand-3 start h calls plain =
    let d = demand-3 start h calls in
    let p = all_plain (settings_all calls start) (particles_in start) (plain-settings calls start plain) in
    record {
      count = d.count;
      whole = plain-keeps (completes_all calls start) (completed_steps calls start) (particles_in start) (particles_in (leaves_all calls start)) p d.whole;
      each = each-plain (completed_steps calls start) p d.each;
      number = d.number;
      unrefused = d.unrefused;
      last = d.last;
      accepted = d.accepted;
    }
