-- Demand 3 where every call has open edges and no drag: what completed steps keep in document 01's words, in which drag and rim do
-- not occur. A corollary of `Demand3`. Assumes nothing.
use Rattle.std.specs.Prelude.{◌≡◌, List, map, ℕ, pos, ◌+ℤ◌, ◌-ℤ◌, ◌*ℤ◌}
use Rattle.arith.specs.Order.{Within}
use Rattle.arith.specs.Sums.{Each, sum_over}
use Rattle.particle.specs.declared.Particle.{Particle}
use Rattle.apic.specs.Step.{Axis}
use Rattle.apic.specs.Totals.{total_mass, momentum, angular_momentum, total_marks}
use Rattle.settings.specs.Settings.{Plain}
use Rattle.simulation.specs.Demand3.{Accepted, Call, settings_of, CompletedStep, share_of, torque_of, moment_of, Conserves}

-- what n completed steps from ps to qs keep; all of it times 512
pub record PlainKeeps (n : ℕ) (steps : List CompletedStep) (ps qs : List Particle) : Type 0 where
  -- the same identifiers, masses and marks in the same order, and so the sum of the marks
  pub identifiers : map (λ p. p.identifier) qs ≡ map (λ p. p.identifier) ps
  pub masses : map (λ p. p.mass) qs ≡ map (λ p. p.mass) ps
  pub marks : map (λ p. p.marks) qs ≡ map (λ p. p.marks) ps
  pub marked : total_marks qs ≡ total_marks ps
  -- momentum is the start's plus gravity's shares, within n times 257/512 of the total mass
  pub linear : (a : Axis) → Within (pos n *ℤ (pos 257 *ℤ pos (total_mass ps))) (pos 512 *ℤ (momentum a qs -ℤ momentum a ps) -ℤ pos 2 *ℤ sum_over steps (share_of a))
  -- angular momentum is the start's plus gravity's torques, within n times the total mass plus 257/512 of the sums of mass
  -- times (x + y)
  pub angular : Within (pos n *ℤ (pos 512 *ℤ pos (total_mass ps)) +ℤ pos 257 *ℤ sum_over steps moment_of) (pos 512 *ℤ (angular_momentum qs -ℤ angular_momentum ps) -ℤ pos 2 *ℤ sum_over steps torque_of)

abbrev pub PlainDemand3 : Type 0
PlainDemand3 =
    (start : List ℕ) → Accepted start → (calls : List Call) → Each (λ c. Plain (settings_of c)) calls → Conserves PlainKeeps calls start
