-- Demand 3, document 01's "The lists of demand 3" and document 02's papers 1 and 6: what every list of step and run calls keeps,
-- as one claim. This file says, in this order, what a call is and what it leaves of the records, which steps a list of calls
-- completed, and the claim. Totals, and what drag and rim change, are those of apic's specs/Totals.antt. `Within k z` says that
-- −k ≤ z ≤ k.
-- Assumes nothing.
use Rattle.std.specs.Prelude.{◌≡◌, List, [], ◌∷◌, ◌++◌, map, ℕ, ◌+◌, ◌*◌, ◌^◌, length, replicate, ℤ, pos, ◌+ℤ◌, ◌-ℤ◌, ◌*ℤ◌}
use Rattle.arith.specs.Order.{Within}
use Rattle.arith.specs.Rounding.{rounded}
use Rattle.arith.specs.Sums.{Each, sum_over}
use Rattle.refusal.specs.Refused.{gives, either}
use Rattle.limits.specs.declared.Caller.{Caller}
use Rattle.limits.specs.declared.Caller.TheVariants.{Bench}
use Rattle.spline.specs.Spline.{axis_weight, D}
use Rattle.particle.specs.declared.Particle.{Particle}
use Rattle.apic.specs.Step.{Axis, gravity, Grids}
use Rattle.apic.specs.Totals.{total_mass, momentum, angular_momentum, total_marks, torque, impulse, angular_impulse, first_moment}
use Rattle.particles.specs.Set.{particles_in, check_answer}
use Rattle.settings.specs.declared.Settings.{Settings}
use Rattle.simulation.specs.Step.{stepped, step_of, step_after}
use Rattle.simulation.specs.Run.{run_after}

-- ---- records

-- check a set accepts the records, for some sizes; the bench's, which accepts what any caller's does
pub record Accepted (records : List ℕ) : Type 0 where
  pub nx : ℕ
  pub ny : ℕ
  pub count : ℕ
  pub accepts : check_answer Bench nx ny records ≡ gives count

-- ---- calls

-- a call is who makes it, and everything that a step or run is given beside the records: settings, the number of steps, and the
-- three grids with any contents and any lengths
pub data Call : Type 0 where
  step : Caller → Settings → Grids → Call
  run : Caller → Settings → ℕ → Grids → Call

abbrev pub settings_of : Call → Settings
settings_of (step caller s grids) = s
settings_of (run caller s steps grids) = s

-- the records that a call leaves
abbrev pub leaves : Call → List ℕ → List ℕ
leaves (step caller s grids) records = (step_after caller s records grids).records
leaves (run caller s steps grids) records = (run_after caller s steps records grids).records

-- the number of steps that it says it completed: one or none, or the number that the run answers
abbrev pub completes : Call → List ℕ → ℕ
completes (step caller s grids) records = either (step_after caller s records grids).answer (λ _. 1) (λ n k. 0)
completes (run caller s steps grids) records = (run_after caller s steps records grids).answer.completed

-- ---- lists of calls: each gets the records that the one before left

unfoldable pub leaves_all : List Call → List ℕ → List ℕ
leaves_all [] records = records
leaves_all (c ∷ cs) records = leaves_all cs (leaves c records)

-- n, the sum of what the calls say
unfoldable pub completes_all : List Call → List ℕ → ℕ
completes_all [] records = 0
completes_all (c ∷ cs) records = completes c records + completes_all cs (leaves c records)

-- the settings of the completed steps, in order: those that the step's call was given
unfoldable pub settings_all : List Call → List ℕ → List Settings
settings_all [] records = []
settings_all (c ∷ cs) records = replicate (completes c records) (settings_of c) ++ settings_all cs (leaves c records)

-- ---- the completed steps

-- a step's settings, and the particles just before and after it
pub record CompletedStep : Type 0 where
  pub settings : Settings
  pub before : List Particle
  pub after : List Particle

-- what "The step" gives, worked from the particles ps through steps with these settings, and what it comes to
unfoldable pub worked : List Settings → List Particle → List CompletedStep
worked [] ps = []
worked (s ∷ ss) ps = record { settings = s; before = ps; after = stepped s ps } ∷ worked ss (stepped s ps)

unfoldable pub arrives : List Settings → List Particle → List Particle
arrives [] ps = ps
arrives (s ∷ ss) ps = arrives ss (stepped s ps)

abbrev pub completed_steps : List Call → List ℕ → List CompletedStep
completed_steps calls start = worked (settings_all calls start) (particles_in start)

-- gravity's share of momentum, and its torque, in a completed step, both times 256
abbrev pub share_of : Axis → CompletedStep → ℤ
share_of a c = pos (total_mass c.before) *ℤ gravity c.settings a

abbrev pub torque_of : CompletedStep → ℤ
torque_of c = torque c.settings.gx c.settings.gy c.before

-- gravity's share and the impulse of drag and rim, which is the sum of node mass times node change over 2^34; and the same of
-- angular momentum, each node change at its node's place; both times 2^34
abbrev pub forcing_of : Axis → CompletedStep → ℤ
forcing_of a c = pos (2 ^ 26) *ℤ share_of a c +ℤ impulse rounded axis_weight D c.settings a c.before

abbrev pub turning_of : CompletedStep → ℤ
turning_of c = pos (2 ^ 26) *ℤ torque_of c +ℤ angular_impulse rounded axis_weight D c.settings c.before

-- the sum of mass times (x + y), taken before it
abbrev pub moment_of : CompletedStep → ℤ
moment_of c = first_moment c.before

-- ---- the claim

-- what n completed steps from ps to qs keep; all of it times 2^35
pub record Keeps (n : ℕ) (steps : List CompletedStep) (ps qs : List Particle) : Type 0 where
  -- the same identifiers, masses and marks in the same order
  pub identifiers : map (λ p. p.identifier) qs ≡ map (λ p. p.identifier) ps
  pub masses : map (λ p. p.mass) qs ≡ map (λ p. p.mass) ps
  pub marks : map (λ p. p.marks) qs ≡ map (λ p. p.marks) ps
  -- and so the sum of the marks
  pub marked : total_marks qs ≡ total_marks ps
  -- momentum is the start's plus gravity's shares and the impulses of drag and rim, within n times 257/512 of the total mass
  pub linear : (a : Axis) → Within (pos n *ℤ (pos (257 * 2 ^ 26) *ℤ pos (total_mass ps))) (pos (2 ^ 35) *ℤ (momentum a qs -ℤ momentum a ps) -ℤ pos 2 *ℤ sum_over steps (forcing_of a))
  -- angular momentum is the start's plus gravity's torques and the angular impulses of drag and rim, within n times the total mass
  -- plus 257/512 of the sums of mass times (x + y)
  pub angular : Within (pos n *ℤ (pos (2 ^ 35) *ℤ pos (total_mass ps)) +ℤ pos (257 * 2 ^ 26) *ℤ sum_over steps moment_of) (pos (2 ^ 35) *ℤ (angular_momentum qs -ℤ angular_momentum ps) -ℤ pos 2 *ℤ sum_over steps turning_of)

-- the claim about a list of calls, where `Kept` says what completed steps keep
pub record Conserves (Kept : ℕ → List CompletedStep → List Particle → List Particle → Type 0) (calls : List Call) (start : List ℕ) : Type 0 where
  -- as many records as at the start
  pub count : length (leaves_all calls start) ≡ length start
  pub whole : Kept (completes_all calls start) (completed_steps calls start) (particles_in start) (particles_in (leaves_all calls start))
  -- every completed step by itself, with n = 1
  pub each : Each (λ c. Kept 1 (c ∷ []) c.before c.after) (completed_steps calls start)
  -- the completed steps are as many as the calls say; no limit refuses one of them; the records left hold the last one
  pub number : length (completed_steps calls start) ≡ completes_all calls start
  pub unrefused : Each (λ c. step_of c.settings c.before ≡ gives c.after) (completed_steps calls start)
  pub last : particles_in (leaves_all calls start) ≡ arrives (settings_all calls start) (particles_in start)
  -- and are again a set that check a set accepts
  pub accepted : Accepted (leaves_all calls start)

abbrev pub Demand3 : Type 0
Demand3 = (start : List ℕ) → Accepted start → (calls : List Call) → Conserves Keeps calls start
