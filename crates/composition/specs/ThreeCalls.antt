-- Documents 01 and 02, "The step": a step is scatter, update and gather as these operations promise them, one call after the other.
-- Assumes nothing.
use Rattle.std.specs.Prelude.{◌≡◌, List, ℕ, ℤ}
use Rattle.refusal.specs.Refused.{Answer, gives, done}
use Rattle.limits.specs.declared.Caller.{Caller}
use Rattle.particle.specs.declared.Particle.{Particle}
use Rattle.update.specs.Update.{UpdateIs}
use Rattle.transfer.specs.Transfer.{ScatterIs, GatherIs}
use Rattle.settings.specs.declared.Settings.{Settings}
use Rattle.apic.specs.Step.{Grids}
use Rattle.simulation.specs.Step.{step_entry, step_after}

-- three calls of one caller, what each answers and what it leaves: the records are scattered into the lent grids, the momenta there
-- become velocities, and the same records gather from those
pub record ThreeCalls (caller : Caller) (s : Settings) (records : List ℕ) (lent : Grids) : Type 0 where
  pub scattered : Answer Unit
  pub mass : List ℕ
  pub px : List ℤ
  pub py : List ℤ
  pub scatter : ScatterIs caller s.nx s.ny records lent.mass lent.x lent.y scattered mass px py
  pub updated : Answer Unit
  pub ux : List ℤ
  pub uy : List ℤ
  pub update : UpdateIs caller s mass px py updated ux uy
  pub gathered : Answer Unit
  pub moved : List ℕ
  pub gather : GatherIs caller s.nx s.ny records ux uy gathered moved

-- scatter and update are not refused; a step answers what gather answers, and leaves gather's records, scatter's masses and
-- update's velocities
pub record IsStep (caller : Caller) (s : Settings) (records : List ℕ) (lent : Grids) (c : ThreeCalls caller s records lent) : Type 0 where
  pub scatter-done : c.scattered ≡ done
  pub update-done : c.updated ≡ done
  pub leaves : step_after caller s records lent ≡ record { answer = c.gathered; records = c.moved; grids = record { mass = c.mass; x = c.ux; y = c.uy } }

-- for every call of step that passes its checks at entry
abbrev pub StepIsThreeCalls : Type 0
StepIsThreeCalls =
    (caller : Caller) (s : Settings) (records : List ℕ) (lent : Grids) (ps : List Particle) → step_entry caller s records lent ≡ gives ps
    → (c : ThreeCalls caller s records lent) → IsStep caller s records lent c

-- and there are such calls for every input, since each operation answers every input
abbrev pub ThreeCallsExist : Type 0
ThreeCallsExist = (caller : Caller) (s : Settings) (records : List ℕ) (lent : Grids) → ThreeCalls caller s records lent
