-- Document 02, paper 1: "sticky nodes in the band get 0 on both axes; slip nodes get 0 on x in the band's columns and on y in its
-- rows". A named statement about what Update promises, proved in proofs/. Assumes nothing.
use Rattle.std.specs.Prelude.{◌≡◌, ◌⊎◌, List, ℕ, ◌+◌, ◌≤◌, ◌<◌, ℤ, pos}
use Rattle.refusal.specs.Refused.{done}
use Rattle.limits.specs.declared.Caller.{Caller}
use Rattle.apic.specs.Step.{node}
use Rattle.settings.specs.declared.Edge.TheVariants.{Sticky, Slip}
use Rattle.settings.specs.declared.Settings.{Settings}
use Rattle.update.specs.Update.{UpdateIs}

-- column i of n, or row, is among the outermost to this width
abbrev pub Outermost : ℕ → ℕ → ℕ → Type 0
Outermost width n i = (i < width) ⊎ (n ≤ i + width)

-- the node velocities x and y of these settings' grid
pub record RimHeld (s : Settings) (x y : List ℤ) : Type 0 where
  pub sticky : {width : ℕ} → s.edge ≡ Sticky width → (i j : ℕ) → i < s.nx → j < s.ny → Outermost width s.nx i ⊎ Outermost width s.ny j → (node s.nx x i j ≡ pos 0) × (node s.nx y i j ≡ pos 0)
  pub slip-columns : {width : ℕ} → s.edge ≡ Slip width → (i j : ℕ) → i < s.nx → j < s.ny → Outermost width s.nx i → node s.nx x i j ≡ pos 0
  pub slip-rows : {width : ℕ} → s.edge ≡ Slip width → (i j : ℕ) → i < s.nx → j < s.ny → Outermost width s.ny j → node s.nx y i j ≡ pos 0

-- for every update that is not refused, whatever the grids held
abbrev pub RimHolds : Type 0
RimHolds =
    (caller : Caller) (s : Settings) (mass : List ℕ) (px py ux uy : List ℤ) → UpdateIs caller s mass px py done ux uy → RimHeld s ux uy
