-- Totals that a function has in hand: what the types of their fields say of the numbers, by their names.
-- Assumes nothing.
use Prim.Native.Nat.{◌<◌, ◌^◌}
use lib.Signed.{mag}
use denote.Laws.{valss}
use denote.Struct.Declared.{fields}
use denote.Struct.Laws.{spells}
use denote.Struct.Struct.{AreAll}
use Rattle.totals.specs.declared.Totals.{Totals}
use Rattle.totals.specs.contracts.Totals.{the_type}
use Rattle.totals.proofs.Totals.TheLaws.{the_laws}

-- the checker's fact about totals, field after field
abbrev pub Told : Totals → Type 0
Told t = AreAll (fields the_type) (the_type.to t) (valss (fields the_type) (spells the_type.parts the_laws) (the_type.to t))

pub record Typed (t : Totals) : Type 0 where
  pub mass : mag t.mass < 2 ^ 63
  pub px : mag t.px < 2 ^ 63
  pub py : mag t.py < 2 ^ 63
  pub spin : mag t.spin < 2 ^ 63
  pub motion : mag t.motion < 2 ^ 63
  pub marks : mag t.marks < 2 ^ 63

pub typed : (t : Totals) → Told t → Typed t
typed t (mass, (px, (py, (spin, (motion, (marks, end)))))) =
    record { mass = mass.1; px = px.1; py = py.1; spin = spin.1; motion = motion.1; marks = marks.1 }
