-- A header that a function has in hand: what the types of its fields say of its numbers, by their names.
-- Assumes nothing.
use Prim.Native.Nat.{◌<◌, ◌^◌}
use lib.Signed.{mag}
use denote.Laws.{valss}
use denote.Struct.Declared.{fields}
use denote.Struct.Laws.{spells}
use denote.Struct.Struct.{AreAll}
use Rattle.bath_file.specs.declared.Header.{Header}
use Rattle.bath_file.specs.contracts.Header.{the_type}
use Rattle.bath_file.proofs.Header.TheLaws.{the_laws}

-- the checker's fact about a header, field after field
abbrev pub Told : Header → Type 0
Told h = AreAll (fields the_type) (the_type.to h) (valss (fields the_type) (spells the_type.parts the_laws) (the_type.to h))

pub record Typed (h : Header) : Type 0 where
  pub gx : mag h.gx < 2 ^ 15
  pub gy : mag h.gy < 2 ^ 15

pub typed : (h : Header) → Told h → Typed h
typed h (nx, (ny, (gx, (gy, rest)))) = record { gx = gx.1; gy = gy.1 }
