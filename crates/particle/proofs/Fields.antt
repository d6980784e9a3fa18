-- A particle that a function has in hand: what the types of its fields say of its numbers, by their names.
-- Assumes nothing.
use Prim.Native.Nat.{◌<◌, ◌^◌}
use lib.Signed.{mag}
use denote.Laws.{valss}
use denote.Struct.Declared.{fields}
use denote.Struct.Laws.{spells}
use denote.Struct.Struct.{AreAll}
use Rattle.particle.specs.declared.Particle.{Particle}
use Rattle.particle.specs.contracts.Particle.{the_type}
use Rattle.particle.proofs.Particle.TheLaws.{the_laws}

-- the checker's fact about a particle, field after field
abbrev pub Told : Particle → Type 0
Told p = AreAll (fields the_type) (the_type.to p) (valss (fields the_type) (spells the_type.parts the_laws) (the_type.to p))

pub record Typed (p : Particle) : Type 0 where
  pub identifier : p.identifier < 2 ^ 16
  pub mass : p.mass < 2 ^ 16
  pub x : p.x < 2 ^ 16
  pub y : p.y < 2 ^ 16
  pub vx : mag p.vx < 2 ^ 15
  pub vy : mag p.vy < 2 ^ 15
  pub bxx : mag p.bxx < 2 ^ 15
  pub bxy : mag p.bxy < 2 ^ 15
  pub byx : mag p.byx < 2 ^ 15
  pub byy : mag p.byy < 2 ^ 15
  pub marks : p.marks < 2 ^ 8

pub typed : (p : Particle) → Told p → Typed p
typed p (identifier, (mass, (x, (y, (vx, (vy, (bxx, (bxy, (byx, (byy, (marks, end))))))))))) =
    record {
      identifier = identifier.1;
      mass = mass.1;
      x = x.1;
      y = y.1;
      vx = vx.1;
      vy = vy.1;
      bxx = bxx.1;
      bxy = bxy.1;
      byx = byx.1;
      byy = byy.1;
      marks = marks.1;
    }
