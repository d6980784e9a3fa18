-- What the internal functions compute: their contracts name these, and no exported one does.
-- Assumes nothing.
use Rattle.std.specs.Prelude.{◌≡◌, cond, List, ℕ, ◌<◌, ltb, ℤ, pos, negsuc}
use Rattle.particle.specs.declared.Particle.{Particle}
use Rattle.particle.specs.Record.{write_answer, written}
use Rattle.bath_file.specs.declared.Header.{Header}
use Rattle.bath_file.specs.File as file

-- the number, or the most that there is room for
abbrev pub capped : ℕ → ℕ → ℕ
capped most n = cond (ltb most n) most n

-- the nearest integer of 16 bits: −32768 is `negsuc 32767`
abbrev pub clamped : ℤ → ℤ
clamped (pos n) = pos (capped 32767 n)
clamped (negsuc n) = negsuc (capped 32767 n)

-- a write of the one answers and leaves what a write of the other does
pub record SameRecord (p q : Particle) : Type 0 where
  pub answer : (bytes : List ℕ) → write_answer p bytes ≡ write_answer q bytes
  pub buffer : (bytes : List ℕ) → written p bytes ≡ written q bytes

pub record SameHeader (h k : Header) : Type 0 where
  pub answer : (bytes : List ℕ) → file.write_answer h bytes ≡ file.write_answer k bytes
  pub buffer : (bytes : List ℕ) → file.written h bytes ≡ file.written k bytes

-- a header whose numbers, but for gravity, are small
pub record Narrow (h : Header) : Type 0 where
  pub nx : h.nx < 65536
  pub ny : h.ny < 65536
  pub count : h.count < 65536
  pub steps : h.steps < 65536
  pub kind : h.kind < 65536
  pub width : h.width < 65536
  pub drag : h.drag < 65536
