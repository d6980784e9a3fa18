-- The layout of a particle record: one table of its fields, in document 01's order ("Records") with document 02's marks
-- behind them, most significant bit first.
--     Name            the fields' names
--     record_length    the length of a record in bytes
--     layout          the table
--     held            the integer that the field of a name holds in a record
--     packed          the record whose fields hold these integers
-- Assumes nothing.
use Rattle.std.specs.Prelude.{ℕ, List, [], ◌∷◌, ℤ}
use Rattle.bits.specs.Layout.{Layout, field, unsigned, signed, held_by, packed_by}

pub data Name : Type 0 where
  identifier : Name
  mass : Name
  x : Name
  y : Name
  vx : Name
  vy : Name
  Bxx : Name
  Bxy : Name
  Byx : Name
  Byy : Name
  marks : Name

abbrev pub code : Name → ℕ
code identifier = 0
code mass = 1
code x = 2
code y = 3
code vx = 4
code vy = 5
code Bxx = 6
code Bxy = 7
code Byx = 8
code Byy = 9
code marks = 10

abbrev pub record_length : ℕ
record_length = 15

abbrev pub layout : Layout Name
layout =
    record {
      fields =
          field identifier 16 unsigned
          ∷ field mass 10 unsigned
          ∷ field x 12 unsigned
          ∷ field y 12 unsigned
          ∷ field vx 7 signed
          ∷ field vy 7 signed
          ∷ field Bxx 12 signed
          ∷ field Bxy 12 signed
          ∷ field Byx 12 signed
          ∷ field Byy 12 signed
          ∷ field marks 8 unsigned
          ∷ [];
      size = record_length;
      code = code;
    }

abbrev pub held : Name → List ℕ → ℤ
held a bytes = held_by layout a bytes

abbrev pub packed : (Name → ℤ) → List ℕ
packed value = packed_by layout value
