-- The layout of a bath file's header: one table of its fields, in the order of documents 01 ("Records") and 02 (Paper 1), most
-- significant bit first.
--     Name            the fields' names
--     header_length    the length of a header in bytes
--     layout          the table
--     held            the integer that the field of a name holds in a header
--     packed          the header whose fields hold these integers
-- Assumes nothing.
use Rattle.std.specs.Prelude.{ℕ, List, [], ◌∷◌, ℤ}
use Rattle.bits.specs.Layout.{Layout, field, unsigned, signed, held_by, packed_by}

pub data Name : Type 0 where
  nx : Name
  ny : Name
  gx : Name
  gy : Name
  count : Name
  steps : Name
  spare_after_steps : Name
  kind : Name
  width : Name
  drag : Name
  spare_after_drag : Name

abbrev pub code : Name → ℕ
code nx = 0
code ny = 1
code gx = 2
code gy = 3
code count = 4
code steps = 5
code spare_after_steps = 6
code kind = 7
code width = 8
code drag = 9
code spare_after_drag = 10

abbrev pub header_length : ℕ
header_length = 11

abbrev pub layout : Layout Name
layout =
    record {
      fields =
          field nx 6 unsigned
          ∷ field ny 6 unsigned
          ∷ field gx 14 signed
          ∷ field gy 14 signed
          ∷ field count 13 unsigned
          ∷ field steps 14 unsigned
          ∷ field spare_after_steps 5 unsigned
          ∷ field kind 2 unsigned
          ∷ field width 2 unsigned
          ∷ field drag 8 unsigned
          ∷ field spare_after_drag 4 unsigned
          ∷ [];
      size = header_length;
      code = code;
    }

abbrev pub held : Name → List ℕ → ℤ
held a bytes = held_by layout a bytes

abbrev pub packed : (Name → ℤ) → List ℕ
packed value = packed_by layout value
