-- A layout: the fields of a run of bytes as one table, most significant bit first. The bytes make one number, the first byte the
-- most significant, and the fields are its parts.
--     Field                 a line of the table: a name, a number of bits, with or without sign
--     Layout                the table, the length in bytes, and a number for each name, by which names are told apart
--     decoded, encoded      the integer that a part of w bits holds, and back
--     parts_in, filled       the parts of the fields of some bytes, and the bytes whose fields have these parts
--     held_by                the integer that the field of a name holds
--     parts_of, packed_by     the parts for these integers, by name, and the bytes that hold them
-- Assumes nothing.
use Rattle.std.specs.Prelude.{ℕ, ◌-◌, ◌^◌, Bool, cond, List, [], ◌∷◌, map, eqb, ℤ, pos, replicate}
use Rattle.bits.specs.Bits.{cut, join, twos_complement, residue}

pub data Sign : Type 0 where
  unsigned : Sign
  signed : Sign

abbrev pub decoded : Sign → ℕ → ℕ → ℤ
decoded unsigned w d = pos d
decoded signed w d = twos_complement (2 ^ (w - 1)) d

abbrev pub encoded : ℕ → ℤ → ℕ
encoded w z = residue (2 ^ w) z

pub record Field (Name : Type 0) : Type 0 where
  pub name : Name
  pub bits : ℕ
  pub sign : Sign

abbrev pub field : {Name : Type 0} → Name → ℕ → Sign → Field Name
field a w s = record { name = a; bits = w; sign = s }

pub record Layout (Name : Type 0) : Type 0 where
  pub fields : List (Field Name)
  pub size : ℕ
  pub code : Name → ℕ

abbrev pub widths : {Name : Type 0} → Layout Name → List ℕ
widths l = map (λ f. f.bits) l.fields

abbrev pub byte_widths : {Name : Type 0} → Layout Name → List ℕ
byte_widths l = replicate l.size 8

abbrev pub parts_in : {Name : Type 0} → Layout Name → List ℕ → List ℕ
parts_in l bytes = cut (widths l) (join (byte_widths l) bytes)

abbrev pub filled : {Name : Type 0} → Layout Name → List ℕ → List ℕ
filled l parts = cut (byte_widths l) (join (widths l) parts)

abbrev pub is : {Name : Type 0} → Layout Name → Name → Name → Bool
is l a b = eqb (l.code a) (l.code b)

-- the integer of the first field whose name passes the test, with these parts in the fields
abbrev pub value_of : {Name : Type 0} → (Name → Bool) → List (Field Name) → List ℕ → ℤ
value_of test [] ds = pos 0
value_of test (f ∷ fs) [] = pos 0
value_of test (f ∷ fs) (d ∷ ds) = cond (test f.name) (decoded f.sign f.bits d) (value_of test fs ds)

abbrev pub held_by : {Name : Type 0} → Layout Name → Name → List ℕ → ℤ
held_by l a bytes = value_of (is l a) l.fields (parts_in l bytes)

abbrev pub parts_of : {Name : Type 0} → Layout Name → (Name → ℤ) → List ℕ
parts_of l value = map (λ f. encoded f.bits (value f.name)) l.fields

abbrev pub packed_by : {Name : Type 0} → Layout Name → (Name → ℤ) → List ℕ
packed_by l value = filled l (parts_of l value)
