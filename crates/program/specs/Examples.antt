-- Worked examples of the program: document 01's, with document 02's two bytes more in its header and a zero byte at its end; one
-- whose sizes and gravities differ on the two axes and whose run is stopped; the same with drag and a rim, which is not stopped;
-- and refused files. Assumes nothing.
use Rattle.std.specs.Prelude.{ℕ, ◌≡◌, List, [], ◌∷◌, take}
use Rattle.text.specs.Decimal.{bytes_of}
use Rattle.program.specs.Program.{program_text}

-- "10 40 00 00 00 00 08 00 20 00 00", then "00 07 00 81 00 10 01 FE 00 00 00 00 00 00 00"
abbrev pub printed_file : List ℕ
printed_file =
    0x10 ∷ 0x40 ∷ 0x00 ∷ 0x00 ∷ 0x00 ∷ 0x00 ∷ 0x08 ∷ 0x00 ∷ 0x20 ∷ 0x00 ∷ 0x00
    ∷ 0x00 ∷ 0x07 ∷ 0x00 ∷ 0x81 ∷ 0x00 ∷ 0x10 ∷ 0x01 ∷ 0xfe ∷ 0x00 ∷ 0x00 ∷ 0x00 ∷ 0x00 ∷ 0x00 ∷ 0x00 ∷ 0x00
    ∷ []

-- 5 by 4 nodes, gravity 512 and −256, one record at (200, 100) with velocity (3, −2) and 200 marks, five steps; the header's last
-- bytes are those of the edge and of drag
abbrev file_with : ℕ → ℕ → List ℕ
file_with edge drag =
    0x14 ∷ 0x40 ∷ 0x80 ∷ 0x3f ∷ 0x00 ∷ 0x00 ∷ 0x08 ∷ 0x00 ∷ 0xa0 ∷ edge ∷ drag
    ∷ 0x00 ∷ 0x07 ∷ 0x00 ∷ 0x83 ∷ 0x20 ∷ 0x19 ∷ 0x01 ∷ 0xfe ∷ 0x00 ∷ 0x00 ∷ 0x00 ∷ 0x00 ∷ 0x00 ∷ 0x00 ∷ 0xc8
    ∷ []

-- open edges, no drag
abbrev pub stopped_file : List ℕ
stopped_file = file_with 0x00 0x00

-- a sticky edge of width 1 and drag 64: 01 01 01000000 0000
abbrev pub held_file : List ℕ
held_file = file_with 0x54 0x00

-- an open edge with a width: 00 01
abbrev pub wide_file : List ℕ
wide_file = file_with 0x10 0x00

pub record Examples : Type 0 where
  pub printed : program_text printed_file ≡ bytes_of "done 1 refusal 0 at 0\nmass 2 px 6 py -4 spin -640 motion 26624 marks 0\n7 2 67 62 3 -2 0 0 0 0 0\n"
  pub stopped : program_text stopped_file ≡ bytes_of "done 3 refusal 15 at 0\nmass 2 px 18 py -10 spin -3794 motion 217088 marks 200\n7 2 221 88 9 -5 0 0 0 0 200\n"
  pub held : program_text held_file ≡ bytes_of "done 5 refusal 0 at 0\nmass 2 px 6 py -4 spin -1314 motion 41450 marks 200\n7 2 215 90 3 -2 -74 1 44 0 200\n"
  pub wide : program_text wide_file ≡ bytes_of "refused 18 at 0\n"
  pub refused : program_text (take 25 printed_file) ≡ bytes_of "refused 1 at 0\n"
