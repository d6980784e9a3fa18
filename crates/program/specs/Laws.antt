-- What holds of the program, for those who doubt its definition: named statements, proved in proofs/.
--     AnyGrids      no run depends on what its grids hold
--     LongerInput   of a longer input the first `room_for_file` bytes decide
-- Assumes nothing.
use Rattle.std.specs.Prelude.{ℕ, ◌≡◌, List, length, take}
use Rattle.limits.specs.declared.Caller.{Caller}
use Rattle.settings.specs.declared.Settings.{Settings}
use Rattle.apic.specs.Step.{Grids}
use Rattle.simulation.specs.Run.{run_after}
use Rattle.bath_file.specs.File.{room_for_file}
use Rattle.program.specs.Program.{program_text}

pub record SameLengths (g h : Grids) : Type 0 where
  pub mass : length g.mass ≡ length h.mass
  pub x : length g.x ≡ length h.x
  pub y : length g.y ≡ length h.y

-- the answer and the records of a run are the same, whatever grids of the same lengths hold
abbrev pub AnyGrids : Type 0
AnyGrids =
    (caller : Caller) (s : Settings) (steps : ℕ) (records : List ℕ) (g h : Grids) →
    SameLengths g h →
    ((run_after caller s steps records g).answer ≡ (run_after caller s steps records h).answer)
    × ((run_after caller s steps records g).records ≡ (run_after caller s steps records h).records)

-- whoever reads as many bytes of an input knows what the program prints of all of it
abbrev pub LongerInput : Type 0
LongerInput = (bytes : List ℕ) → program_text bytes ≡ program_text (take room_for_file bytes)
