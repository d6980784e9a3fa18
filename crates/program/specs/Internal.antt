-- What the internal functions are given and leave: their contracts name these, and no public one does. Assumes nothing.
use Rattle.std.specs.Prelude.{ℕ, ◌≤◌, ◌≡◌, List, ℤ, length}
use Rattle.refusal.specs.Refused.{gives}
use Rattle.limits.specs.declared.Caller.TheVariants.{Bench}
use Rattle.apic.specs.Step.{Grids}
use Rattle.bath_file.specs.declared.Header.{Header}
use Rattle.bath_file.specs.File.{file_answer}
use Rattle.report.specs.Report.{report_length}
use Rattle.file_run.specs.FileRun.{RunRoom}
use Rattle.program.specs.declared.Printed.{Printed}
use Rattle.program.specs.Program.{printed, text_after, file_after, grids_after}

-- a file that was accepted, and room for its run and its report
pub record AcceptedFile (h : Header) (bytes mass : List ℕ) (x y : List ℤ) (text : List ℕ) : Type 0 where
  pub file : file_answer Bench bytes ≡ gives h
  pub grids : RunRoom mass x y
  pub room : report_length ≤ length text

-- what the caller sees of a file, grids and a text buffer
pub record Prints (bytes : List ℕ) (grids : Grids) (text : List ℕ) (told : Printed) (bytes' : List ℕ) (grids' : Grids) (text' : List ℕ) : Type 0 where
  pub answer : told ≡ printed bytes
  pub buffer : text' ≡ text_after bytes text
  pub file : bytes' ≡ file_after bytes
  pub nodes : grids' ≡ grids_after bytes grids
