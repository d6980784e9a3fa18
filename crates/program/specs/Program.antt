-- Document 01, "The program": from the bytes of a file to the whole text that is printed, and what the function that prints it
-- leaves of the buffers that it is lent.
--     program_text   the text
--     printed       the answer: the text's length, and whether the file was refused
--     text_after, file_after, grids_after
--                   the text buffer, the file buffer and the grids afterwards
-- Assumes nothing.
use Rattle.std.specs.Prelude.{ℕ, Bool, true, false, List, ◌++◌, pos, length, replicate, take, drop}
use Rattle.refusal.specs.Refused.{Answer, either}
use Rattle.limits.specs.declared.Caller.TheVariants.{Bench}
use Rattle.apic.specs.Step.{Grids, grids_of}
use Rattle.simulation.specs.Step.{After}
use Rattle.simulation.specs.Run.{Completion, run_after}
use Rattle.bath_file.specs.declared.Header.{Header}
use Rattle.bath_file.specs.Layout.{header_length}
use Rattle.bath_file.specs.File.{file_answer}
use Rattle.report.specs.Lines.{refused_line}
use Rattle.file_run.specs.FileRun.{settings_for, node_count, first_nodes, with_first}
use Rattle.run_report.specs.RunReport.{report_of}
use Rattle.program.specs.declared.Printed.{Printed}

-- ---- "It reads a bath file from standard input, runs it and prints"

-- the records lie behind the header
abbrev pub records_in : List ℕ → List ℕ
records_in bytes = drop header_length bytes

-- the run that a file asks for
abbrev pub run_of : Header → List ℕ → Grids → After Completion
run_of h bytes grids = run_after Bench (settings_for h) h.steps (records_in bytes) grids

-- grids of its size with every node zero
abbrev pub zero_grids : Header → Grids
zero_grids h = grids_of (replicate (node_count h) 0) (replicate (node_count h) (pos 0)) (replicate (node_count h) (pos 0))

-- of the run, and of the records that it leaves
abbrev pub run_report : List ℕ → Header → List ℕ
run_report bytes h = let ran = run_of h bytes (zero_grids h) in report_of ran.answer ran.records

-- "A refused file prints only `refused R at P`. Otherwise" the report
unfoldable pub program_text : List ℕ → List ℕ
program_text bytes = either (file_answer Bench bytes) (run_report bytes) refused_line

-- ---- what the caller of the function sees

abbrev pub is_refused : {A : Type 0} → Answer A → Bool
is_refused a = either a (λ _. false) (λ number place. true)

-- the text's length, and whether the file was refused
unfoldable pub printed : List ℕ → Printed
printed bytes = record { length = length (program_text bytes); refused = is_refused (file_answer Bench bytes) }

-- the text, and behind it what was there
unfoldable pub text_after : List ℕ → List ℕ → List ℕ
text_after bytes text = program_text bytes ++ drop (length (program_text bytes)) text

-- the same header, and the records that the run leaves; a refused file is as it was
unfoldable pub file_after : List ℕ → List ℕ
file_after bytes =
    either (file_answer Bench bytes)
    (λ h. take header_length bytes ++ (run_of h bytes (zero_grids h)).records)
    (λ number place. bytes)

-- the first Nx-as-Ny nodes are what the run leaves, and the others as they were, as are all of them where the file is refused
unfoldable pub grids_after : List ℕ → Grids → Grids
grids_after bytes grids =
    either (file_answer Bench bytes)
    (λ h. with_first (node_count h) (run_of h bytes (first_nodes (node_count h) grids)).grids grids)
    (λ number place. grids)
