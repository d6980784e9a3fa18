-- What the internal functions compute: their contracts name these, and no public one does.
-- Assumes nothing.
use Rattle.std.specs.Prelude.{ℕ, ◌+◌, ◌≤◌, List, map, length}
use Rattle.arith.specs.Sums.{up_to}
use Rattle.particle.specs.Record.{particle_of}
use Rattle.particles.specs.Set.{record_at}
use Rattle.text.specs.declared.Text.{Text}
use Rattle.report.specs.Lines.{particle_lines}
use Rattle.report.specs.Report.{report_length}

-- the lines of the first records
abbrev pub lines_up_to : List ℕ → ℕ → List ℕ
lines_up_to records k = particle_lines (map (λ j. particle_of (record_at 0 records j)) (up_to k))

-- the buffer has room for every report behind its text
abbrev pub RoomForReport : Text → Type 0
RoomForReport t = t.length + report_length ≤ length t.buffer.now
