-- `read_indexed` meets its contract: the length, and then what `check_read` answers of the particle that `unpack` finds. Assumes nothing.
use Rattle.std.proofs.Common.{ap, ◌∙◌}
use borrow.Author.Tests.{eq-eqb, ne_eqb}
use Rattle.particle.specs.Record.{read_answer, read_particle}
use Rattle.record_reader.proofs.read_indexed.Goals as goal

pub returns-then-bytes-ne-RECORD_LENGTH : goal.returns-then-bytes-ne-RECORD_LENGTH
unfolding read_answer
returns-then-bytes-ne-RECORD_LENGTH c = simp (ne_eqb _ _ c.if-bytes-ne-RECORD_LENGTH.true)

pub returns : goal.returns
unfolding read_answer
returns c =
    simp (eq-eqb _ _ c.if-bytes-ne-RECORD_LENGTH.false)
    (c.check_read.ensures ∙ ap (read_particle _) c.unpack.ensures)
