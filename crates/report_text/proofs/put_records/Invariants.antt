-- The lines of as many records as were passed are put, and the others are left.
use lib.ListN.{length}
use Rattle.std.specs.Slice.Iter.{chunks_exact_rest, chunks_exact_size}
use Rattle.report.proofs.Lines.{Printed}
use Rattle.report_text.proofs.put_records.Given as goal

abbrev pub invariant-loop-record : goal.invariant-loop-record
invariant-loop-record l = Printed l.records l.initial.text l.text (chunks_exact_rest l.record-iterator) (chunks_exact_size l.record-iterator) (length l.yielded)
