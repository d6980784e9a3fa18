-- What `word_from`'s loop keeps: a turn takes a byte, so no more are kept than there were turns.
use Rattle.std.proofs.Common.{◌≤◌, length}
use Rattle.lines.proofs.console.word_from.Given as goal

abbrev pub invariant-loop : goal.invariant-loop
invariant-loop g l = (length l.bytes.items ≤ l.counter) × (l.counter ≤ 65536)
