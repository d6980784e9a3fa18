-- What `read_all`'s loop keeps: no more is read than the buffer holds.
use Rattle.std.proofs.Common.{◌≤◌, length}
use Rattle.streams.proofs.read_all.Given as goal

abbrev pub invariant-loop : goal.invariant-loop
invariant-loop g l = l.done ≤ length l.buffer
