-- What `write_all`'s loop keeps: the output has got what is no longer left of the text.
use Rattle.std.proofs.Common.{◌≡◌, ℕ, List, ◌++◌}
use Rattle.std.specs.Io.KnownBytes.{Appends}
use Rattle.streams.proofs.write_all.Given as goal

abbrev pub invariant-loop : goal.invariant-loop
invariant-loop g l = (sent : List ℕ) × (l.initial.left ≡ sent ++ l.left) × Appends (g.W.Write.contents l.initial.output) (g.W.Write.contents l.output) sent
