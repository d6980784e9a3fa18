-- The loop's invariant of `gather_entry::check_velocities`: the walk from node k on gives the whole walk's answer.
use Rattle.std.proofs.Common.{◌≡◌, ◌-◌, length}
use Rattle.refusal.specs.Refused.{for_each}
use Rattle.transfer.specs.Transfer.{velocity_check, velocity_checks}
use Rattle.gather_entry.proofs.check_velocities.Given as goal

abbrev pub invariant-loop-k : goal.invariant-loop-k
invariant-loop-k l = velocity_checks (length l.ux) l.ux l.uy ≡ for_each (velocity_check l.ux l.uy) l.k (length l.ux - l.k)
