-- The loop of `gather_entry::check_velocities` begins with the whole walk. Assumes nothing.
use Rattle.transfer.proofs.Velocities.{start}
use Rattle.gather_entry.proofs.check_velocities.Goals as goal

pub loop-k-init : goal.loop-k-init
loop-k-init c = start _ _ _
