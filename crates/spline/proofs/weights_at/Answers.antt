-- `spline::weights_at` meets its contract. Assumes nothing.
use Rattle.std.proofs.Common.{rules}
use Rattle.spline.specs.Kernel.{weights_at}
use Rattle.spline.proofs.weights_at.Goals as goal

pub returns : goal.returns
unfolding weights_at
returns c = search rules
