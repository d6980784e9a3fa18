-- `scatter_particle::middle` meets its contract. Assumes nothing.
use Rattle.scatter_particle.proofs.Numbers.{middle_of}
use Rattle.scatter_particle.proofs.middle.Goals as goal

pub returns : goal.returns
returns c = middle_of c.args.x
