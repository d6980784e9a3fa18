-- `scatter_particle::speed` meets its contract. Assumes nothing.
use Rattle.scatter_particle.proofs.Numbers.{speed-facts}
use Rattle.scatter_particle.proofs.speed.Goals as goal

pub overflow_add-result : goal.overflow_add-result
overflow_add-result c = (speed-facts c.requires).half-fits

pub overflow_add-result-2 : goal.overflow_add-result-2
overflow_add-result-2 c = (speed-facts c.requires).whole-fits

pub returns : goal.returns
returns c = (speed-facts c.requires).is
