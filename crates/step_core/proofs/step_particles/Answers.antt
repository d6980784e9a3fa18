-- `step_core::step_particles`. Assumes nothing.
use Rattle.std.proofs.Common.{arith}
use Rattle.simulation.proofs.Particles.{update-ready, gather-ready, step-leaves}
use Rattle.step_core.proofs.step_particles.Goals as goal

pub update_all-requires : goal.update_all-requires
update_all-requires c = update-ready c.requires c.scatter_all.ensures

pub gather_from-requires : goal.gather_from-requires
gather_from-requires c = (gather-ready c.requires c.scatter_all.ensures c.update_all.ensures.0 c.update_all.ensures.1, omega arith)

pub returns : goal.returns
returns c = step-leaves c.requires c.scatter_all.ensures c.update_all.ensures.0 c.update_all.ensures.1 c.gather_from.ensures
