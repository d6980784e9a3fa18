-- `transfer_part::scatter_part` meets its contract. Assumes nothing.
use Rattle.particles.specs.Set.{particles_in}
use Rattle.transfer.proofs.Scatters.{set-ready}
use Rattle.transfer_part.proofs.scatter_part.Goals as goal

pub add_all-requires : goal.add_all-requires
add_all-requires c = set-ready c.args.records.now c.unpack_set.ensures c.requires.0

pub returns : goal.returns
returns c =
    c.add_all.ensures (particles_in c.args.records.now) (record { is = c.unpack_set.ensures; limits = c.requires.0.limits })
