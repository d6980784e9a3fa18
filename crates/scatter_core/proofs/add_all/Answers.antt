-- `scatter_core::add_all` meets its contract. Assumes nothing.
use Rattle.scatter_core.proofs.Sets.{begin, nth-ready, turn, finish}
use Rattle.scatter_core.proofs.add_all.Goals as goal

pub loop-k-init : goal.loop-k-init
loop-k-init c = begin c.requires

pub add_nth-requires : goal.add_nth-requires
add_nth-requires c = nth-ready c.requires c.loop-k.invariant c.loop-k-test.true

pub loop-k-preserved : goal.loop-k-preserved
loop-k-preserved c = turn c.requires c.loop-k.invariant c.loop-k-test.true c.add_nth.ensures

pub returns : goal.returns
returns c = finish c.requires c.loop-k.invariant c.loop-k-test.false
