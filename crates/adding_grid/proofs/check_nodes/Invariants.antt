-- The answer is that of the nodes from k on.
use Rattle.std.proofs.Common.{◌≡◌, ◌-◌}
use Rattle.refusal.specs.Refused.{for_each}
use Rattle.apic.specs.Step.{grids_of}
use Rattle.adding.specs.Adding.{check_node_at, check_nodes}
use Rattle.adding_grid.proofs.check_nodes.Given as goal

abbrev pub invariant-loop-k : goal.invariant-loop-k
invariant-loop-k l =
    check_nodes l.count (grids_of l.mass l.px l.py) l.gain ≡ for_each (check_node_at (grids_of l.mass l.px l.py) l.gain) l.k (l.count - l.k)
