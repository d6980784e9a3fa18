-- `update_grid::check_nodes`: the walk from node k on gives the whole walk's answer.
use Rattle.std.proofs.Common.{◌≡◌, ◌-◌}
use Rattle.refusal.specs.Refused.{for_each}
use Rattle.update.specs.Update.{check_node_at, check_nodes}
use Rattle.update_grid.proofs.check_nodes.Given as goal

abbrev pub invariant-loop-k : goal.invariant-loop-k
invariant-loop-k l = check_nodes l.d l.count l.gx l.gy l.mass l.px l.py ≡ for_each (check_node_at l.d l.gx l.gy l.mass l.px l.py) l.k (l.count - l.k)
