-- `update_grid::accelerate`: the first k nodes hold velocities, the others their momenta; a node without mass holds 0 before and
-- after its turn.
use Rattle.std.proofs.Common.{◌≡◌, ℕ, List, get_or, ℤ, pos}
use Rattle.arith.specs.Fill.{filled}
use Rattle.update.specs.Update.{velocity_of}
use Rattle.update_grid.proofs.accelerate.Given as goal

abbrev pub at : ℕ → ℤ → List ℕ → List ℤ → ℕ → ℤ
at d g mass momentum k = velocity_of d g (get_or mass k 0) (get_or momentum k (pos 0))

abbrev pub invariant-loop-k : goal.invariant-loop-k
invariant-loop-k l =
    (l.px ≡ filled (at l.d l.gx l.mass l.initial.px) l.k l.initial.px)
    × (l.py ≡ filled (at l.d l.gy l.mass l.initial.py) l.k l.initial.py)
