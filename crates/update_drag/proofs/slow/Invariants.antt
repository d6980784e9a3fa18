-- `update_drag::slow`: the first k velocities are slowed, the others as they were.
use Rattle.std.proofs.Common.{◌≡◌, ℕ, List, get_or, ℤ, pos}
use Rattle.arith.specs.Rounding.{rounded}
use Rattle.arith.specs.Fill.{filled}
use Rattle.apic.specs.Step.{after_drag}
use Rattle.update_drag.proofs.slow.Given as goal

abbrev pub at : ℕ → List ℤ → ℕ → ℤ
at drag velocities k = after_drag rounded drag (get_or velocities k (pos 0))

abbrev pub invariant-loop-u : goal.invariant-loop-u
invariant-loop-u l = l.velocities ≡ filled (at l.drag l.initial.velocities) l.u-index l.initial.velocities
