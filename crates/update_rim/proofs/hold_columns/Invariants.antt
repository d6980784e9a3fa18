-- `update_rim::hold_columns`: the band's columns are cleared in the first j rows.
use Rattle.std.proofs.Common.{◌≡◌, ℕ, ◌/◌, Bool, ◌&&◌, ltb}
use Rattle.update_rim.specs.Internal.{cleared, in_columns}
use Rattle.update_rim.proofs.hold_columns.Given as goal

-- in the band's columns of the first j rows
abbrev pub done : ℕ → ℕ → ℕ → ℕ → Bool
done nx width j k = ltb (k / nx) j && in_columns width nx k

abbrev pub invariant-loop-j : goal.invariant-loop-j
invariant-loop-j l = l.velocities ≡ cleared (done l.nx l.width l.j) l.initial.velocities
