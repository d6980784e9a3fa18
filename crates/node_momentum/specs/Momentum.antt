-- A node's momenta against its mass: the test of a present node, and of one that surely keeps Update's limits. Assumes nothing.
use Rattle.std.specs.Prelude.{Bool, ◌&&◌, ℕ, ◌*◌, leb, ℤ}
use Rattle.limits.specs.Limits.{most_node_mass}
use Rattle.entry.specs.Checks.{both_within}

-- a mass of at most 2^43, and a momentum on each axis of at most so much for each unit of it
abbrev pub momenta_within : ℕ → ℕ → ℤ → ℤ → Bool
momenta_within most M px py = leb M most_node_mass && both_within (M * most) px py
