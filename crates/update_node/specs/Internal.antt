-- What contracts inside the crate say: the divisor of a node's momentum. Assumes nothing.
use Rattle.std.specs.Prelude.{ℕ, ◌*◌, ◌/◌, ◌≤◌}
use Rattle.limits.specs.Limits.{most_node_mass}
use Rattle.spline.specs.Kernel.{least_d, most_d}

-- what M·D/256 is for a mass M above 0: from the least D, and to the most D and mass
pub record Divisor (n : ℕ) : Type 0 where
  pub least : least_d / 256 ≤ n
  pub most : n ≤ most_d / 256 * most_node_mass
