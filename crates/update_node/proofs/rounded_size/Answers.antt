-- `update_node::rounded_size`, by `rounded-up` and `rounded-down`. Assumes nothing.
use Rattle.std.proofs.Common.{ℕ, ◌/◌, ◌^◌, ◌≤◌, sym, arith}
use native.Mathlib.Nat.{div-le_of_le-mul}
use Rattle.arith.proofs.Rounding.{rounded-up, rounded-down}
use Rattle.update_node.specs.Internal.{Divisor}
use Rattle.update_node.proofs.Sizes.{positive}
use Rattle.update_node.proofs.rounded_size.Goals as goal

quotient-most : {d : ℕ} → Divisor d → (a : ℕ) → a ≤ 2 ^ 63 → a / d ≤ 2 ^ 61
quotient-most {d} divisor a h = div-le_of_le-mul d (omega (arith, divisor.least))

pub returns-then-rest-quotient : goal.returns-then-rest-quotient
returns-then-rest-quotient c = (
  sym (rounded-up c.args.size c.args.divisor (positive c.requires.1) c.if-rest-quotient.true),
  omega (arith, quotient-most c.requires.1 c.args.size c.requires.0),
)

pub returns : goal.returns
returns c = (
  sym (rounded-down c.args.size c.args.divisor (positive c.requires.1) c.if-rest-quotient.false),
  omega (arith, quotient-most c.requires.1 c.args.size c.requires.0),
)
