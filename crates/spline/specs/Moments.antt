-- What the transfers may use of an axis's weights: over all n nodes, the weights w of a particle at x are never negative,
-- total 8192, have first moment 0 and second moment 8192·D about the particle. Assumes nothing.
use Rattle.std.specs.Prelude.{◌≡◌, ℕ, ℤ, pos, ◌*ℤ◌, ◌≤ℤ◌}
use Rattle.arith.specs.Sums.{sum_over, up_to}
use Rattle.spline.specs.Spline.{displacement}

pub record Moments (D : ℤ) (n x : ℕ) (w : ℕ → ℤ) : Type 0 where
  pub nonneg : (i : ℕ) → pos 0 ≤ℤ w i
  pub total : sum_over (up_to n) (λ i. w i) ≡ pos 8192
  pub first : sum_over (up_to n) (λ i. w i *ℤ displacement x i) ≡ pos 0
  pub second : sum_over (up_to n) (λ i. w i *ℤ (displacement x i *ℤ displacement x i)) ≡ pos 8192 *ℤ D
