-- `gather_point::row_shares` meets its contract: the three nodes' velocities are small. Assumes nothing.
use Rattle.std.proofs.Common.{◌≡◌, sym, subst, ◌∙◌, List, ℕ, ◌+◌, ◌≤◌, ◌<◌, length, get_or, ℤ, pos, nat_abs, arith, w64, to_z, of_z}
use Rattle.arith.specs.Size.{Bound}
use Rattle.arith.specs.Machine.{read}
use Rattle.arith.specs.Lists.{each_at}
use Rattle.arith.specs.Sums.{Each}
use Rattle.limits.specs.Limits.{most_node_velocity}
use Rattle.spline.specs.declared.AxisWeights.{AxisWeights}
use Rattle.gather_point.specs.declared.Shares.{Shares}
use Rattle.gather_point.specs.Point.{weighed, row_shares, SmallWeights, SmallShares}
use Rattle.gather_point.proofs.Numbers.{row_small}
use Rattle.gather_point.proofs.row_shares.Goals as goal

record Sizes (u : List ℤ) (at : ℕ) : Type 0 where
  first : Bound (get_or u at (pos 0)) most_node_velocity
  second : Bound (get_or u (at + 1) (pos 0)) most_node_velocity
  third : Bound (get_or u (at + 2) (pos 0)) most_node_velocity

sizes-at : (u : List ℤ) (at : ℕ) → at + 2 < length u → Each (λ z. nat_abs z ≤ most_node_velocity) u → Sizes u at
sizes-at u at h e =
    record {
      first = record { size = each_at (λ z. nat_abs z ≤ most_node_velocity) u at (pos 0) e (omega arith) };
      second = record { size = each_at (λ z. nat_abs z ≤ most_node_velocity) u (at + 1) (pos 0) e (omega arith) };
      third = record { size = each_at (λ z. nat_abs z ≤ most_node_velocity) u (at + 2) (pos 0) e (omega arith) };
    }

row : (w : AxisWeights) {u : List ℤ} {at : ℕ} → SmallWeights w → Sizes u at → (r : Shares) → r ≡ weighed w (to_z w64 (of_z w64 (get_or u at (pos 0)))) (to_z w64 (of_z w64 (get_or u (at + 1) (pos 0)))) (to_z w64 (of_z w64 (get_or u (at + 2) (pos 0)))) → (r ≡ row_shares w u at) × SmallShares r
unfolding row_shares
row w {u} {at} s d r e =
    let is : r ≡ row_shares w u at = e ∙ (λ i. weighed w (read w64 d.first tt i) (read w64 d.second tt i) (read w64 d.third tt i)) in
    (is, subst SmallShares (sym is) (row_small w _ _ _ s d.first d.second d.third))

pub returns : goal.returns
returns c =
    row c.args.w c.weigh.ensures.1 (sizes-at c.args.u.now c.args.at c.requires.0 c.requires.1) c.weigh.result c.weigh.ensures.0
