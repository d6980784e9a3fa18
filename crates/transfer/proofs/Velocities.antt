-- The checks of the nodes' velocities.
--     start, turn          the walk from its first node, and from a node on, by the node's test
--     node-velocities      velocities that pass are within their limits
-- Assumes nothing.
use mathlib.Core.Path.{◌≡◌, sym, ap, ap₂, ◌∙◌, subst}
use mathlib.Core.Bool.{Bool, not}
use mathlib.Core.List.{List}
use Prim.Native.Nat.{ℕ, ◌+◌, ◌-◌, ◌*◌, ◌<◌, ◌≤◌}
use native.Mathlib.Nat.{zero-add}
use lib.ListN.{length, get_or}
use lib.IntN.{ℤ, pos, nat_abs}
use mir.Syntax.{w64}
use mir.Val.{SFits, to_z, of_z}
use mir.Facts.{to_z-of_z}
use borrow.Author.Tests.{not-false}
use Rattle.arith.specs.Lists.{each_of}
use Rattle.refusal.specs.Refused.{refuse_if, and_then, done, for_each}
use Rattle.refusal.proofs.Answers.{passed, each_start, each_turn, pass-each}
use Rattle.limits.specs.Limits.{most_node_velocity}
use Rattle.entry.specs.Checks.{both_within}
use Rattle.entry.proofs.Entry.{within_both}
use Rattle.gathering.specs.Gather.{NodeVelocities}
use Rattle.transfer.specs.Transfer.{velocity_check, velocity_checks}

module _ (n : ℕ) (ux uy : List ℤ) where
  pub start : velocity_checks n ux uy ≡ for_each (velocity_check ux uy) 0 (n - 0)
  unfolding velocity_checks
  start = each_start (velocity_check ux uy) n

  -- r is what `both_within` answers, of the numbers that the machine holds
  pub turn : (k : ℕ) {r t : Bool} → k < n → SFits w64 (get_or ux k (pos 0)) → SFits w64 (get_or uy k (pos 0)) → r ≡ both_within most_node_velocity (to_z w64 (of_z w64 (get_or ux k (pos 0)))) (to_z w64 (of_z w64 (get_or uy k (pos 0)))) → r ≡ t → for_each (velocity_check ux uy) k (n - k) ≡ and_then (refuse_if (not t) 12 k done) (λ _. for_each (velocity_check ux uy) (k + 1) (n - (k + 1)))
  turn k h f g e t =
      each_turn (velocity_check ux uy) k n h
      ∙ ap (λ x. and_then (refuse_if (not x) 12 k done) (λ _. for_each (velocity_check ux uy) (k + 1) (n - (k + 1))))
      (ap₂ (λ x y. both_within most_node_velocity x y) (sym (to_z-of_z f)) (sym (to_z-of_z g)) ∙ sym e ∙ t)

  within : velocity_checks n ux uy ≡ done → (k : ℕ) → k < n → (nat_abs (get_or ux k (pos 0)) ≤ most_node_velocity) × (nat_abs (get_or uy k (pos 0)) ≤ most_node_velocity)
  unfolding velocity_checks
  within e k h =
      let slow = both_within most_node_velocity (get_or ux k (pos 0)) (get_or uy k (pos 0)) in
      within_both most_node_velocity (get_or ux k (pos 0)) (get_or uy k (pos 0))
      (not-false slow (passed (not slow) 12 k done (ap (velocity_check ux uy) (sym (zero-add k)) ∙ pass-each (velocity_check ux uy) 0 n e k h)).0)

pub node-velocities : (nx ny : ℕ) (ux uy : List ℤ) → length ux ≡ nx * ny → length uy ≡ nx * ny → velocity_checks (nx * ny) ux uy ≡ done → NodeVelocities nx ny ux × NodeVelocities nx ny uy
node-velocities nx ny ux uy a b e =
    let w = within (nx * ny) ux uy e in (
      record { count = a; each = each_of (λ z. nat_abs z ≤ most_node_velocity) (pos 0) ux (λ k h. (w k (subst (λ n. k < n) a h)).0) },
      record { count = b; each = each_of (λ z. nat_abs z ≤ most_node_velocity) (pos 0) uy (λ k h. (w k (subst (λ n. k < n) b h)).1) },
    )
