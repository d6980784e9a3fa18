-- The checks of the nodes, and the sums.
--     present-moderate, moderate-present     20's test, and what it says as a fact
--     sum-moderate                 two nodes that pass it, added
--     node-refused, node-heavy, node-passes   what a node's check answers, by its tests
--     nodes-facts, nodes-pass      all nodes pass where each does, and only there
--     gained, sums-present         where no node is refused the sums pass 20's test again
-- Assumes nothing.
use mathlib.Core.Path.{◌≡◌, refl, sym, ap, ap₂, ◌∙◌, subst}
use mathlib.Core.Bool.{Bool, true, false, not, ◌&&◌}
use mathlib.Core.List.{List}
use Prim.Native.Nat.{ℕ, ◌+◌, ◌-◌, ◌*◌, ◌≤◌, ◌<◌}
use native.Mathlib.Nat.{zero-add, add-mul}
use lib.Dec.{leb, ltb}
use lib.ListN.{length, get_or}
use lib.IntN.{ℤ, pos, ◌+ℤ◌}
use borrow.Author.Tests.{le-leb, leb-true, le-ltb, lt-ltb, ltb-false, not-false}
use Rattle.refusal.specs.Refused.{refused, refuse_if, done, for_each}
use Rattle.refusal.proofs.Answers.{passed, each_start, each-pass, pass-each}
use Rattle.arith.specs.Size.{Bound, bound-sum}
use Rattle.arith.specs.Lists.{get_or-tabulated, length-tabulated}
use Rattle.limits.specs.Limits.{most_node_mass, most_present_momentum}
use Rattle.entry.specs.Checks.{both_within}
use Rattle.entry.proofs.Entry.{and-true, within_both, both-within}
use Rattle.apic.specs.Step.{Grids}
use Rattle.adding.specs.Adding.{valid_present, check_node, check_node_at, check_nodes, mass_sums, momentum_sums, grid_sums}
use Rattle.adding.specs.Sections.{Present}
use Rattle.adding.specs.Internal.{Moderate, ModerateGrids}

-- ---- a present node

module _ (M : ℕ) (px py : ℤ) where
  pub present-moderate : valid_present M px py ≡ true → Moderate M px py
  present-moderate e =
      let a = and-true (leb M most_node_mass) (both_within (M * most_present_momentum) px py) e in
      let p = within_both (M * most_present_momentum) px py a.1 in
      record { light = leb-true M most_node_mass a.0; slow-x = record { size = p.0 }; slow-y = record { size = p.1 } }

  pub moderate-present : Moderate M px py → valid_present M px py ≡ true
  moderate-present m =
      ap₂ ◌&&◌ (le-leb M most_node_mass m.light) (both-within (M * most_present_momentum) px py m.slow-x.size m.slow-y.size)

pub sum-moderate : (M N : ℕ) (px py qx qy : ℤ) → M + N ≤ most_node_mass → Moderate M px py → Moderate N qx qy → Moderate (M + N) (px +ℤ qx) (py +ℤ qy)
sum-moderate M N px py qx qy h m n = record { light = h; slow-x = both m.slow-x n.slow-x; slow-y = both m.slow-y n.slow-y }
  where
    both : {p q : ℤ} → Bound p (M * most_present_momentum) → Bound q (N * most_present_momentum) → Bound (p +ℤ q) ((M + N) * most_present_momentum)
    both {p} {q} a b = subst (λ n. Bound (p +ℤ q) n) (sym (add-mul M N most_present_momentum)) (bound-sum a b)

-- ---- one node's checks

module _ (k M : ℕ) (px py : ℤ) (gain : ℕ) where
  by_tests : {a b : Bool} → valid_present M px py ≡ a → ltb most_node_mass (M + gain) ≡ b → check_node k M px py gain ≡ refuse_if (not a) 20 k (refuse_if b 21 k done)
  unfolding check_node
  by_tests e f = ap₂ (λ a b. refuse_if (not a) 20 k (refuse_if b 21 k done)) e f

  pub node-refused : valid_present M px py ≡ false → check_node k M px py gain ≡ refused 20 k
  node-refused e = by_tests e refl

  pub node-heavy : valid_present M px py ≡ true → most_node_mass < M + gain → check_node k M px py gain ≡ refused 21 k
  node-heavy e h = by_tests e (lt-ltb most_node_mass (M + gain) h)

  pub node-passes : valid_present M px py ≡ true → M + gain ≤ most_node_mass → check_node k M px py gain ≡ done
  node-passes e h = by_tests e (le-ltb most_node_mass (M + gain) h)

  pub node-facts : check_node k M px py gain ≡ done → (valid_present M px py ≡ true) × (M + gain ≤ most_node_mass)
  unfolding check_node
  node-facts e =
      let a = passed (not (valid_present M px py)) 20 k (refuse_if (ltb most_node_mass (M + gain)) 21 k done) e in
      let b = passed (ltb most_node_mass (M + gain)) 21 k done a.1 in
      (not-false (valid_present M px py) a.0, ltb-false most_node_mass (M + gain) b.0)

-- ---- all nodes

module _ (n : ℕ) (g : Grids) (gain : List ℕ) where
  pub nodes-facts : check_nodes n g gain ≡ done → (k : ℕ) → k < n → (valid_present (get_or g.mass k 0) (get_or g.x k (pos 0)) (get_or g.y k (pos 0)) ≡ true) × (get_or g.mass k 0 + get_or gain k 0 ≤ most_node_mass)
  unfolding check_nodes
  nodes-facts e k h =
      node-facts k (get_or g.mass k 0) (get_or g.x k (pos 0)) (get_or g.y k (pos 0)) (get_or gain k 0)
      (ap (check_node_at g gain) (sym (zero-add k)) ∙ pass-each (check_node_at g gain) 0 n e k h)

  pub nodes-pass : Present n g → ((k : ℕ) → k < n → get_or g.mass k 0 + get_or gain k 0 ≤ most_node_mass) → check_nodes n g gain ≡ done
  unfolding check_nodes
  nodes-pass present light =
      each-pass (check_node_at g gain) 0 n
      (λ k h. ap (check_node_at g gain) (zero-add k) ∙ node-passes k (get_or g.mass k 0) (get_or g.x k (pos 0)) (get_or g.y k (pos 0)) (get_or gain k 0) (present k h) (light k h))

  -- the walk from its first node
  pub walk_start : check_nodes n g gain ≡ for_each (check_node_at g gain) 0 (n - 0)
  unfolding check_nodes
  walk_start = each_start (check_node_at g gain) n

-- ---- the sums

module _ (n : ℕ) (l m : List ℕ) where
  pub length-masses : length (mass_sums n l m) ≡ n
  unfolding mass_sums
  length-masses = length-tabulated (λ k. get_or l k 0 + get_or m k 0) n

  pub mass-at : (k : ℕ) → k < n → get_or (mass_sums n l m) k 0 ≡ get_or l k 0 + get_or m k 0
  unfolding mass_sums
  mass-at k h = get_or-tabulated (λ k. get_or l k 0 + get_or m k 0) n k 0 h

module _ (n : ℕ) (l m : List ℤ) where
  pub length-momenta : length (momentum_sums n l m) ≡ n
  unfolding momentum_sums
  length-momenta = length-tabulated (λ k. get_or l k (pos 0) +ℤ get_or m k (pos 0)) n

  pub momentum-at : (k : ℕ) → k < n → get_or (momentum_sums n l m) k (pos 0) ≡ get_or l k (pos 0) +ℤ get_or m k (pos 0)
  unfolding momentum_sums
  momentum-at k h = get_or-tabulated (λ k. get_or l k (pos 0) +ℤ get_or m k (pos 0)) n k (pos 0) h

-- the grids h pass 20's test as those that are added to do
module _ (n : ℕ) (g h : Grids) (gain : ModerateGrids n h) (e : check_nodes n g h.mass ≡ done) where
  pub gained : (k : ℕ) → k < n → Moderate (get_or g.mass k 0 + get_or h.mass k 0) (get_or g.x k (pos 0) +ℤ get_or h.x k (pos 0)) (get_or g.y k (pos 0) +ℤ get_or h.y k (pos 0))
  gained k b =
      let f = nodes-facts n g h.mass e k b in
      sum-moderate _ _ (get_or g.x k (pos 0)) (get_or g.y k (pos 0)) (get_or h.x k (pos 0)) (get_or h.y k (pos 0)) f.1 (present-moderate _ _ _ f.0) (gain k b)

  pub sums-present : Present n (grid_sums n g h)
  sums-present k b =
      subst (λ M. valid_present M (get_or (momentum_sums n g.x h.x) k (pos 0)) (get_or (momentum_sums n g.y h.y) k (pos 0)) ≡ true) (sym (mass-at n g.mass h.mass k b))
      (ap₂ (valid_present (get_or g.mass k 0 + get_or h.mass k 0)) (momentum-at n g.x h.x k b) (momentum-at n g.y h.y k b)
      ∙ moderate-present _ _ _ (gained k b))
