-- The walk over the nodes: what one node's check tells of its limits, and the group of all nodes.
--     node-heavy, node-fast, node-passes   what a node's check answers, by its tests
--     node-limits, limits-pass             a node passes where it keeps the limits, and only there
--     nodes-limits, limits-nodes           as node-limits and limits-pass, for all nodes
--     walk_start                           the walk from its first node
-- Assumes nothing.
use mathlib.Core.Path.{◌≡◌, refl, sym, ap, ap₂, ◌∙◌, subst}
use mathlib.Core.Bool.{Bool, true, false, not, ◌&&◌, ◌||◌}
use mathlib.Core.List.{List}
use Prim.Native.Nat.{ℕ, zero, suc, ◌-◌, ◌≤◌, ◌<◌}
use native.Mathlib.Nat.{zero-add}
use native.Mathlib.Omega.{arith}
use lib.Dec.{ltb, eqb}
use lib.ListN.{get_or}
use lib.IntN.{ℤ, pos, negsuc, nat_abs}
use borrow.Author.Tests.{ltb-false, eqb-true, le-ltb, ne_eqb, eq-eqb, not-false}
use Rattle.refusal.specs.Refused.{refused, refuse_if, done, for_each}
use Rattle.refusal.proofs.Answers.{passed, each_start, each-pass, pass-each}
use Rattle.limits.specs.Limits.{most_node_mass, most_node_velocity}
use Rattle.limits.proofs.Flags.{or-false}
use Rattle.entry.specs.Checks.{both_within}
use Rattle.entry.proofs.Entry.{within_both, both-within}
use Rattle.update.specs.Update.{velocity_of, breaks_mass, check_node, check_node_at, check_nodes, NodeLimits}

-- ---- tests as facts

pub zero-size : (z : ℤ) → nat_abs z ≡ 0 → z ≡ pos 0
zero-size (pos n) e = ap pos e
zero-size (negsuc n) e = absurd (never n e)
  where
    never : (n : ℕ) → suc n ≡ 0 → ⊥
    never n e = omega arith

module _ (M : ℕ) (px py : ℤ) where
  parts : breaks_mass M px py ≡ false → (ltb most_node_mass M ≡ false) × ((eqb M 0 && (not (eqb (nat_abs px) 0) || not (eqb (nat_abs py) 0))) ≡ false)
  parts e = or-false (ltb most_node_mass M) (eqb M 0 && (not (eqb (nat_abs px) 0) || not (eqb (nat_abs py) 0))) e

  pub mass-most : breaks_mass M px py ≡ false → M ≤ most_node_mass
  mass-most e = ltb-false most_node_mass M (parts e).0

  massless : breaks_mass M px py ≡ false → M ≡ 0 → (px ≡ pos 0) × (py ≡ pos 0)
  massless e z =
      let b = or-false (not (eqb (nat_abs px) 0)) (not (eqb (nat_abs py) 0)) (subst (λ t. t && (not (eqb (nat_abs px) 0) || not (eqb (nat_abs py) 0)) ≡ false) (eq-eqb M 0 z) (parts e).1) in
      (zero-size px (eqb-true (nat_abs px) 0 (not-false (eqb (nat_abs px) 0) b.0)), zero-size py (eqb-true (nat_abs py) 0 (not-false (eqb (nat_abs py) 0) b.1)))

keeps-mass : (M : ℕ) (px py : ℤ) → M ≤ most_node_mass → (M ≡ 0 → px ≡ pos 0) → (M ≡ 0 → py ≡ pos 0) → breaks_mass M px py ≡ false
keeps-mass zero px py h x y = ap₂ (λ a b. breaks_mass zero a b) (x refl) (y refl)
keeps-mass (suc M) px py h x y =
    ap₂ (λ a b. a || (b && (not (eqb (nat_abs px) 0) || not (eqb (nat_abs py) 0)))) (le-ltb most_node_mass (suc M) h) (ne_eqb (suc M) 0 (λ e. omega arith))

-- ---- one node

module _ (D : ℕ) (gx gy : ℤ) (k M : ℕ) (px py : ℤ) where
  by_tests : (a b : Bool) → breaks_mass M px py ≡ a → both_within most_node_velocity (velocity_of D gx M px) (velocity_of D gy M py) ≡ b → check_node D gx gy k M px py ≡ refuse_if a 11 k (refuse_if (not b) 12 k done)
  unfolding check_node
  by_tests a b e f = ap₂ (λ u v. refuse_if u 11 k (refuse_if (not v) 12 k done)) e f

  pub node-heavy : breaks_mass M px py ≡ true → check_node D gx gy k M px py ≡ refused 11 k
  node-heavy e = by_tests true _ e refl

  pub node-fast : breaks_mass M px py ≡ false → both_within most_node_velocity (velocity_of D gx M px) (velocity_of D gy M py) ≡ false → check_node D gx gy k M px py ≡ refused 12 k
  node-fast e f = by_tests false false e f

  pub node-passes : breaks_mass M px py ≡ false → both_within most_node_velocity (velocity_of D gx M px) (velocity_of D gy M py) ≡ true → check_node D gx gy k M px py ≡ done
  node-passes e f = by_tests false true e f

  pub limits-pass : NodeLimits D gx gy M px py → check_node D gx gy k M px py ≡ done
  limits-pass l =
      node-passes (keeps-mass M px py l.mass l.massless-x l.massless-y)
      (both-within most_node_velocity (velocity_of D gx M px) (velocity_of D gy M py) l.vx l.vy)

  pub node-limits : check_node D gx gy k M px py ≡ done → NodeLimits D gx gy M px py
  unfolding check_node
  node-limits e =
      let fast = both_within most_node_velocity (velocity_of D gx M px) (velocity_of D gy M py) in
      let a = passed (breaks_mass M px py) 11 k (refuse_if (not fast) 12 k done) e in
      let b = passed (not fast) 12 k done a.1 in
      let v = within_both most_node_velocity (velocity_of D gx M px) (velocity_of D gy M py) (not-false fast b.0) in
      record {
        mass = mass-most M px py a.0;
        massless-x = λ z. (massless M px py a.0 z).0;
        massless-y = λ z. (massless M px py a.0 z).1;
        vx = v.0;
        vy = v.1;
      }

-- ---- all nodes

module _ (D n : ℕ) (gx gy : ℤ) (mass : List ℕ) (px py : List ℤ) where
  pub nodes-limits : check_nodes D n gx gy mass px py ≡ done → (k : ℕ) → k < n → NodeLimits D gx gy (get_or mass k 0) (get_or px k (pos 0)) (get_or py k (pos 0))
  unfolding check_nodes
  nodes-limits e k h =
      node-limits D gx gy k (get_or mass k 0) (get_or px k (pos 0)) (get_or py k (pos 0))
      (ap (check_node_at D gx gy mass px py) (sym (zero-add k)) ∙ pass-each (check_node_at D gx gy mass px py) 0 n e k h)

  pub limits-nodes : ((k : ℕ) → k < n → NodeLimits D gx gy (get_or mass k 0) (get_or px k (pos 0)) (get_or py k (pos 0))) → check_nodes D n gx gy mass px py ≡ done
  unfolding check_nodes
  limits-nodes h =
      each-pass (check_node_at D gx gy mass px py) 0 n
      (λ k l. ap (check_node_at D gx gy mass px py) (zero-add k) ∙ limits-pass D gx gy k (get_or mass k 0) (get_or px k (pos 0)) (get_or py k (pos 0)) (h k l))

  -- the walk from its first node
  pub walk_start : check_nodes D n gx gy mass px py ≡ for_each (check_node_at D gx gy mass px py) 0 (n - 0)
  unfolding check_nodes
  walk_start = each_start (check_node_at D gx gy mass px py) n
