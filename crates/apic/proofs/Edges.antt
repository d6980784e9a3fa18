-- Drag and rim at one node: examples of the band and of each kind of edge, and laws for any rounding to nearest.
--     drag-less       drag of at most 256 leaves no velocity larger than it was
--     drag-none       no drag changes nothing
--     updated-less    so the update leaves none larger than it was after gravity: the rim clears velocities, and nothing else
--     plain-updated   with open edges and no drag the update leaves the velocity after gravity
--     plain-change    so no node changes
-- Assumes nothing.
use mathlib.Core.Path.{◌≡◌, refl, ap, ◌∙◌, subst}
use mathlib.Core.Bool.{Bool, true, false, cond}
use mathlib.Core.List.{List, [], ◌∷◌, map}
use Prim.Native.Nat.{ℕ, suc, ◌*◌, ◌≤◌, zero-le}
use native.Mathlib.Nat.{le_refl, le_trans}
use native.Mathlib.Omega.{arith}
use lib.Dec.{lit≤, lit<}
use lib.IntN.{ℤ, pos, negsuc, neg_ℤ, nat_abs, ◌-ℤ◌, ◌*ℤ◌}
use lib.Signed.{◌≤ℤ◌}
use Rattle.arith.specs.Order.{Within, linear, reading, ◌&◌, *ℤ-mono-left, pos-mono, pos-nonneg}
use Rattle.arith.specs.Size.{within-bound}
use Rattle.arith.specs.Solver.{ring, quote}
use Rattle.arith.specs.Rounding.{Nearest}
use Rattle.arith.specs.Sums.{up_to}
use Rattle.limits.specs.Limits.{most_drag}
use Rattle.particle.specs.declared.Particle.{Particle}
use Rattle.settings.specs.Settings.{Plain}
use Rattle.settings.specs.declared.Edge.{Edge}
use Rattle.settings.specs.declared.Edge.TheVariants.{Open, Sticky, Slip}
use Rattle.settings.specs.declared.Settings.{Settings}
use Rattle.apic.specs.Step.{Axis, along_x, along_y, node_mass, node_momentum, node_velocity, gravity, after_gravity, after_drag, in_band, holds, updated_velocity}
use Rattle.apic.specs.Totals.{node_change}

-- ---- at work

-- width 1 of 5: the first column and the last; width 3 of 4: all of them, the middle ones twice
bands : (map (in_band 1 5) (up_to 5) ≡ true ∷ false ∷ false ∷ false ∷ true ∷ []) × (map (in_band 2 5) (up_to 5) ≡ true ∷ true ∷ false ∷ true ∷ true ∷ []) × (map (in_band 3 4) (up_to 4) ≡ true ∷ true ∷ true ∷ true ∷ [])
bands = (refl, refl, refl)

-- 5 by 4 nodes and width 1: node (0, 2) is in a column of the band, node (2, 3) in a row, node (4, 0) in both, node (3, 1) in none
held_at : Edge → Axis → List Bool
held_at edge a = holds edge 5 4 a 0 2 ∷ holds edge 5 4 a 2 3 ∷ holds edge 5 4 a 4 0 ∷ holds edge 5 4 a 3 1 ∷ []

kinds : (held_at (Sticky 1) along_x ≡ true ∷ true ∷ true ∷ false ∷ []) × (held_at (Sticky 1) along_y ≡ true ∷ true ∷ true ∷ false ∷ []) × (held_at (Slip 1) along_x ≡ true ∷ false ∷ true ∷ false ∷ []) × (held_at (Slip 1) along_y ≡ false ∷ true ∷ true ∷ false ∷ []) × (held_at Open along_x ≡ false ∷ false ∷ false ∷ false ∷ [])
unfolding held_at
kinds = (refl, refl, refl, refl, refl)

-- ---- drag

-- q is a part of 256·v, from none to all of it, and r a 256th of q, rounded; then the same with signs exchanged
taken : (v q r : ℤ) → pos 0 ≤ℤ q → q ≤ℤ (v *ℤ pos 256) → Within (pos 256) (pos 2 *ℤ (pos 256 *ℤ r -ℤ q)) → Within v (v -ℤ r)
taken v q r h k e = linear (v ∷ q ∷ r ∷ []) (h & k & e) (search reading depth 30) (omega arith)

taken_back : (v q r : ℤ) → pos 0 ≤ℤ q → q ≤ℤ (v *ℤ pos 256) → Within (pos 256) (pos 2 *ℤ (pos 256 *ℤ r -ℤ neg_ℤ q)) → Within v (neg_ℤ v -ℤ r)
taken_back v q r h k e = linear (v ∷ q ∷ r ∷ []) (h & k & e) (search reading depth 30) (omega arith)

module _ (round : ℤ → ℕ → ℤ) (nearest : Nearest round) where
  pub drag-less : (drag : ℕ) → drag ≤ 256 → (u : ℤ) → nat_abs (after_drag round drag u) ≤ nat_abs u
  unfolding after_drag
  drag-less drag h (pos n) =
      (within-bound
      (taken (pos n) (pos n *ℤ pos drag) (round (pos n *ℤ pos drag) 256) (pos-nonneg (n * drag)) (*ℤ-mono-left (pos-nonneg n) (pos-mono h))
      (nearest (pos n *ℤ pos drag) 256 (lit< tt)))).size
  drag-less drag h (negsuc n) =
      (within-bound
      (taken_back (pos (suc n)) (pos (suc n) *ℤ pos drag) (round (negsuc n *ℤ pos drag) 256) (pos-nonneg (suc n * drag)) (*ℤ-mono-left (pos-nonneg (suc n)) (pos-mono h))
      (subst (λ q. Within (pos 256) (pos 2 *ℤ (pos 256 *ℤ round (negsuc n *ℤ pos drag) 256 -ℤ q))) (opposite (pos (suc n)) (pos drag))
      (nearest (negsuc n *ℤ pos drag) 256 (lit< tt))))).size
    where
      opposite : (v k : ℤ) → neg_ℤ v *ℤ k ≡ neg_ℤ (v *ℤ k)
      opposite v k = ring (v ∷ k ∷ []) (search quote depth 30) (search quote depth 30) tt

  pub drag-none : (u : ℤ) → after_drag round 0 u ≡ u
  unfolding after_drag
  drag-none u = nothing-lost u (u *ℤ pos 0) (round (u *ℤ pos 0) 256) (none u) (nearest (u *ℤ pos 0) 256 (lit< tt))
    where
      none : (u : ℤ) → u *ℤ pos 0 ≡ pos 0
      none u = ring (u ∷ []) (search quote depth 30) (search quote depth 30) tt

      nothing-lost : (u q r : ℤ) → q ≡ pos 0 → Within (pos 256) (pos 2 *ℤ (pos 256 *ℤ r -ℤ q)) → u -ℤ r ≡ u
      nothing-lost u q r e h = linear (u ∷ q ∷ r ∷ []) (e & h) (search reading depth 30) (omega arith)

  -- ---- the rim

  rim-less : (held : Bool) (u : ℤ) → nat_abs (cond held (pos 0) u) ≤ nat_abs u
  rim-less true u = zero-le
  rim-less false u = le_refl _

  module _ (D : ℕ) (s : Settings) where
    pub updated-less : s.drag ≤ most_drag → (a : Axis) (i j M : ℕ) (p : ℤ) → nat_abs (updated_velocity round D s a i j M p) ≤ nat_abs (node_velocity round D (gravity s a) M p)
    unfolding updated_velocity
    updated-less slow a i j M p =
        le_trans (rim-less (holds s.edge s.nx s.ny a i j) (after_drag round s.drag (node_velocity round D (gravity s a) M p)))
        (drag-less s.drag (le_trans slow (lit≤ tt)) (node_velocity round D (gravity s a) M p))

    pub plain-updated : Plain s → (a : Axis) (i j M : ℕ) (p : ℤ) → updated_velocity round D s a i j M p ≡ node_velocity round D (gravity s a) M p
    unfolding updated_velocity
    plain-updated plain a i j M p =
        ap (λ e. cond (holds e s.nx s.ny a i j) (pos 0) (after_drag round s.drag (node_velocity round D (gravity s a) M p))) plain.edge-open
        ∙ ap (λ k. after_drag round k (node_velocity round D (gravity s a) M p)) plain.no-drag
        ∙ drag-none (node_velocity round D (gravity s a) M p)

    pub plain-change : Plain s → (w : ℕ → ℕ → ℤ) (a : Axis) (ps : List Particle) (i j : ℕ) → node_change round w D s a ps i j ≡ pos 0
    unfolding node_change
    plain-change plain w a ps i j =
        ap (λ u. u -ℤ after_gravity round w D (gravity s a) a ps i j) (plain-updated plain a i j (nat_abs (node_mass w ps i j)) (node_momentum w D a ps i j))
        ∙ itself (after_gravity round w D (gravity s a) a ps i j)
      where
        itself : (u : ℤ) → u -ℤ u ≡ pos 0
        itself u = ring (u ∷ []) (search quote depth 30) (search quote depth 30) tt
