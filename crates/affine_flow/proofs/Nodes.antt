-- An affine flow on the nodes, and what each particle gathers from them.
--     carried-flow       every particle carries the same to a node: (D/256)·A + B·(node place)
--     flow-momentum      so a node's momentum is its mass times that
--     flow-velocity      and its velocity, where it has mass, is u of WholeAtNodes, nothing being rounded
--     flow-line          D·u is linear in the offsets from a particle of the flow: 256·(D·v + B·d)
--     flow-gathered, flow-affine
--                        so the particle gathers its v and its B
-- Assumes nothing.
use mathlib.Core.Path.{◌≡◌, sym, ap, ◌∙◌}
use mathlib.Core.List.{List, [], ◌∷◌}
use Prim.Native.Nat.{ℕ, suc, ◌*◌, ◌/◌, ◌^◌, ◌<◌}
use native.Mathlib.Omega.{arith}
use lib.Dec.{lit<}
use lib.IntN.{ℤ, pos, nat_abs, ◌+ℤ◌, ◌-ℤ◌, ◌*ℤ◌, +ℤ_idr}
use lib.Signed.{◌<ℤ◌}
use Rattle.arith.specs.Order.{nonneg_pos, pos-positive, *ℤ-cancel-equal}
use Rattle.arith.specs.Solver.{ring, quote}
use Rattle.arith.specs.Rounding.{halves_even, rounded}
use Rattle.arith.proofs.Rounding.{nearest-exact}
use Rattle.arith.specs.Sums.{Each, sum-cong-each, sum-scale-right}
use Rattle.particle.specs.declared.Particle.{Particle}
use Rattle.apic.specs.Step.{Axis, along_x, along_y, velocity, affine, apart, weight, node_mass, carried, node_momentum, node_velocity, gathered_velocity, gathered_affine}
use Rattle.apic.specs.Motion.{Placed}
use Rattle.apic.proofs.Quadratic.{Whole}
use Rattle.apic.proofs.Update.{node-mass-nonneg, product-positive}
use Rattle.apic.proofs.Weighed.{Weighs, LinearAt, linear-velocity, linear-affine}
use Rattle.affine_flow.specs.Flow.{Flow, times_place, Follows, WholeAtNodes}

module _ (D : ℕ) (whole : Whole D) (f : Flow) where
  -- ---- scatter

  abbrev node_flow : Axis → ℕ → ℕ → ℤ
  node_flow a i j = pos (D / 256) *ℤ f.A a +ℤ times_place f a (64 * i) (64 * j)

  carried-flow : (a : Axis) (p : Particle) → Follows D (D / 256) f p → (i j : ℕ) → carried D a p i j ≡ node_flow a i j
  carried-flow a p h i j =
      (λ t. h.its-velocity a t +ℤ h.its-affine a along_x t *ℤ apart along_x p i j +ℤ h.its-affine a along_y t *ℤ apart along_y p i j)
      ∙ there (pos (D / 256) *ℤ f.A a) (f.B a along_x) (f.B a along_y) (pos p.x) (pos p.y) (pos (64 * i)) (pos (64 * j))
    where
      there : (c bx by x y X Y : ℤ) → c +ℤ (bx *ℤ x +ℤ by *ℤ y) +ℤ bx *ℤ (X -ℤ x) +ℤ by *ℤ (Y -ℤ y) ≡ c +ℤ (bx *ℤ X +ℤ by *ℤ Y)
      there c bx by x y X Y = ring (c ∷ bx ∷ by ∷ x ∷ y ∷ X ∷ Y ∷ []) (search quote depth 30) (search quote depth 30) tt

  flow-momentum : (w : ℕ → ℕ → ℤ) (a : Axis) (ps : List Particle) → Each (Follows D (D / 256) f) ps → (i j : ℕ) → node_momentum w D a ps i j ≡ node_mass w ps i j *ℤ node_flow a i j
  unfolding node_mass node_momentum
  flow-momentum w a ps follows i j =
      sum-cong-each (Follows D (D / 256) f) _ _ (λ p h. ap (λ c. pos p.mass *ℤ weight w p i j *ℤ c) (carried-flow a p h i j)) ps follows
      ∙ sum-scale-right (node_flow a i j) (λ p. pos p.mass *ℤ weight w p i j) ps

  -- ---- update

  module _ {nx ny : ℕ} (nodes : WholeAtNodes D f nx ny) (a : Axis) where
    256-times : (z : ℤ) → pos D *ℤ z ≡ pos 256 *ℤ (pos (D / 256) *ℤ z)
    256-times z = ap (λ d. pos d *ℤ z) whole.times ∙ grouped (pos (D / 256)) z
      where
        grouped : (k z : ℤ) → pos 256 *ℤ k *ℤ z ≡ pos 256 *ℤ (k *ℤ z)
        grouped k z = ring (k ∷ z ∷ []) (search quote depth 30) (search quote depth 30) tt

    -- D·u is 256 times what a particle carries there
    node-flow : (i j : ℕ) → i < nx → j < ny → pos D *ℤ nodes.u a i j ≡ pos 256 *ℤ node_flow a i j
    node-flow i j in-x in-y =
        nodes.is a i j in-x in-y
        ∙ ap (λ z. z +ℤ pos 256 *ℤ times_place f a (64 * i) (64 * j)) (256-times (f.A a))
        ∙ together (pos (D / 256) *ℤ f.A a) (times_place f a (64 * i) (64 * j))
      where
        together : (x y : ℤ) → pos 256 *ℤ x +ℤ pos 256 *ℤ y ≡ pos 256 *ℤ (x +ℤ y)
        together x y = ring (x ∷ y ∷ []) (search quote depth 30) (search quote depth 30) tt

    divided : (i j : ℕ) → i < nx → j < ny → node_flow a i j ≡ pos (D / 256) *ℤ nodes.u a i j
    divided i j in-x in-y =
        *ℤ-cancel-equal (pos-positive {n = 256} (lit< tt)) (sym (node-flow i j in-x in-y) ∙ 256-times (nodes.u a i j))

    pub flow-velocity : (w : ℕ → ℕ → ℤ) (ps : List Particle) → Each (Placed w D nx ny) ps → Each (Follows D (D / 256) f) ps → (i j : ℕ) → i < nx → j < ny → (M : ℕ) → nat_abs (node_mass w ps i j) ≡ suc M → node_velocity rounded D (pos 0) (suc M) (node_momentum w D a ps i j) ≡ nodes.u a i j
    unfolding node_velocity
    flow-velocity w ps on follows i j in-x in-y M e =
        +ℤ_idr (rounded (node_momentum w D a ps i j) (D / 256 * suc M))
        ∙ ap (λ p. rounded p (D / 256 * suc M))
        (flow-momentum w a ps follows i j
        ∙ ap (λ m. m *ℤ node_flow a i j) (nonneg_pos (node-mass-nonneg w D nx ny ps on i j) ∙ ap pos e)
        ∙ ap (λ z. pos (suc M) *ℤ z) (divided i j in-x in-y)
        ∙ grouped (pos (suc M)) (pos (D / 256)) (nodes.u a i j))
        ∙ nearest-exact halves_even (nodes.u a i j) (D / 256 * suc M) (product-positive whole.some M)
      where
        grouped : (m k z : ℤ) → m *ℤ (k *ℤ z) ≡ k *ℤ m *ℤ z
        grouped m k z = ring (m ∷ k ∷ z ∷ []) (search quote depth 30) (search quote depth 30) tt

    -- ---- gather

    module _ {w : ℕ → ℕ → ℤ} {p : Particle} (placed : Placed w D nx ny p) (follows : Follows D (D / 256) f p) {v : ℕ → ℕ → ℤ} (h : Weighs w nx ny v (nodes.u a) p) where
      flow-line : LinearAt D nx ny (nodes.u a) (pos 256 *ℤ (pos D *ℤ velocity a p)) (λ b. pos 256 *ℤ affine a b p) p
      flow-line i j in-x in-y =
          node-flow i j in-x in-y
          ∙ ap (λ c. pos 256 *ℤ c) (sym (carried-flow a p follows i j))
          ∙ apiece (pos D *ℤ velocity a p) (affine a along_x p) (affine a along_y p) (apart along_x p i j) (apart along_y p i j)
        where
          apiece : (c bx by dx dy : ℤ) → pos 256 *ℤ (c +ℤ bx *ℤ dx +ℤ by *ℤ dy) ≡ pos 256 *ℤ c +ℤ pos 256 *ℤ bx *ℤ dx +ℤ pos 256 *ℤ by *ℤ dy
          apiece c bx by dx dy = ring (c ∷ bx ∷ by ∷ dx ∷ dy ∷ []) (search quote depth 30) (search quote depth 30) tt

      positive : pos 0 <ℤ pos D
      positive = pos-positive (above_zero D whole)
        where
          above_zero : (D : ℕ) → Whole D → 0 < D
          above_zero D whole = let some = whole.some in omega arith

      pub flow-gathered : gathered_velocity rounded w nx ny v p ≡ velocity a p
      unfolding gathered_velocity
      flow-gathered =
          ap (λ n. rounded n (2 ^ 34))
          (*ℤ-cancel-equal positive
          (linear-velocity placed h D (pos 256 *ℤ (pos D *ℤ velocity a p)) (λ b. pos 256 *ℤ affine a b p) flow-line
          ∙ outside (pos D) (velocity a p)))
          ∙ nearest-exact halves_even (velocity a p) (2 ^ 34) (lit< tt)
        where
          outside : (D v : ℤ) → pos (2 ^ 26) *ℤ (pos 256 *ℤ (D *ℤ v)) ≡ D *ℤ (pos (2 ^ 34) *ℤ v)
          outside D v = ring (D ∷ v ∷ []) (search quote depth 30) (search quote depth 30) tt

      pub flow-affine : (b : Axis) → gathered_affine rounded w nx ny b v p ≡ affine a b p
      unfolding gathered_affine
      flow-affine b =
          ap (λ n. rounded n (2 ^ 34))
          (*ℤ-cancel-equal positive
          (linear-affine placed h D (pos 256 *ℤ (pos D *ℤ velocity a p)) (λ b. pos 256 *ℤ affine a b p) flow-line b
          ∙ outside (pos D) (affine a b p)))
          ∙ nearest-exact halves_even (affine a b p) (2 ^ 34) (lit< tt)
        where
          outside : (D b : ℤ) → pos (2 ^ 26) *ℤ (D *ℤ (pos 256 *ℤ b)) ≡ D *ℤ (pos (2 ^ 34) *ℤ b)
          outside D b = ring (D ∷ b ∷ []) (search quote depth 30) (search quote depth 30) tt
