-- One particle on the grid: its cell, what a block of nine nodes asks of it, and what that block adds.
--     axis-small, cell_below     coordinates and cell are small
--     speed-is, spread-is        the numbers that are passed on, and their bounds
--     block-ready                what the function that adds a block asks
--     particle-added             the particle's shares are added
-- Assumes nothing.
use mathlib.Core.Path.{◌≡◌, sym, subst, subst₂, ◌∙◌}
use mathlib.Core.List.{List, [], ◌∷◌, map}
use Prim.Native.Nat.{ℕ, ◌+◌, ◌-◌, ◌*◌, ◌<◌, ◌≤◌}
use native.Mathlib.Nat.{mul-le-mul, mul-le-mul_right, lt_of_lt_of_le, one-mul}
use native.Mathlib.Omega.{arith}
use lib.Dec.{T, leb, leb→le}
use lib.ListN.{length}
use lib.IntN.{ℤ, pos, ◌+ℤ◌, ◌*ℤ◌, +ℤ_idr}
use mir.Syntax.{w64}
use mir.Val.{to_z, of_z}
use mir.Facts.{and_yes}
use Rattle.arith.specs.Size.{Bound, sizes, bounded, bound-equal}
use Rattle.arith.specs.Machine.{read, read-bound}
use Rattle.limits.specs.Limits.{most_side, most_position, most_affine, most_velocity}
use Rattle.spline.specs.Spline.{on_axis, nearest_node, displacement}
use Rattle.spline.specs.Kernel.{weights_at, weight_in, most_d, WeightsMost}
use Rattle.spline.specs.declared.AxisWeights.{AxisWeights}
use Rattle.spline.proofs.Axis.{Touched, touched, weights-most}
use Rattle.particle.specs.declared.Particle.{Particle}
use Rattle.apic.specs.Step.{Axis, along_x, along_y, velocity, affine, apart, weight, node_mass, node_momentum}
use Rattle.apic.specs.Limits.{SizeLimits, ParticleLimits}
use Rattle.apic.proofs.Kernel.{kernel-mass-nonneg}
use Rattle.arith.specs.Indices.{index_below}
use Rattle.grid_cells.proofs.Grids.{row-high, line-above-index, plus-cong, mass-plus}
use Rattle.scatter_block.specs.Lines.{Held, BlockLimits, BlockAdded, most_before, most_middle, most_change}
use Rattle.scatter_particle.specs.Added.{Added, ParticleReady, Middle}
use Rattle.scatter_particle.proofs.Shares.{momentum-shares, mass-shares}

-- ---- the cell

pub axis-small : (n x : ℕ) → n ≤ most_side → T (on_axis n x) → x ≤ most_position
unfolding on_axis
axis-small n x s t =
    let h = leb→le x (64 * (n - 1) - 33) (and_yes (leb 32 x) (leb x (64 * (n - 1) - 33)) t).1 in
    omega arith

module _ {nx ny x y : ℕ} (sizes-are : SizeLimits nx ny) (x-on : Touched nx x) (y-on : Touched ny y) where
  pub cell_below : nearest_node y * nx + nearest_node x < 2304
  cell_below =
      lt_of_lt_of_le
      (index_below nx ny (nearest_node x) (nearest_node y) (omega (arith, x-on.high)) (omega (arith, y-on.high)))
      (mul-le-mul sizes-are.x-most sizes-are.y-most)

  cell-low : nx + 1 ≤ nearest_node y * nx + nearest_node x
  cell-low = past nx (nearest_node y * nx) (nearest_node x) (rw one-mul at (mul-le-mul_right nx y-on.low)) x-on.low
    where
      past : (n m a : ℕ) → n ≤ m → 1 ≤ a → n + 1 ≤ m + a
      past n m a h g = omega arith

  cell-high : nearest_node y * nx + nearest_node x + nx + 1 < nx * ny
  cell-high =
      rw (line-above-index nx (nearest_node x) (nearest_node y))
      (row-high nx ny (nearest_node x) x-on.low x-on.high (nearest_node y + 1) y-on.high)

-- ---- numbers that are passed on

-- a particle's numbers along one axis
record AlongLimits (a : Axis) (p : Particle) : Type 0 where
  v-most : Bound (velocity a p) most_velocity
  bx-most : Bound (affine a along_x p) most_affine
  by_most : Bound (affine a along_y p) most_affine

along-limits : {nx ny : ℕ} (a : Axis) (p : Particle) → ParticleLimits nx ny p → AlongLimits a p
along-limits along_x p l = record { v-most = record { size = l.vx }; bx-most = record { size = l.bxx }; by_most = record { size = l.bxy } }
along-limits along_y p l = record { v-most = record { size = l.vy }; bx-most = record { size = l.byx }; by_most = record { size = l.byy } }

module _ {D : ℕ} (D-most : D ≤ most_d) {v bx by dx dy : ℤ} {x y : ℕ} (v-most : Bound v most_velocity) (bx-most : Bound bx most_affine) (by_most : Bound by most_affine) (x-middle : Middle x dx) (y-middle : Middle y dy) {s : ℤ} (is : s ≡ pos D *ℤ to_z w64 (of_z w64 v) +ℤ to_z w64 (of_z w64 bx) *ℤ to_z w64 (of_z w64 dx) +ℤ to_z w64 (of_z w64 by) *ℤ to_z w64 (of_z w64 dy)) where
  rate-most : (D : ℕ) (v bx by dx dy : ℤ) → D ≤ most_d → Bound v most_velocity → Bound bx most_affine → Bound by most_affine → Bound dx 32 → Bound dy 32 → Bound (pos D *ℤ v +ℤ bx *ℤ dx +ℤ by *ℤ dy) most_middle
  rate-most D v bx by dx dy h p q r s t = bounded (search sizes depth 20) tt

  rate-is : s ≡ pos D *ℤ v +ℤ bx *ℤ dx +ℤ by *ℤ dy
  rate-is =
      is
      ∙ (λ t.
      pos D *ℤ read w64 v-most tt t +ℤ read w64 bx-most tt t *ℤ read w64 x-middle.most tt t
      +ℤ read w64 by_most tt t *ℤ read w64 y-middle.most tt t)

  s-most : Bound s most_middle
  s-most = bound-equal (sym rate-is) (rate-most D v bx by dx dy D-most v-most bx-most by_most x-middle.most y-middle.most)

  pub speed-most : Bound (to_z w64 (of_z w64 s)) most_middle
  speed-most = read-bound w64 s-most tt

  pub speed-is : to_z w64 (of_z w64 s) ≡ pos D *ℤ v +ℤ bx *ℤ displacement x (nearest_node x) +ℤ by *ℤ displacement y (nearest_node y)
  speed-is = read w64 s-most tt ∙ rate-is ∙ (λ t. pos D *ℤ v +ℤ bx *ℤ x-middle.is t +ℤ by *ℤ y-middle.is t)

module _ {b : ℤ} (b-most : Bound b most_affine) {r : ℤ} (is : r ≡ pos 64 *ℤ to_z w64 (of_z w64 b)) where
  clean : r ≡ pos 64 *ℤ b
  clean = is ∙ (λ t. pos 64 *ℤ read w64 b-most tt t)

  change-most : Bound r most_change
  change-most = bound-equal (sym clean) (bounded (search sizes depth 20) tt)

  pub spread-most : Bound (to_z w64 (of_z w64 r)) most_change
  spread-most = read-bound w64 change-most tt

  pub spread-is : to_z w64 (of_z w64 r) ≡ pos 64 *ℤ b
  spread-is = read w64 change-most tt ∙ clean

-- ---- the block

-- the sums over one particle
module _ (w : ℕ → ℕ → ℤ) (p : Particle) (i j : ℕ) where
  mass-one : pos p.mass *ℤ weight w p i j ≡ node_mass w (p ∷ []) i j
  unfolding node_mass
  mass-one = sym (+ℤ_idr (pos p.mass *ℤ weight w p i j))

  momentum-one : (D : ℕ) (a : Axis) → pos p.mass *ℤ weight w p i j *ℤ (pos D *ℤ velocity a p +ℤ affine a along_x p *ℤ apart along_x p i j +ℤ affine a along_y p *ℤ apart along_y p i j) ≡ node_momentum w D a (p ∷ []) i j
  unfolding node_momentum
  momentum-one D a =
      sym
      (+ℤ_idr
      (pos p.mass *ℤ weight w p i j
      *ℤ (pos D *ℤ velocity a p +ℤ affine a along_x p *ℤ apart along_x p i j +ℤ affine a along_y p *ℤ apart along_y p i j)))

module _ {nx ny : ℕ} {p : Particle} {table : List (List ℕ)} {D : ℕ} {mass : List ℕ} {px py : List ℤ} (ready : ParticleReady nx ny p table D mass px py) where
  pub x-touched : Touched nx p.x
  x-touched = touched nx p.x ready.limits.x-on

  pub y-touched : Touched ny p.y
  y-touched = touched ny p.y ready.limits.y-on

  along : (a : Axis) → AlongLimits a p
  along a = along-limits a p ready.limits

  -- what the functions that it calls give
  module _ {wx wy : AxisWeights} (x-row : wx ≡ weights_at table p.x) (y-row : wy ≡ weights_at table p.y) {dx dy : ℤ} (x-middle : Middle p.x dx) (y-middle : Middle p.y dy) {sx sy cxx cxy cyx cyy : ℤ} (of-sx : sx ≡ pos D *ℤ to_z w64 (of_z w64 p.vx) +ℤ to_z w64 (of_z w64 p.bxx) *ℤ to_z w64 (of_z w64 dx) +ℤ to_z w64 (of_z w64 p.bxy) *ℤ to_z w64 (of_z w64 dy)) (of-sy : sy ≡ pos D *ℤ to_z w64 (of_z w64 p.vy) +ℤ to_z w64 (of_z w64 p.byx) *ℤ to_z w64 (of_z w64 dx) +ℤ to_z w64 (of_z w64 p.byy) *ℤ to_z w64 (of_z w64 dy)) (of-xx : cxx ≡ pos 64 *ℤ to_z w64 (of_z w64 p.bxx)) (of-xy : cxy ≡ pos 64 *ℤ to_z w64 (of_z w64 p.bxy)) (of-yx : cyx ≡ pos 64 *ℤ to_z w64 (of_z w64 p.byx)) (of-yy : cyy ≡ pos 64 *ℤ to_z w64 (of_z w64 p.byy)) where
    D-most : D ≤ most_d
    D-most = ready.kernel.spread.most

    pub block-ready : BlockLimits (length mass) nx mass px py (nearest_node p.y * nx + nearest_node p.x) p.mass wx wy (to_z w64 (of_z w64 sx)) (to_z w64 (of_z w64 cxx)) (to_z w64 (of_z w64 cxy)) (to_z w64 (of_z w64 sy)) (to_z w64 (of_z w64 cyx)) (to_z w64 (of_z w64 cyy))
    block-ready =
        let long = ready.held.mass-long in
        let x = along along_x in
        let y = along along_y in
        record {
          low = cell-low ready.sizes x-touched y-touched;
          high = rw long (cell-high ready.sizes x-touched y-touched);
          held = subst (λ n. Held most_before n mass px py) (sym long) ready.held;
          m-most = ready.limits.mass-most;
          x-weights = subst WeightsMost (sym x-row) (weights-most ready.kernel p.x);
          y-weights = subst WeightsMost (sym y-row) (weights-most ready.kernel p.y);
          sx-most = speed-most D-most x.v-most x.bx-most x.by_most x-middle y-middle of-sx;
          bxx-most = spread-most x.bx-most of-xx;
          bxy-most = spread-most x.by_most of-xy;
          sy-most = speed-most D-most y.v-most y.bx-most y.by_most x-middle y-middle of-sy;
          byx-most = spread-most y.bx-most of-yx;
          byy-most = spread-most y.by_most of-yy;
        }

    pub particle-added : {mass' : List ℕ} {px' py' : List ℤ} → BlockAdded nx mass px py mass' px' py' (nearest_node p.y * nx + nearest_node p.x) p.mass wx wy (to_z w64 (of_z w64 sx)) (to_z w64 (of_z w64 cxx)) (to_z w64 (of_z w64 cxy)) (to_z w64 (of_z w64 sy)) (to_z w64 (of_z w64 cyx)) (to_z w64 (of_z w64 cyy)) → Added (weight_in table) D nx ny (p ∷ []) mass px py mass' px' py'
    particle-added {mass'} {px'} {py'} given =
        let x = along along_x in
        let y = along along_y in
        let w = weight_in table in
        let added : BlockAdded nx mass px py mass' px' py' (nearest_node p.y * nx + nearest_node p.x) p.mass (weights_at table p.x) (weights_at table p.y) (to_z w64 (of_z w64 sx)) (to_z w64 (of_z w64 cxx)) (to_z w64 (of_z w64 cxy)) (to_z w64 (of_z w64 sy)) (to_z w64 (of_z w64 cyx)) (to_z w64 (of_z w64 cyy)) =
        subst₂ (λ u v. BlockAdded nx mass px py mass' px' py' (nearest_node p.y * nx + nearest_node p.x) p.mass u v (to_z w64 (of_z w64 sx)) (to_z w64 (of_z w64 cxx)) (to_z w64 (of_z w64 cxy)) (to_z w64 (of_z w64 sy)) (to_z w64 (of_z w64 cyx)) (to_z w64 (of_z w64 cyy))) x-row y-row given in
        record {
          of-mass =
              mass-plus nx ny mass mass' (node_mass w (p ∷ [])) (kernel-mass-nonneg ready.kernel nx ny (p ∷ []) (ready.limits, tt))
              (mass-shares table nx ny p.mass p.x p.y x-touched y-touched mass mass' ready.held.mass-long added.of-mass
              ∙ plus-cong nx ny (map pos mass) _ (node_mass w (p ∷ [])) (λ i j. mass-one w p i j));
          of-px =
              momentum-shares table nx ny p.mass p.x p.y x-touched y-touched D p.vx p.bxx p.bxy px px'
              (speed-is D-most x.v-most x.bx-most x.by_most x-middle y-middle of-sx) (spread-is x.bx-most of-xx) (spread-is x.by_most of-xy)
              ready.held.px-long added.of-px
              ∙ plus-cong nx ny px _ (node_momentum w D along_x (p ∷ [])) (λ i j. momentum-one w p i j D along_x);
          of-py =
              momentum-shares table nx ny p.mass p.x p.y x-touched y-touched D p.vy p.byx p.byy py py'
              (speed-is D-most y.v-most y.bx-most y.by_most x-middle y-middle of-sy) (spread-is y.bx-most of-yx) (spread-is y.by_most of-yy)
              ready.held.py-long added.of-py
              ∙ plus-cong nx ny py _ (node_momentum w D along_y (p ∷ [])) (λ i j. momentum-one w p i j D along_y);
        }
