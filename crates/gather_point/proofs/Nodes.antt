-- The gather's sums over all nodes of a grid are sums over nine nodes, which the code takes row by row, whatever table of
-- weights it is lent.
--     grid-sum            a sum over the grid of what is 0 at weight 0 is a sum over nine nodes
--     nodes-inside        all nine stand in the list of the grid's nodes
--     axis_of, axis-at     the code's velocity on one axis is the definition's
-- Assumes nothing.
use mathlib.Core.Path.{◌≡◌, refl, sym, ap, ap₂, ◌∙◌}
use mathlib.Core.List.{List, [], ◌∷◌}
use Prim.Native.Nat.{ℕ, ◌+◌, ◌-◌, ◌*◌, ◌^◌, ◌<◌, ◌≤◌}
use native.Mathlib.Nat.{suc-mul, mul_comm, mul-le-mul_right}
use native.Mathlib.Numerals.{add-one}
use native.Mathlib.Omega.{arith}
use lib.ListN.{get_or}
use lib.IntN.{ℤ, pos, neg_ℤ, ◌+ℤ◌, ◌-ℤ◌, ◌*ℤ◌, zero-*ℤ, *ℤ-zero}
use Rattle.arith.specs.Solver.{ring, quote}
use Rattle.arith.specs.Sums.{sum_over, up_to, sum-cong}
use Rattle.arith.specs.Rounding.{rounded}
use Rattle.spline.specs.Spline.{nearest_node, offset, displacement}
use Rattle.spline.specs.Kernel.{weights_at, weight_in}
use Rattle.spline.specs.declared.AxisWeights.{AxisWeights}
use Rattle.spline.proofs.Axis.{Touched, axis-sum, displaced-lower, displaced-nearest, displaced-upper}
use Rattle.particle.specs.declared.Particle.{Particle}
use Rattle.apic.specs.Step.{over_nodes, node, gathered_velocity, gathered_affine, along_x, along_y}
use Rattle.gather_point.specs.declared.Shares.{Shares}
use Rattle.gather_point.specs.declared.Block.{Block}
use Rattle.gather_point.specs.declared.AffineVelocity.{AffineVelocity}
use Rattle.gather_point.specs.Point.{axis_at, shares_of, weighed, row_shares, block_of, nine_nodes, affine_velocity_of, moment_about}

-- ---- three nodes of a row, and three rows: plain numbers

-- weights a, b, c; v the row's weight; p, q, r the nodes' velocities; k the offset
row-sum : (a b c v p q r : ℤ) → a *ℤ v *ℤ p +ℤ b *ℤ v *ℤ q +ℤ c *ℤ v *ℤ r ≡ v *ℤ (shares_of a b c p q r).sum
row-sum a b c v p q r = ring (a ∷ b ∷ c ∷ v ∷ p ∷ q ∷ r ∷ []) (search quote depth 30) (search quote depth 30) tt

row-across : (a b c v p q r k : ℤ) → a *ℤ v *ℤ p *ℤ (neg_ℤ (pos 64) -ℤ k) +ℤ b *ℤ v *ℤ q *ℤ neg_ℤ k +ℤ c *ℤ v *ℤ r *ℤ (pos 64 -ℤ k) ≡ v *ℤ moment_about (shares_of a b c p q r).sum (shares_of a b c p q r).tilt k
row-across a b c v p q r k = ring (a ∷ b ∷ c ∷ v ∷ p ∷ q ∷ r ∷ k ∷ []) (search quote depth 30) (search quote depth 30) tt

row_up : (a b c v p q r d : ℤ) → a *ℤ v *ℤ p *ℤ d +ℤ b *ℤ v *ℤ q *ℤ d +ℤ c *ℤ v *ℤ r *ℤ d ≡ v *ℤ (shares_of a b c p q r).sum *ℤ d
row_up a b c v p q r d = ring (a ∷ b ∷ c ∷ v ∷ p ∷ q ∷ r ∷ d ∷ []) (search quote depth 30) (search quote depth 30) tt

-- weights a, b, c of the rows; p, q, r their sums and s, t, u their tilts
rows-across : (a b c p q r s t u k : ℤ) → a *ℤ moment_about p s k +ℤ b *ℤ moment_about q t k +ℤ c *ℤ moment_about r u k ≡ moment_about (shares_of a b c p q r).sum (shares_of a b c s t u).sum k
rows-across a b c p q r s t u k =
    ring (a ∷ b ∷ c ∷ p ∷ q ∷ r ∷ s ∷ t ∷ u ∷ k ∷ []) (search quote depth 30 fits 20000) (search quote depth 30 fits 20000) tt

rows-up : (a b c p q r k : ℤ) → a *ℤ p *ℤ (neg_ℤ (pos 64) -ℤ k) +ℤ b *ℤ q *ℤ neg_ℤ k +ℤ c *ℤ r *ℤ (pos 64 -ℤ k) ≡ moment_about (shares_of a b c p q r).sum (shares_of a b c p q r).tilt k
rows-up a b c p q r k = ring (a ∷ b ∷ c ∷ p ∷ q ∷ r ∷ k ∷ []) (search quote depth 30) (search quote depth 30) tt

-- ---- where the nodes stand in the list

next_row : (j nx : ℕ) → (j + 1) * nx ≡ j * nx + nx
next_row j nx = ap (λ k. k * nx) (add-one j) ∙ suc-mul j nx

row-above : (j nx : ℕ) → 1 ≤ j → j * nx ≡ (j - 1) * nx + nx
row-above j nx h = ap (λ i. i * nx) (split j h) ∙ next_row (j - 1) nx
  where
    split : (j : ℕ) → 1 ≤ j → j ≡ j - 1 + 1
    split j h = omega arith

-- all nine are nodes of the grid
pub nodes-inside : (nx ny x y n : ℕ) → Touched nx x → Touched ny y → n ≡ nx * ny → (nearest_node y - 1) * nx + (nearest_node x - 1) + 2 * nx + 2 < n
nodes-inside nx ny x y n on-x on-y e =
    omega (arith, on-x.low, on-x.high, row-above (nearest_node y) nx on-y.low, next_row (nearest_node y) nx, next_row (nearest_node y + 1) nx, fits, mul_comm nx ny, e)
  where
    fits : (nearest_node y + 1 + 1) * nx ≤ ny * nx
    fits = mul-le-mul_right nx (high (nearest_node y) ny on-y.high)
      where
        high : (j n : ℕ) → j + 1 < n → j + 1 + 1 ≤ n
        high j n h = omega arith

-- the three nodes around x in row j
abbrev row_at : AxisWeights → ℕ → List ℤ → ℕ → ℕ → Shares
row_at w nx u x j = weighed w (node nx u (nearest_node x - 1) j) (node nx u (nearest_node x) j) (node nx u (nearest_node x + 1) j)

row_is : (w : AxisWeights) (nx : ℕ) (u : List ℤ) (x j at : ℕ) → 1 ≤ nearest_node x → at ≡ j * nx + (nearest_node x - 1) → row_shares w u at ≡ row_at w nx u x j
unfolding row_shares
row_is w nx u x j at low e = λ t. weighed w (get_or u (e t) (pos 0)) (get_or u (middle t) (pos 0)) (get_or u (last t) (pos 0))
  where
    middle : at + 1 ≡ j * nx + nearest_node x
    middle = omega arith

    last : at + 2 ≡ j * nx + (nearest_node x + 1)
    last = omega arith

-- the three rows around y
abbrev rows_at : AxisWeights → AxisWeights → ℕ → List ℤ → ℕ → ℕ → Block
rows_at wx wy nx u x y =
    block_of wy (row_at wx nx u x (nearest_node y - 1)) (row_at wx nx u x (nearest_node y)) (row_at wx nx u x (nearest_node y + 1))

nine-is : (wx wy : AxisWeights) (nx : ℕ) (u : List ℤ) (x y : ℕ) → 1 ≤ nearest_node x → 1 ≤ nearest_node y → nine_nodes wx wy nx u ((nearest_node y - 1) * nx + (nearest_node x - 1)) ≡ rows_at wx wy nx u x y
unfolding nine_nodes
nine-is wx wy nx u x y low_x low-y =
    λ i. block_of wy
    (row_is wx nx u x (nearest_node y - 1) ((nearest_node y - 1) * nx + (nearest_node x - 1)) low_x refl i)
    (row_is wx nx u x (nearest_node y) ((nearest_node y - 1) * nx + (nearest_node x - 1) + nx) low_x second i)
    (row_is wx nx u x (nearest_node y + 1) ((nearest_node y - 1) * nx + (nearest_node x - 1) + 2 * nx) low_x third i)
  where
    second : (nearest_node y - 1) * nx + (nearest_node x - 1) + nx ≡ nearest_node y * nx + (nearest_node x - 1)
    second = omega (arith, row-above (nearest_node y) nx low-y)

    third : (nearest_node y - 1) * nx + (nearest_node x - 1) + 2 * nx ≡ (nearest_node y + 1) * nx + (nearest_node x - 1)
    third = omega (arith, row-above (nearest_node y) nx low-y, next_row (nearest_node y) nx)

-- ---- nine nodes

-- f at the lower, the nearest and the upper node of x, with the weights w there
abbrev three_nodes : AxisWeights → ℕ → (ℕ → ℤ → ℤ) → ℤ
three_nodes w x f =
    f (nearest_node x - 1) (pos w.lower) +ℤ f (nearest_node x) (pos w.nearest) +ℤ f (nearest_node x + 1) (pos w.upper)

three-cong : (w : AxisWeights) (x : ℕ) (f g : ℕ → ℤ → ℤ) → ((i : ℕ) (v : ℤ) → f i v ≡ g i v) → three_nodes w x f ≡ three_nodes w x g
three-cong w x f g e =
    ap₂ ◌+ℤ◌
    (ap₂ ◌+ℤ◌ (e (nearest_node x - 1) (pos w.lower)) (e (nearest_node x) (pos w.nearest)))
    (e (nearest_node x + 1) (pos w.upper))

-- f of the three nodes' displacements
three-displaced : (w : AxisWeights) (x : ℕ) → 1 ≤ nearest_node x → (f : ℕ → ℤ → ℤ → ℤ) → three_nodes w x (λ i v. f i v (displacement x i)) ≡ f (nearest_node x - 1) (pos w.lower) (neg_ℤ (pos 64) -ℤ offset x) +ℤ f (nearest_node x) (pos w.nearest) (neg_ℤ (offset x)) +ℤ f (nearest_node x + 1) (pos w.upper) (pos 64 -ℤ offset x)
three-displaced w x low f =
    ap₂ ◌+ℤ◌
    (ap₂ ◌+ℤ◌
    (ap (f (nearest_node x - 1) (pos w.lower)) (displaced-lower x low))
    (ap (f (nearest_node x) (pos w.nearest)) (displaced-nearest x)))
    (ap (f (nearest_node x + 1) (pos w.upper)) (displaced-upper x))

module _ (t : List (List ℕ)) (nx ny : ℕ) (u : List ℤ) (x y : ℕ) (on-x : Touched nx x) (on-y : Touched ny y) where
  abbrev wx : AxisWeights
  wx = weights_at t x

  abbrev wy : AxisWeights
  wy = weights_at t y

  -- the weight of node (i, j)
  abbrev w : ℕ → ℕ → ℤ
  w i j = weight_in t x i *ℤ weight_in t y j

  grid-sum : (h : ℕ → ℕ → ℤ → ℤ) → ((i j : ℕ) → h i j (pos 0) ≡ pos 0) → over_nodes nx ny (λ i j. h i j (w i j)) ≡ three_nodes wy y (λ j v. three_nodes wx x (λ i w. h i j (w *ℤ v)))
  grid-sum h keeps =
      sum-cong (λ j. sum_over (up_to nx) (λ i. h i j (w i j))) (λ j. three_nodes wx x (λ i w. h i j (w *ℤ weight_in t y j)))
      (λ j. axis-sum t x (λ i w. h i j (w *ℤ weight_in t y j)) (λ i. ap (h i j) (zero-*ℤ (weight_in t y j)) ∙ keeps i j) nx on-x) (up_to ny)
      ∙ axis-sum t y (λ j v. three_nodes wx x (λ i w. h i j (w *ℤ v))) (λ j. three-cong wx x (λ i w. h i j (w *ℤ pos 0)) (λ i w. pos 0) (λ i w. ap (h i j) (*ℤ-zero w) ∙ keeps i j)) ny on-y

  -- ---- the definition's sums

  -- row j, and all three
  abbrev row : ℕ → Shares
  row j = row_at wx nx u x j

  abbrev rows : Block
  rows = rows_at wx wy nx u x y

  total : over_nodes nx ny (λ i j. w i j *ℤ node nx u i j) ≡ rows.sum
  unfolding block_of
  total =
      grid-sum (λ i j w. w *ℤ node nx u i j) (λ i j. zero-*ℤ (node nx u i j))
      ∙ three-cong wy y (λ j v. three_nodes wx x (λ i w. w *ℤ v *ℤ node nx u i j)) (λ j v. v *ℤ (row j).sum)
      (λ j v. row-sum (pos wx.lower) (pos wx.nearest) (pos wx.upper) v (node nx u (nearest_node x - 1) j) (node nx u (nearest_node x) j) (node nx u (nearest_node x + 1) j))

  across : over_nodes nx ny (λ i j. w i j *ℤ node nx u i j *ℤ displacement x i) ≡ moment_about rows.sum rows.across (offset x)
  unfolding block_of
  across =
      grid-sum (λ i j w. w *ℤ node nx u i j *ℤ displacement x i) (λ i j. ap (λ z. z *ℤ displacement x i) (zero-*ℤ (node nx u i j)) ∙ zero-*ℤ (displacement x i))
      ∙ three-cong wy y (λ j v. three_nodes wx x (λ i w. w *ℤ v *ℤ node nx u i j *ℤ displacement x i)) (λ j v. v *ℤ moment_about (row j).sum (row j).tilt (offset x))
      (λ j v.
      three-displaced wx x on-x.low (λ i w d. w *ℤ v *ℤ node nx u i j *ℤ d)
      ∙ row-across (pos wx.lower) (pos wx.nearest) (pos wx.upper) v (node nx u (nearest_node x - 1) j) (node nx u (nearest_node x) j) (node nx u (nearest_node x + 1) j) (offset x))
      ∙ rows-across (pos wy.lower) (pos wy.nearest) (pos wy.upper)
      (row (nearest_node y - 1)).sum (row (nearest_node y)).sum (row (nearest_node y + 1)).sum
      (row (nearest_node y - 1)).tilt (row (nearest_node y)).tilt (row (nearest_node y + 1)).tilt (offset x)

  up : over_nodes nx ny (λ i j. w i j *ℤ node nx u i j *ℤ displacement y j) ≡ moment_about rows.sum rows.up (offset y)
  unfolding block_of
  up =
      grid-sum (λ i j w. w *ℤ node nx u i j *ℤ displacement y j) (λ i j. ap (λ z. z *ℤ displacement y j) (zero-*ℤ (node nx u i j)) ∙ zero-*ℤ (displacement y j))
      ∙ three-cong wy y (λ j v. three_nodes wx x (λ i w. w *ℤ v *ℤ node nx u i j *ℤ displacement y j)) (λ j v. v *ℤ (row j).sum *ℤ displacement y j)
      (λ j v. row_up (pos wx.lower) (pos wx.nearest) (pos wx.upper) v (node nx u (nearest_node x - 1) j) (node nx u (nearest_node x) j) (node nx u (nearest_node x + 1) j) (displacement y j))
      ∙ three-displaced wy y on-y.low (λ j v d. v *ℤ (row j).sum *ℤ d)
      ∙ rows-up (pos wy.lower) (pos wy.nearest) (pos wy.upper) (row (nearest_node y - 1)).sum (row (nearest_node y)).sum (row (nearest_node y + 1)).sum (offset y)

-- ---- one velocity axis

-- by the definition, for any weights w
abbrev pub axis_of : (ℕ → ℕ → ℤ) → ℕ → ℕ → List ℤ → Particle → AffineVelocity
axis_of w nx ny u p =
    record {
      v = gathered_velocity rounded w nx ny (node nx u) p;
      bx = gathered_affine rounded w nx ny along_x (node nx u) p;
      by = gathered_affine rounded w nx ny along_y (node nx u) p;
    }

pub axis-at : (t : List (List ℕ)) (nx ny : ℕ) (u : List ℤ) (p : Particle) → Touched nx p.x → Touched ny p.y → axis_at t nx u p.x p.y ≡ axis_of (weight_in t) nx ny u p
unfolding axis_at affine_velocity_of gathered_velocity gathered_affine
axis-at t nx ny u p on-x on-y =
    ap (λ b. affine_velocity_of b (offset p.x) (offset p.y)) (nine-is (weights_at t p.x) (weights_at t p.y) nx u p.x p.y on-x.low on-y.low)
    ∙ (λ i. record {
      v = rounded (sym (total t nx ny u p.x p.y on-x on-y) i) (2 ^ 34);
      bx = rounded (sym (across t nx ny u p.x p.y on-x on-y) i) (2 ^ 34);
      by = rounded (sym (up t nx ny u p.x p.y on-x on-y) i) (2 ^ 34);
    })
