-- What a block adds, node by node: a particle's shares of mass and of momentum under the weights of a table.
--     momentum-shares    of momentum along one axis
--     mass-shares        of mass
-- Assumes nothing.
use mathlib.Core.Path.{◌≡◌, ap, ◌∙◌}
use mathlib.Core.List.{List, [], ◌∷◌, map}
use Prim.Native.Nat.{ℕ, ◌+◌, ◌-◌, ◌*◌, ◌≤◌}
use native.Mathlib.Omega.{arith}
use lib.ListN.{length, length-map}
use lib.IntN.{ℤ, pos, ◌+ℤ◌, ◌-ℤ◌, ◌*ℤ◌}
use Rattle.arith.specs.Order.{linear, reading}
use Rattle.arith.specs.Solver.{ring, quote}
use Rattle.spline.specs.Spline.{nearest_node, displacement}
use Rattle.spline.specs.Kernel.{weights_at, weight_in}
use Rattle.spline.specs.declared.AxisWeights.{AxisWeights}
use Rattle.spline.proofs.Axis.{Touched}
use Rattle.grid_cells.specs.Cells.{add_row}
use Rattle.grid_cells.specs.Plus.{plus}
use Rattle.grid_cells.proofs.Spots.{masses-row}
use Rattle.grid_cells.proofs.Grids.{block-plus}
use Rattle.scatter_block.specs.Lines.{mass_line, momentum_row, momentum_line, mass_block, momentum_block}

-- ---- one node apart

apart-lower : (x c : ℕ) → 1 ≤ c → displacement x c -ℤ pos 64 ≡ displacement x (c - 1)
apart-lower x c h = linear [] (tt {0}) (search reading depth 30) (omega arith)

apart-upper : (x c : ℕ) → displacement x c +ℤ pos 64 ≡ displacement x (c + 1)
apart-upper x c = linear [] (tt {0}) (search reading depth 30) (omega arith)

-- s and two entries of B with the places of a node, and of the one before or after it
x-lower : (s bx by d e : ℤ) → s +ℤ bx *ℤ d +ℤ by *ℤ e -ℤ pos 64 *ℤ bx ≡ s +ℤ bx *ℤ (d -ℤ pos 64) +ℤ by *ℤ e
x-lower s bx by d e = ring (s ∷ bx ∷ by ∷ d ∷ e ∷ []) (search quote depth 30) (search quote depth 30) tt

x-upper : (s bx by d e : ℤ) → s +ℤ bx *ℤ d +ℤ by *ℤ e +ℤ pos 64 *ℤ bx ≡ s +ℤ bx *ℤ (d +ℤ pos 64) +ℤ by *ℤ e
x-upper s bx by d e = ring (s ∷ bx ∷ by ∷ d ∷ e ∷ []) (search quote depth 30) (search quote depth 30) tt

y-lower : (s bx by d e : ℤ) → s +ℤ bx *ℤ d +ℤ by *ℤ e -ℤ pos 64 *ℤ by ≡ s +ℤ bx *ℤ d +ℤ by *ℤ (e -ℤ pos 64)
y-lower s bx by d e = ring (s ∷ bx ∷ by ∷ d ∷ e ∷ []) (search quote depth 30) (search quote depth 30) tt

y-upper : (s bx by d e : ℤ) → s +ℤ bx *ℤ d +ℤ by *ℤ e +ℤ pos 64 *ℤ by ≡ s +ℤ bx *ℤ d +ℤ by *ℤ (e +ℤ pos 64)
y-upper s bx by d e = ring (s ∷ bx ∷ by ∷ d ∷ e ∷ []) (search quote depth 30) (search quote depth 30) tt

-- ---- a share, in the order of the code and in that of the definition

mass-share : (m u w : ℕ) → pos (m * w * u) ≡ pos m *ℤ (pos u *ℤ pos w)
mass-share m u w = ring (pos m ∷ pos u ∷ pos w ∷ []) (search quote depth 30) (search quote depth 30) tt

share : (m u w : ℕ) {s t : ℤ} → s ≡ t → pos (m * w * u) *ℤ s ≡ pos m *ℤ (pos u *ℤ pos w) *ℤ t
share m u w {s} {t} e = λ i. mass-share m u w i *ℤ e i

module _ (table : List (List ℕ)) (nx ny m x y : ℕ) (x-on : Touched nx x) (y-on : Touched ny y) where
  abbrev wx : AxisWeights
  wx = weights_at table x

  abbrev wy : AxisWeights
  wy = weights_at table y

  -- ---- momentum

  module _ (D : ℕ) (v bx by : ℤ) where
    -- the momentum per mass and weight at node (i, j)
    rate : ℕ → ℕ → ℤ
    rate i j = pos D *ℤ v +ℤ bx *ℤ displacement x i +ℤ by *ℤ displacement y j

    shared : ℕ → ℕ → ℤ → ℤ → ℤ
    shared i j u w = pos m *ℤ (u *ℤ w) *ℤ rate i j

    x-keeps : (i j : ℕ) (w : ℤ) → shared i j (pos 0) w ≡ pos 0
    unfolding shared
    x-keeps i j w = ring (pos m ∷ w ∷ rate i j ∷ []) (search quote depth 30) (search quote depth 30) tt

    y-keeps : (i j : ℕ) (u : ℤ) → shared i j u (pos 0) ≡ pos 0
    unfolding shared
    y-keeps i j u = ring (pos m ∷ u ∷ rate i j ∷ []) (search quote depth 30) (search quote depth 30) tt

    line-shares : (l : List ℤ) (k j w : ℕ) {s b : ℤ} → s ≡ rate (nearest_node x) j → b ≡ pos 64 *ℤ bx → momentum_line l k (m * w) wx s b ≡ add_row l k (shared (nearest_node x - 1) j (pos wx.lower) (pos w)) (shared (nearest_node x) j (pos wx.nearest) (pos w)) (shared (nearest_node x + 1) j (pos wx.upper) (pos w))
    unfolding momentum_line momentum_row shared rate
    line-shares l k j w {s} {b} e f =
        λ t. add_row l k (share m wx.lower w lower t) (share m wx.nearest w e t) (share m wx.upper w upper t)
      where
        lower : s -ℤ b ≡ pos D *ℤ v +ℤ bx *ℤ displacement x (nearest_node x - 1) +ℤ by *ℤ displacement y j
        lower =
            (λ t. e t -ℤ f t) ∙ x-lower (pos D *ℤ v) bx by (displacement x (nearest_node x)) (displacement y j)
            ∙ ap (λ d. pos D *ℤ v +ℤ bx *ℤ d +ℤ by *ℤ displacement y j) (apart-lower x (nearest_node x) x-on.low)

        upper : s +ℤ b ≡ pos D *ℤ v +ℤ bx *ℤ displacement x (nearest_node x + 1) +ℤ by *ℤ displacement y j
        upper =
            (λ t. e t +ℤ f t) ∙ x-upper (pos D *ℤ v) bx by (displacement x (nearest_node x)) (displacement y j)
            ∙ ap (λ d. pos D *ℤ v +ℤ bx *ℤ d +ℤ by *ℤ displacement y j) (apart-upper x (nearest_node x))

    pub momentum-shares : (l l' : List ℤ) {s b c : ℤ} → s ≡ pos D *ℤ v +ℤ bx *ℤ displacement x (nearest_node x) +ℤ by *ℤ displacement y (nearest_node y) → b ≡ pos 64 *ℤ bx → c ≡ pos 64 *ℤ by → length l ≡ nx * ny → l' ≡ momentum_block nx l (nearest_node y * nx + nearest_node x) m wx wy s b c → l' ≡ plus nx ny l (λ i j. pos m *ℤ (weight_in table x i *ℤ weight_in table y j) *ℤ (pos D *ℤ v +ℤ bx *ℤ displacement x i +ℤ by *ℤ displacement y j))
    unfolding momentum_block shared rate weight_in
    momentum-shares l l' {s} {b} {c} e f g long is =
        block-plus nx ny (nearest_node x) (nearest_node y) x-on.low x-on.high y-on.low y-on.high shared x-keeps y-keeps
        (pos wx.lower) (pos wx.nearest) (pos wx.upper) (pos wy.lower) (pos wy.nearest) (pos wy.upper)
        l l1 l2 l' long
        (line-shares l (nearest_node y * nx + nearest_node x - nx) (nearest_node y - 1) wy.lower below f)
        (line-shares l1 (nearest_node y * nx + nearest_node x) (nearest_node y) wy.nearest e f)
        (is ∙ line-shares l2 (nearest_node y * nx + nearest_node x + nx) (nearest_node y + 1) wy.upper above f)
      where
        l1 : List ℤ
        l1 = momentum_line l (nearest_node y * nx + nearest_node x - nx) (m * wy.lower) wx (s -ℤ c) b

        l2 : List ℤ
        l2 = momentum_line l1 (nearest_node y * nx + nearest_node x) (m * wy.nearest) wx s b

        below : s -ℤ c ≡ pos D *ℤ v +ℤ bx *ℤ displacement x (nearest_node x) +ℤ by *ℤ displacement y (nearest_node y - 1)
        below =
            (λ t. e t -ℤ g t) ∙ y-lower (pos D *ℤ v) bx by (displacement x (nearest_node x)) (displacement y (nearest_node y))
            ∙ ap (λ d. pos D *ℤ v +ℤ bx *ℤ displacement x (nearest_node x) +ℤ by *ℤ d) (apart-lower y (nearest_node y) y-on.low)

        above : s +ℤ c ≡ pos D *ℤ v +ℤ bx *ℤ displacement x (nearest_node x) +ℤ by *ℤ displacement y (nearest_node y + 1)
        above =
            (λ t. e t +ℤ g t) ∙ y-upper (pos D *ℤ v) bx by (displacement x (nearest_node x)) (displacement y (nearest_node y))
            ∙ ap (λ d. pos D *ℤ v +ℤ bx *ℤ displacement x (nearest_node x) +ℤ by *ℤ d) (apart-upper y (nearest_node y))

  -- ---- mass

  weighed : ℕ → ℕ → ℤ → ℤ → ℤ
  weighed i j u w = pos m *ℤ (u *ℤ w)

  mass-line : (l : List ℕ) (k j w : ℕ) → map pos (mass_line l k (m * w) wx) ≡ add_row (map pos l) k (weighed (nearest_node x - 1) j (pos wx.lower) (pos w)) (weighed (nearest_node x) j (pos wx.nearest) (pos w)) (weighed (nearest_node x + 1) j (pos wx.upper) (pos w))
  unfolding mass_line weighed
  mass-line l k j w =
      masses-row l k (m * w * wx.lower) (m * w * wx.nearest) (m * w * wx.upper)
      ∙ (λ t. add_row (map pos l) k (mass-share m wx.lower w t) (mass-share m wx.nearest w t) (mass-share m wx.upper w t))

  mass-x-keeps : (i j : ℕ) (w : ℤ) → weighed i j (pos 0) w ≡ pos 0
  unfolding weighed
  mass-x-keeps i j w = ring (pos m ∷ w ∷ []) (search quote depth 30) (search quote depth 30) tt

  mass-y-keeps : (i j : ℕ) (u : ℤ) → weighed i j u (pos 0) ≡ pos 0
  unfolding weighed
  mass-y-keeps i j u = ring (pos m ∷ u ∷ []) (search quote depth 30) (search quote depth 30) tt

  pub mass-shares : (l l' : List ℕ) → length l ≡ nx * ny → l' ≡ mass_block nx l (nearest_node y * nx + nearest_node x) m wx wy → map pos l' ≡ plus nx ny (map pos l) (λ i j. pos m *ℤ (weight_in table x i *ℤ weight_in table y j))
  unfolding mass_block weighed weight_in
  mass-shares l l' long is =
      block-plus nx ny (nearest_node x) (nearest_node y) x-on.low x-on.high y-on.low y-on.high weighed mass-x-keeps mass-y-keeps
      (pos wx.lower) (pos wx.nearest) (pos wx.upper) (pos wy.lower) (pos wy.nearest) (pos wy.upper)
      (map pos l) (map pos l1) (map pos l2) (map pos l') (length-map l pos ∙ long)
      (mass-line l (nearest_node y * nx + nearest_node x - nx) (nearest_node y - 1) wy.lower)
      (mass-line l1 (nearest_node y * nx + nearest_node x) (nearest_node y) wy.nearest)
      (ap (map pos) is ∙ mass-line l2 (nearest_node y * nx + nearest_node x + nx) (nearest_node y + 1) wy.upper)
    where
      l1 : List ℕ
      l1 = mass_line l (nearest_node y * nx + nearest_node x - nx) (m * wy.lower) wx

      l2 : List ℕ
      l2 = mass_line l1 (nearest_node y * nx + nearest_node x) (m * wy.nearest) wx
