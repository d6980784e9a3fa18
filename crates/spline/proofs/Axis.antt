-- The weights of a whole axis of n nodes, by a table that a caller lends.
--     touched                     the three touched nodes lie on the axis
--     offset-row                  an offset is k − 32 for a row k of the table
-- By any table:
--     weight-nonneg, near         no weight is negative; a node with a weight is at most 96 away
--     axis-sum                    a sum over the axis of what is zero at weight 0 is a sum over three nodes
-- By a kernel's table:
--     weights-most                no weight is above 8192
--     moments                     the four laws of Moments
-- Assumes nothing.
use mathlib.Core.Path.{◌≡◌, refl, sym, ap, ap₂, subst, ◌∙◌}
use mathlib.Core.List.{List, []}
use mathlib.Core.Logic.{◌⊎◌, inl, inr}
use Prim.Native.Nat.{ℕ, ◌+◌, ◌-◌, ◌*◌, ◌/◌, ◌%◌, ◌<◌, ◌≤◌}
use native.Mathlib.Omega.{arith}
use lib.Dec.{T, leb, leb→le}
use lib.ListN.{get_or}
use lib.IntN.{ℤ, pos, neg_ℤ, ◌+ℤ◌, ◌-ℤ◌, ◌*ℤ◌, zero-*ℤ}
use lib.Signed.{◌≤ℤ◌}
use mir.Facts.{and_yes}
use Rattle.arith.specs.Order.{Within, linear, reading, nothing, pos-nonneg}
use Rattle.arith.specs.Sums.{sum_over, up_to}
use Rattle.arith.specs.Neighbours.{by-neighbour, neighbours-sum}
use Rattle.spline.specs.Spline.{nearest_node, offset, on_axis, displacement}
use Rattle.spline.specs.Moments.{Moments}
use Rattle.spline.specs.Test.{row_moment}
use Rattle.spline.specs.Answers.{row_of}
use Rattle.spline.specs.Kernel.{weights_at, weight_in, RowMoments, Kernel, WeightsMost}

pub record Touched (n x : ℕ) : Type 0 where
  pub low : 1 ≤ nearest_node x
  pub high : nearest_node x + 1 < n

pub touched : (n x : ℕ) → T (on_axis n x) → Touched n x
unfolding on_axis nearest_node
touched n x t =
    let l = leb→le 32 x (and_yes (leb 32 x) (leb x (64 * (n - 1) - 33)) t).0 in
    let h = leb→le x (64 * (n - 1) - 33) (and_yes (leb 32 x) (leb x (64 * (n - 1) - 33)) t).1 in
    record { low = omega arith; high = omega arith }

-- ---- an offset and its row

pub row_below : (x : ℕ) → (x + 32) % 64 < 64
row_below x = omega arith

pub offset-row : (x : ℕ) → offset x ≡ pos ((x + 32) % 64) -ℤ pos 32
unfolding offset nearest_node
offset-row x = linear [] nothing (search reading depth 30) (omega arith)

-- ---- the weight at each node

module _ (table : List (List ℕ)) (x : ℕ) where
  by-node : (i : ℕ) (P : ℤ → Type 0) → (i + 1 ≡ nearest_node x → P (pos (weights_at table x).lower)) → (i ≡ nearest_node x → P (pos (weights_at table x).nearest)) → (i ≡ nearest_node x + 1 → P (pos (weights_at table x).upper)) → P (pos 0) → P (weight_in table x i)
  unfolding weight_in
  by-node i = by-neighbour (nearest_node x) (pos (weights_at table x).lower) (pos (weights_at table x).nearest) (pos (weights_at table x).upper) i

  pub weight-nonneg : (i : ℕ) → pos 0 ≤ℤ weight_in table x i
  weight-nonneg i = by-node i (λ w. pos 0 ≤ℤ w) (λ e. pos-nonneg _) (λ e. pos-nonneg _) (λ e. pos-nonneg _) (pos-nonneg 0)

  pub near : (i : ℕ) → (weight_in table x i ≡ pos 0) ⊎ Within (pos 96) (displacement x i)
  unfolding nearest_node
  near i = by-node i (λ w. (w ≡ pos 0) ⊎ Within (pos 96) (displacement x i)) (λ e. inr (lower e)) (λ e. inr (nearest e)) (λ e. inr (upper e)) (inl refl)
    where
      lower : i + 1 ≡ (x + 32) / 64 → Within (pos 96) (displacement x i)
      lower e = linear [] nothing (search reading depth 30) (omega arith)

      nearest : i ≡ (x + 32) / 64 → Within (pos 96) (displacement x i)
      nearest e = linear [] nothing (search reading depth 30) (omega arith)

      upper : i ≡ (x + 32) / 64 + 1 → Within (pos 96) (displacement x i)
      upper e = linear [] nothing (search reading depth 30) (omega arith)

  -- ---- sums over the axis

  pub axis-sum : (h : ℕ → ℤ → ℤ) → ((i : ℕ) → h i (pos 0) ≡ pos 0) → (n : ℕ) → Touched n x → sum_over (up_to n) (λ i. h i (weight_in table x i)) ≡ h (nearest_node x - 1) (pos (weights_at table x).lower) +ℤ h (nearest_node x) (pos (weights_at table x).nearest) +ℤ h (nearest_node x + 1) (pos (weights_at table x).upper)
  unfolding weight_in
  axis-sum h keeps n on = neighbours-sum h keeps (nearest_node x) _ _ _ n on.low on.high

-- the three nodes as seen from the particle
pub displaced-lower : (x : ℕ) → 1 ≤ nearest_node x → displacement x (nearest_node x - 1) ≡ neg_ℤ (pos 64) -ℤ offset x
unfolding offset
displaced-lower x h = linear [] nothing (search reading depth 30) (omega arith)

pub displaced-nearest : (x : ℕ) → displacement x (nearest_node x) ≡ neg_ℤ (offset x)
unfolding offset
displaced-nearest x = linear [] nothing (search reading depth 30) (omega arith)

pub displaced-upper : (x : ℕ) → displacement x (nearest_node x + 1) ≡ pos 64 -ℤ offset x
unfolding offset
displaced-upper x = linear [] nothing (search reading depth 30) (omega arith)

axis-moment : (table : List (List ℕ)) (f : ℤ → ℤ) (n x : ℕ) → Touched n x → sum_over (up_to n) (λ i. weight_in table x i *ℤ f (displacement x i)) ≡ row_moment (offset x) (pos (weights_at table x).lower) (pos (weights_at table x).nearest) (pos (weights_at table x).upper) f
axis-moment table f n x on =
    axis-sum table x (λ i w. w *ℤ f (displacement x i)) (λ i. zero-*ℤ (f (displacement x i))) n on
    ∙ ap₂ ◌+ℤ◌
    (ap₂ ◌+ℤ◌
    (ap (λ d. pos (weights_at table x).lower *ℤ f d) (displaced-lower x on.low))
    (ap (λ d. pos (weights_at table x).nearest *ℤ f d) (displaced-nearest x)))
    (ap (λ d. pos (weights_at table x).upper *ℤ f d) (displaced-upper x))

-- ---- by a kernel

module _ {table : List (List ℕ)} {D : ℕ} (kernel : Kernel table D) (x : ℕ) where
  row-moments : RowMoments D (offset x) (weights_at table x)
  unfolding weights_at
  row-moments =
      subst (λ q. RowMoments D q (row_of (get_or table ((x + 32) % 64) []))) (sym (offset-row x)) (kernel.moments ((x + 32) % 64) (row_below x))

  pub weights-most : WeightsMost (weights_at table x)
  weights-most =
      let total = row-moments.total in
      record { lower-most = omega arith; nearest-most = omega arith; upper-most = omega arith }

  pub moments : (n : ℕ) → T (on_axis n x) → Moments (pos D) n x (weight_in table x)
  moments n t =
      let on = touched n x t in
      record {
        nonneg = weight-nonneg table x;
        total = axis-sum table x (λ i w. w) (λ i. refl) n on ∙ ap pos row-moments.total;
        first = axis-moment table (λ d. d) n x on ∙ row-moments.first;
        second = axis-moment table (λ d. d *ℤ d) n x on ∙ row-moments.second;
      }
