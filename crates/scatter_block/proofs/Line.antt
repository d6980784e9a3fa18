-- A line's shares of mass and of momentum.
--     mass-asked .. line-added    what the functions that add a row ask and give, put together
--     line-held                   the grids after a line
-- Assumes nothing.
use mathlib.Core.Path.{◌≡◌, refl, ap, ◌∙◌}
use mathlib.Core.List.{List, map}
use Prim.Native.Nat.{ℕ, ◌+◌, ◌*◌, ◌≤◌, ◌<◌}
use native.Mathlib.Nat.{le_trans, mul-le-mul}
use lib.Dec.{lit≤}
use lib.ListN.{length, length-map}
use lib.IntN.{ℤ, pos, ◌+ℤ◌, ◌-ℤ◌, ◌*ℤ◌}
use Rattle.arith.specs.Size.{Bound, bound-pos}
use Rattle.spline.specs.declared.AxisWeights.{AxisWeights}
use Rattle.grid_cells.specs.Cells.{add_mass_row, RowLimits, Cells, most_held, most_added}
use Rattle.grid_cells.proofs.Spots.{length-row, cells-row, cells-widen, masses-row, length-mass-row}
use Rattle.scatter_block.specs.Lines.{Held, LineNumbers, momentum_row, mass_line, momentum_line, MomentumLimits, LineLimits, LineAdded, most_mass_weight, most_speed, most_change}
use Rattle.scatter_block.proofs.Momenta.{factors, product-bound}

weighed-most : {c v m : ℕ} → c ≤ 8380416 → v ≤ 8192 → m ≡ c * v → m ≤ most_mass_weight
weighed-most h g e = rw e (mul-le-mul h g)

module _ {size : ℕ} {mass : List ℕ} {px py : List ℤ} {k c : ℕ} {w : AxisWeights} {sx bx sy by : ℤ} (limits : LineLimits size mass px py k c w sx bx sy by) {lower nearest upper : ℕ} (p : lower ≡ c * w.lower) (q : nearest ≡ c * w.nearest) (r : upper ≡ c * w.upper) where
  pub mass-asked : RowLimits pos mass k lower nearest upper
  mass-asked =
      record {
        low = limits.numbers.low;
        high = rw limits.held.mass-long limits.numbers.high;
        cells = limits.held.mass-cells;
        u-most = bound-pos (le_trans (weighed-most limits.numbers.c-most limits.numbers.weights.lower-most p) (lit≤ tt));
        v-most = bound-pos (le_trans (weighed-most limits.numbers.c-most limits.numbers.weights.nearest-most q) (lit≤ tt));
        w-most = bound-pos (le_trans (weighed-most limits.numbers.c-most limits.numbers.weights.upper-most r) (lit≤ tt));
      }

  -- of either axis; s' and b' are s and b as they are passed on
  momentum-asked : (l : List ℤ) {s b s' b' : ℤ} → length l ≡ size → Cells most_held l → Bound s most_speed → Bound b most_change → s' ≡ s → b' ≡ b → MomentumLimits l k lower nearest upper s' b'
  momentum-asked l long cells s-most b-most e f =
      record {
        low = limits.numbers.low;
        high = rw long limits.numbers.high;
        cells = cells;
        lower-most = weighed-most limits.numbers.c-most limits.numbers.weights.lower-most p;
        nearest-most = weighed-most limits.numbers.c-most limits.numbers.weights.nearest-most q;
        upper-most = weighed-most limits.numbers.c-most limits.numbers.weights.upper-most r;
        s-most = rw e s-most;
        b-most = rw f b-most;
      }

  pub x-asked : {s b : ℤ} → s ≡ sx → b ≡ bx → MomentumLimits px k lower nearest upper s b
  x-asked e f = momentum-asked px limits.held.px-long limits.held.px-cells limits.numbers.sx-most limits.numbers.bx-most e f

  pub y-asked : {s b : ℤ} → s ≡ sy → b ≡ by → MomentumLimits py k lower nearest upper s b
  y-asked e f = momentum-asked py limits.held.py-long limits.held.py-cells limits.numbers.sy-most limits.numbers.by_most e f

  momentum-added : (l : List ℤ) {l' : List ℤ} {s b s' b' : ℤ} → s' ≡ s → b' ≡ b → l' ≡ momentum_row l k lower nearest upper s' b' → l' ≡ momentum_line l k c w s b
  unfolding momentum_line
  momentum-added l e f g = g ∙ (λ t. momentum_row l k (p t) (q t) (r t) (e t) (f t))

  pub line-added : {mass' : List ℕ} {px' py' : List ℤ} {sx' bx' sy' by' : ℤ} → sx' ≡ sx → bx' ≡ bx → sy' ≡ sy → by' ≡ by → mass' ≡ add_mass_row mass k lower nearest upper → px' ≡ momentum_row px k lower nearest upper sx' bx' → py' ≡ momentum_row py k lower nearest upper sy' by' → LineAdded mass px py mass' px' py' k c w sx bx sy by
  unfolding mass_line
  line-added a b d e m x y =
      record { of-mass = m ∙ (λ t. add_mass_row mass k (p t) (q t) (r t)); of-px = momentum-added px a b x; of-py = momentum-added py d e y }

-- ---- the grids after a line

module _ {size k c : ℕ} {w : AxisWeights} {sx bx sy by : ℤ} (numbers : LineNumbers size k c w sx bx sy by) where
  most-at : {v : ℕ} → v ≤ 8192 → c * v ≤ most_mass_weight
  most-at {v} h = weighed-most numbers.c-most h refl

  momentum-held : (n : ℕ) (l : List ℤ) (s b : ℤ) → Bound s most_speed → Bound b most_change → length l ≡ size → Cells n l → (length (momentum_line l k c w s b) ≡ size) × Cells (n + most_added + most_added + most_added) (momentum_line l k c w s b)
  unfolding momentum_line momentum_row
  momentum-held n l s b s-most b-most long cells =
      let low = numbers.low in
      let high : k + 1 < length l = rw long numbers.high in
      let f = factors s b s-most b-most in (
        length-row l k (pos (c * w.lower) *ℤ (s -ℤ b)) (pos (c * w.nearest) *ℤ s) (pos (c * w.upper) *ℤ (s +ℤ b)) low high ∙ long,
        cells-row l k (pos (c * w.lower) *ℤ (s -ℤ b)) (pos (c * w.nearest) *ℤ s) (pos (c * w.upper) *ℤ (s +ℤ b)) low high n most_added cells
            (product-bound (c * w.lower) (s -ℤ b) (most-at numbers.weights.lower-most) f.below)
            (product-bound (c * w.nearest) s (most-at numbers.weights.nearest-most) f.here)
            (product-bound (c * w.upper) (s +ℤ b) (most-at numbers.weights.upper-most) f.above),
      )

  mass-held : (n : ℕ) (l : List ℕ) → length l ≡ size → Cells n (map pos l) → Cells (n + most_added + most_added + most_added) (map pos (mass_line l k c w))
  unfolding mass_line
  mass-held n l long cells =
      let high : k + 1 < length (map pos l) = rw (length-map l pos, long) numbers.high in
      rw (masses-row l k (c * w.lower) (c * w.nearest) (c * w.upper))
      (cells-row (map pos l) k (pos (c * w.lower)) (pos (c * w.nearest)) (pos (c * w.upper)) numbers.low high n most_added cells
      (bound-pos (le_trans (most-at numbers.weights.lower-most) (lit≤ tt)))
      (bound-pos (le_trans (most-at numbers.weights.nearest-most) (lit≤ tt)))
      (bound-pos (le_trans (most-at numbers.weights.upper-most) (lit≤ tt))))

  pub line-held : {n : ℕ} {mass mass' : List ℕ} {px py px' py' : List ℤ} → Held n size mass px py → LineAdded mass px py mass' px' py' k c w sx bx sy by → Held (n + most_added + most_added + most_added) size mass' px' py'
  unfolding mass_line
  line-held {n} {mass} {px} {py} h a =
      let x = momentum-held n px sx bx numbers.sx-most numbers.bx-most h.px-long h.px-cells in
      let y = momentum-held n py sy by numbers.sy-most numbers.by_most h.py-long h.py-cells in
      record {
        mass-long = ap length a.of-mass ∙ length-mass-row mass k (c * w.lower) (c * w.nearest) (c * w.upper) ∙ h.mass-long;
        px-long = ap length a.of-px ∙ x.0;
        py-long = ap length a.of-py ∙ y.0;
        mass-cells = rw a.of-mass (mass-held n mass h.mass-long h.mass-cells);
        px-cells = rw a.of-px x.1;
        py-cells = rw a.of-py y.1;
      }

pub held-widen : {m n size : ℕ} {mass : List ℕ} {px py : List ℤ} → m ≤ n → Held m size mass px py → Held n size mass px py
held-widen h g =
    record {
      mass-long = g.mass-long;
      px-long = g.px-long;
      py-long = g.py-long;
      mass-cells = cells-widen h g.mass-cells;
      px-cells = cells-widen h g.px-cells;
      py-cells = cells-widen h g.py-cells;
    }
