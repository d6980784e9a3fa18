-- The additions of a row, one after the other: each is within its bound.
--     first, second, third    what is asked before each
--     whole                   together they are the row
-- Assumes nothing.
use mathlib.Core.Path.{◌≡◌, sym, ap, subst, ◌∙◌}
use mathlib.Core.List.{List, map}
use Prim.Native.Nat.{ℕ, ◌+◌, ◌-◌, ◌<◌}
use native.Mathlib.Omega.{arith}
use lib.Dec.{lit≤}
use lib.ListN.{length, get_or, length-map}
use lib.IntN.{ℤ}
use Rattle.arith.specs.Size.{Bound, bound-sum}
use Rattle.grid_cells.specs.Cells.{CellLaws, sum_at, sum_row, add_at, Cells, most_held, most_added, RowLimits}
use Rattle.grid_cells.proofs.Spots.{length_at, cells_at, cells-widen, value_at, values-at}

-- a cell that holds at most two additions more than before the row takes one more
record Taken (l : List ℤ) (k : ℕ) (v : ℤ) : Type 0 where
  long : k < length l
  cells : Cells (most_held + most_added + most_added) l
  most : Bound v most_added

module _ {A : Type 0} {zero : A} {sum : A → A → A} {fits : A → A → Type 0} {value : A → ℤ} (laws : CellLaws zero sum fits value) where
  cell-fits : (l : List A) (k : ℕ) (v : A) → Taken (map value l) k (value v) → (k < length l) × fits (get_or l k zero) v
  cell-fits l k v t = (
    subst (λ n. k < n) (length-map l value) t.long,
    laws.of-fits (get_or l k zero) v (rw (value_at laws l k) (bound-sum (t.cells.cell k) t.most)),
  )

  module _ {l : List A} {k : ℕ} {u v w : A} (limits : RowLimits value l k u v w) where
    cells-1 : Cells (most_held + most_added) (add_at (map value l) (k - 1) (value u))
    cells-1 = cells_at (map value l) (k - 1) (value u) most_held most_added (rw (length-map l value) (omega (arith, limits.high))) limits.cells limits.u-most

    pub first : (k - 1 < length l) × fits (get_or l (k - 1) zero) u
    first =
        cell-fits l (k - 1) u
        (record { long = rw (length-map l value) (omega (arith, limits.high)); cells = cells-widen (lit≤ tt) limits.cells; most = limits.u-most })

    pub second : {l1 : List A} → l1 ≡ sum_at zero sum l (k - 1) u → (k < length l1) × fits (get_or l1 k zero) v
    second {l1} e =
        cell-fits l1 k v
        (subst (λ m. Taken m k (value v)) (sym (ap (map value) e ∙ values-at laws l (k - 1) u))
        (record {
          long = rw (length_at (map value l) (k - 1) (value u), length-map l value) (omega (arith, limits.high));
          cells = cells-widen (lit≤ tt) cells-1;
          most = limits.v-most;
        }))

    pub third : {l1 l2 : List A} → l1 ≡ sum_at zero sum l (k - 1) u → l2 ≡ sum_at zero sum l1 k v → (k + 1 < length l2) × fits (get_or l2 (k + 1) zero) w
    third {l1} {l2} e f =
        cell-fits l2 (k + 1) w
        (subst (λ m. Taken m (k + 1) (value w))
        (sym (ap (map value) f ∙ values-at laws l1 k v ∙ ap (λ m. add_at m k (value v)) (ap (map value) e ∙ values-at laws l (k - 1) u)))
        (record {
          long =
              rw (length_at (add_at (map value l) (k - 1) (value u)) k (value v), length_at (map value l) (k - 1) (value u), length-map l value)
              limits.high;
          cells =
              cells_at (add_at (map value l) (k - 1) (value u)) k (value v) (most_held + most_added) most_added
              (rw (length_at (map value l) (k - 1) (value u), length-map l value) (omega (arith, limits.high)))
              cells-1 limits.v-most;
          most = limits.w-most;
        }))

pub whole : {A : Type 0} (zero : A) (sum : A → A → A) (l l1 l2 l3 : List A) (k : ℕ) (u v w : A) → l1 ≡ sum_at zero sum l (k - 1) u → l2 ≡ sum_at zero sum l1 k v → l3 ≡ sum_at zero sum l2 (k + 1) w → l3 ≡ sum_row zero sum l k u v w
unfolding sum_row
whole zero sum l l1 l2 l3 k u v w e f g = g ∙ ap (λ m. sum_at zero sum m (k + 1) w) (f ∙ ap (λ m. sum_at zero sum m k v) e)
