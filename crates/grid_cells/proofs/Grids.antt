-- Grids as lists.
--     get_or-grid, length-grid   what stands in a grid
--     plus-from                a list that holds f(i, j) more at every node
--     plus-cong, plus-plus     laws of what is added
--     plus-cells               a bound on every cell
--     mass-plus                masses, read as integers
--     row-added, block-added   three neighbours in a line, and three such lines
-- Assumes nothing.
use mathlib.Core.Path.{◌≡◌, refl, sym, ap, ap₂, subst, ◌∙◌}
use mathlib.Core.Bool.{Bool, true, false}
use mathlib.Core.List.{List, map}
use Prim.Native.Nat.{ℕ, zero, suc, ◌+◌, ◌-◌, ◌*◌, ◌/◌, ◌%◌, ◌<◌, ◌≤◌, zero-le}
use native.Mathlib.Nat.{suc-mul, add_assoc}
use native.Mathlib.Numerals.{add-one}
use native.Mathlib.Omega.{arith}
use lib.Dec.{ltb}
use lib.ListN.{length, get_or, length-map, get_or-map, get_or-eq_default}
use lib.Seq.{ext_get_or}
use lib.Signed.{◌≤ℤ◌}
use lib.IntN.{ℤ, pos, nat_abs, ◌+ℤ◌, +ℤ_assoc}
use borrow.Author.Tests.{ltb-true, ltb-false}
use Rattle.arith.specs.Order.{nonneg_pos}
use Rattle.arith.specs.Size.{Bound, bound-sum}
use Rattle.arith.specs.Lists.{get_or-tabulated, length-tabulated}
use Rattle.arith.specs.Indices.{column, line, column-below, line-below, index, index_below}
use Rattle.arith.specs.Neighbours.{neighbours, by_place, neighbours-inside}
use Rattle.apic.specs.Step.{grid, node}
use Rattle.grid_cells.specs.Cells.{add_row, Cells}
use Rattle.grid_cells.specs.Plus.{plus, mass_plus}
use Rattle.grid_cells.proofs.Spots.{spot, spot-here, spot-else, three-spots, added-row, length-row}

-- ---- what stands in a grid

module _ {A : Type 0} (nx ny : ℕ) (f : ℕ → ℕ → A) where
  pub length-grid : length (grid nx ny f) ≡ nx * ny
  length-grid = length-tabulated (λ k. f (k % nx) (k / nx)) (nx * ny)

  pub get_or-grid : (d : A) (n : ℕ) → n < nx * ny → get_or (grid nx ny f) n d ≡ f (n % nx) (n / nx)
  get_or-grid d n h = get_or-tabulated (λ k. f (k % nx) (k / nx)) (nx * ny) n d h

pub grid-from : {A : Type 0} (nx ny : ℕ) (f : ℕ → ℕ → A) (d : A) (l : List A) → length l ≡ nx * ny → ((n : ℕ) → n < nx * ny → get_or l n d ≡ f (n % nx) (n / nx)) → l ≡ grid nx ny f
grid-from nx ny f d l e h =
    ext_get_or d l (grid nx ny f) (e ∙ sym (length-grid nx ny f))
    (λ n b. let c = subst (λ k. n < k) e b in h n c ∙ sym (get_or-grid nx ny f d n c))

pub grid-cong : {A : Type 0} (nx ny : ℕ) (f g : ℕ → ℕ → A) → ((i j : ℕ) → f i j ≡ g i j) → grid nx ny f ≡ grid nx ny g
grid-cong nx ny f g h = ap (λ s. grid nx ny s) (λ t i j. h i j t)

-- ---- something added at every node

pub length-plus : (nx ny : ℕ) (l : List ℤ) (f : ℕ → ℕ → ℤ) → length (plus nx ny l f) ≡ nx * ny
unfolding plus
length-plus nx ny l f = length-grid nx ny (λ i j. node nx l i j +ℤ f i j)

pub get_or-plus : (nx ny : ℕ) (l : List ℤ) (f : ℕ → ℕ → ℤ) (n : ℕ) → n < nx * ny → get_or (plus nx ny l f) n (pos 0) ≡ get_or l n (pos 0) +ℤ f (n % nx) (n / nx)
unfolding plus
get_or-plus nx ny l f n h =
    get_or-grid nx ny (λ i j. node nx l i j +ℤ f i j) (pos 0) n h
    ∙ ap (λ k. get_or l k (pos 0) +ℤ f (n % nx) (n / nx)) (index nx n)

pub plus-from : (nx ny : ℕ) (l l' : List ℤ) (f : ℕ → ℕ → ℤ) → length l' ≡ nx * ny → ((n : ℕ) → n < nx * ny → get_or l' n (pos 0) ≡ get_or l n (pos 0) +ℤ f (n % nx) (n / nx)) → l' ≡ plus nx ny l f
plus-from nx ny l l' f e h =
    ext_get_or (pos 0) l' (plus nx ny l f) (e ∙ sym (length-plus nx ny l f))
    (λ n b. let c = subst (λ k. n < k) e b in h n c ∙ sym (get_or-plus nx ny l f n c))

pub plus-cong : (nx ny : ℕ) (l : List ℤ) (f g : ℕ → ℕ → ℤ) → ((i j : ℕ) → f i j ≡ g i j) → plus nx ny l f ≡ plus nx ny l g
plus-cong nx ny l f g h = ap (λ s. plus nx ny l s) (λ t i j. h i j t)

pub plus-plus : (nx ny : ℕ) (l : List ℤ) (f g : ℕ → ℕ → ℤ) → plus nx ny (plus nx ny l f) g ≡ plus nx ny l (λ i j. f i j +ℤ g i j)
plus-plus nx ny l f g =
    plus-from nx ny l (plus nx ny (plus nx ny l f) g) (λ i j. f i j +ℤ g i j) (length-plus nx ny (plus nx ny l f) g)
    (λ n h.
    get_or-plus nx ny (plus nx ny l f) g n h
    ∙ ap (λ z. z +ℤ g (n % nx) (n / nx)) (get_or-plus nx ny l f n h)
    ∙ +ℤ_assoc (get_or l n (pos 0)) (f (n % nx) (n / nx)) (g (n % nx) (n / nx)))

pub plus-cells : (nx ny : ℕ) (l : List ℤ) (f : ℕ → ℕ → ℤ) (n t : ℕ) → 0 < nx → Cells n l → ((i j : ℕ) → i < nx → j < ny → Bound (f i j) t) → Cells (n + t) (plus nx ny l f)
plus-cells nx ny l f n t some c b = record { cell = λ k. go k (ltb k (nx * ny)) refl }
  where
    go : (k : ℕ) (r : Bool) → ltb k (nx * ny) ≡ r → Bound (get_or (plus nx ny l f) k (pos 0)) (n + t)
    go k true e =
        let below = ltb-true k (nx * ny) e in
        rw (get_or-plus nx ny l f k below) (bound-sum (c.cell k) (b (k % nx) (k / nx) (column-below nx some k) (line-below nx some ny k below)))
    go k false e =
        rw (get_or-eq_default (plus nx ny l f) (pos 0) {n = k} (rw (length-plus nx ny l f) (ltb-false k (nx * ny) e)))
        (record { size = zero-le })

-- ---- masses, read as integers

pub mass-plus : (nx ny : ℕ) (l l' : List ℕ) (f : ℕ → ℕ → ℤ) → ((i j : ℕ) → pos 0 ≤ℤ f i j) → map pos l' ≡ plus nx ny (map pos l) f → l' ≡ mass_plus nx ny l f
unfolding mass_plus
mass-plus nx ny l l' f nonneg e =
    grid-from nx ny (λ i j. get_or l (j * nx + i) 0 + nat_abs (f i j)) 0 l'
    (sym (length-map l' pos) ∙ ap length e ∙ length-plus nx ny (map pos l) f)
    (λ n h. ap nat_abs (at n h) ∙ ap (λ k. get_or l k 0 + nat_abs (f (n % nx) (n / nx))) (sym (index nx n)))
  where
    at : (n : ℕ) → n < nx * ny → pos (get_or l' n 0) ≡ pos (get_or l n 0 + nat_abs (f (n % nx) (n / nx)))
    at n h =
        sym (get_or-map pos l' n 0) ∙ ap (λ m. get_or m n (pos 0)) e ∙ get_or-plus nx ny (map pos l) f n h
        ∙ ap₂ ◌+ℤ◌ (get_or-map pos l n 0) (nonneg_pos (nonneg (n % nx) (n / nx)))

pub length-mass-plus : (nx ny : ℕ) (l : List ℕ) (f : ℕ → ℕ → ℤ) → length (mass_plus nx ny l f) ≡ nx * ny
unfolding mass_plus
length-mass-plus nx ny l f = length-grid nx ny (λ i j. get_or l (j * nx + i) 0 + nat_abs (f i j))

pub plus-mass : (nx ny : ℕ) (l : List ℕ) (f : ℕ → ℕ → ℤ) → ((i j : ℕ) → pos 0 ≤ℤ f i j) → map pos (mass_plus nx ny l f) ≡ plus nx ny (map pos l) f
unfolding mass_plus
plus-mass nx ny l f nonneg =
    plus-from nx ny (map pos l) (map pos (mass_plus nx ny l f)) f
    (length-map (mass_plus nx ny l f) pos ∙ length-grid nx ny (λ i j. get_or l (j * nx + i) 0 + nat_abs (f i j)))
    (λ n h.
    get_or-map pos (mass_plus nx ny l f) n 0
    ∙ ap pos (get_or-grid nx ny (λ i j. get_or l (j * nx + i) 0 + nat_abs (f i j)) 0 n h ∙ ap (λ k. get_or l k 0 + nat_abs (f (n % nx) (n / nx))) (index nx n))
    ∙ ap₂ ◌+ℤ◌ (sym (get_or-map pos l n 0)) (sym (nonneg_pos (nonneg (n % nx) (n / nx)))))

-- ---- three neighbours in a line, three such lines

spot-node : (nx : ℕ) → 0 < nx → (a b : ℕ) (z : ℤ) (n : ℕ) → a < nx → spot (b * nx + a) z n ≡ spot b (spot a z (n % nx)) (n / nx)
spot-node nx some a b z n h =
    by_place (n / nx) b (spot (b * nx + a) z n ≡ spot b (spot a z (n % nx)) (n / nx))
    (λ e.
    by_place (n % nx) a (spot (b * nx + a) z n ≡ spot a z (n % nx))
    (λ f. spot-here (b * nx + a) z n (sym (index nx n) ∙ ap₂ (λ j i. j * nx + i) e f) ∙ sym (spot-here a z (n % nx) f))
    (λ f. spot-else (b * nx + a) z n (λ g. f (ap (λ k. k % nx) g ∙ column nx some a b h)) ∙ sym (spot-else a z (n % nx) f))
    ∙ sym (spot-here b (spot a z (n % nx)) (n / nx) e))
    (λ e.
    spot-else (b * nx + a) z n (λ g. e (ap (λ k. k / nx) g ∙ line nx some a b h))
    ∙ sym (spot-else b (spot a z (n % nx)) (n / nx) e))

spot-sum : (b : ℕ) (x y z : ℤ) (j : ℕ) → spot b x j +ℤ spot b y j +ℤ spot b z j ≡ spot b (x +ℤ y +ℤ z) j
spot-sum b x y z j =
    by_place j b (spot b x j +ℤ spot b y j +ℤ spot b z j ≡ spot b (x +ℤ y +ℤ z) j)
    (λ e. ap₂ ◌+ℤ◌ (ap₂ ◌+ℤ◌ (spot-here b x j e) (spot-here b y j e)) (spot-here b z j e) ∙ sym (spot-here b (x +ℤ y +ℤ z) j e))
    (λ e. ap₂ ◌+ℤ◌ (ap₂ ◌+ℤ◌ (spot-else b x j e) (spot-else b y j e)) (spot-else b z j e) ∙ sym (spot-else b (x +ℤ y +ℤ z) j e))

module _ (nx ny a : ℕ) (low : 1 ≤ a) (high : a + 1 < nx) where
  some : 0 < nx
  some = omega arith

  -- the cell of node (a, b) has two neighbours in the list
  pub row_low : (b : ℕ) → 1 ≤ b * nx + a
  row_low b = past (b * nx) a low
    where
      past : (m a : ℕ) → 1 ≤ a → 1 ≤ m + a
      past m a h = omega arith

  pub row-high : (b : ℕ) → b < ny → b * nx + a + 1 < nx * ny
  row-high b h = rw (add_assoc (b * nx) a 1) (index_below nx ny (a + 1) b high h)

  pub row-added : (l : List ℤ) (b : ℕ) (u v w : ℤ) → length l ≡ nx * ny → b < ny → (n : ℕ) → get_or (add_row l (b * nx + a) u v w) n (pos 0) ≡ get_or l n (pos 0) +ℤ spot b (neighbours a u v w (n % nx)) (n / nx)
  row-added l b u v w e h n =
      added-row l (b * nx + a) u v w (row_low b) (rw e (row-high b h)) n
      ∙ ap (λ z. get_or l n (pos 0) +ℤ z)
      (ap₂ ◌+ℤ◌
      (ap₂ ◌+ℤ◌
      (ap (λ k. spot k u n) (less (b * nx) a low) ∙ spot-node nx some (a - 1) b u n (omega arith))
      (spot-node nx some a b v n (omega arith)))
      (ap (λ k. spot k w n) (add_assoc (b * nx) a 1) ∙ spot-node nx some (a + 1) b w n high)
      ∙ spot-sum b (spot (a - 1) u (n % nx)) (spot a v (n % nx)) (spot (a + 1) w (n % nx)) (n / nx)
      ∙ ap (λ z. spot b z (n / nx)) (three-spots a u v w (n % nx) low))
    where
      less : (m a : ℕ) → 1 ≤ a → m + a - 1 ≡ m + (a - 1)
      less m a h = omega arith

-- the lines below and above
pub line-below-index : (nx a b : ℕ) → 1 ≤ b → b * nx + a - nx ≡ (b - 1) * nx + a
line-below-index nx a (suc b) h = ap (λ m. m + a - nx) (suc-mul b nx) ∙ less (b * nx) nx a ∙ ap (λ c. c * nx + a) (sym (one_less b))
  where
    less : (m n a : ℕ) → m + n + a - n ≡ m + a
    less m n a = omega arith

    one_less : (b : ℕ) → suc b - 1 ≡ b
    one_less b = omega arith
line-below-index nx a zero h = absurd (none h)
  where
    none : 1 ≤ 0 → ⊥
    none h = omega arith

pub line-above-index : (nx a b : ℕ) → b * nx + a + nx ≡ (b + 1) * nx + a
line-above-index nx a b = more (b * nx) nx a ∙ ap (λ m. m + a) (sym (suc-mul b nx) ∙ ap (λ c. c * nx) (sym (add-one b)))
  where
    more : (m n a : ℕ) → m + a + n ≡ m + n + a
    more m n a = omega arith

-- F i j wx wy is the share of node (i, j); the weights are three on each axis
module _ (nx ny a b : ℕ) (xl : 1 ≤ a) (xh : a + 1 < nx) (yl : 1 ≤ b) (yh : b + 1 < ny) (F : ℕ → ℕ → ℤ → ℤ → ℤ) (x-keeps : (i j : ℕ) (w : ℤ) → F i j (pos 0) w ≡ pos 0) (y-keeps : (i j : ℕ) (w : ℤ) → F i j w (pos 0) ≡ pos 0) (lx mx ux ly my uy : ℤ) where
  -- the shares of a line
  shares : ℕ → ℤ → ℕ → ℤ
  shares j w = neighbours a (F (a - 1) j lx w) (F a j mx w) (F (a + 1) j ux w)

  inside : (i j : ℕ) → F i j (neighbours a lx mx ux i) (neighbours b ly my uy j) ≡ neighbours b (shares (b - 1) ly i) (shares b my i) (shares (b + 1) uy i) j
  unfolding shares
  inside i j =
      neighbours-inside (λ j w. F i j (neighbours a lx mx ux i) w) (λ j. y-keeps i j (neighbours a lx mx ux i)) b ly my uy j yl
      ∙ (λ t. neighbours b (line_of (b - 1) ly t) (line_of b my t) (line_of (b + 1) uy t) j)
    where
      line_of : (j : ℕ) (w : ℤ) → F i j (neighbours a lx mx ux i) w ≡ neighbours a (F (a - 1) j lx w) (F a j mx w) (F (a + 1) j ux w) i
      line_of j w = neighbours-inside (λ i v. F i j v w) (λ i. x-keeps i j w) a lx mx ux i xl

  pub block-plus : (l l1 l2 l3 : List ℤ) → length l ≡ nx * ny → l1 ≡ add_row l (b * nx + a - nx) (F (a - 1) (b - 1) lx ly) (F a (b - 1) mx ly) (F (a + 1) (b - 1) ux ly) → l2 ≡ add_row l1 (b * nx + a) (F (a - 1) b lx my) (F a b mx my) (F (a + 1) b ux my) → l3 ≡ add_row l2 (b * nx + a + nx) (F (a - 1) (b + 1) lx uy) (F a (b + 1) mx uy) (F (a + 1) (b + 1) ux uy) → l3 ≡ plus nx ny l (λ i j. F i j (neighbours a lx mx ux i) (neighbours b ly my uy j))
  unfolding shares
  block-plus l l1 l2 l3 e e1 e2 e3 =
      plus-from nx ny l l3 (λ i j. F i j (neighbours a lx mx ux i) (neighbours b ly my uy j)) long-3
      (λ n h.
      ap (λ m. get_or m n (pos 0)) at-3 ∙ row-added nx ny a xl xh l2 (b + 1) _ _ _ long-2 yh n
      ∙ ap (λ z. z +ℤ spot (b + 1) (shares (b + 1) uy (n % nx)) (n / nx))
      (ap (λ m. get_or m n (pos 0)) e2 ∙ row-added nx ny a xl xh l1 b _ _ _ long-1 (omega arith) n
      ∙ ap (λ z. z +ℤ spot b (shares b my (n % nx)) (n / nx))
      (ap (λ m. get_or m n (pos 0)) at_1 ∙ row-added nx ny a xl xh l (b - 1) _ _ _ e (omega arith) n))
      ∙ group (get_or l n (pos 0)) _ _ _
      ∙ ap (λ z. get_or l n (pos 0) +ℤ z) (three-spots b _ _ _ (n / nx) yl ∙ sym (inside (n % nx) (n / nx))))
    where
      at_1 : l1 ≡ add_row l ((b - 1) * nx + a) (F (a - 1) (b - 1) lx ly) (F a (b - 1) mx ly) (F (a + 1) (b - 1) ux ly)
      at_1 = e1 ∙ ap (λ k. add_row l k (F (a - 1) (b - 1) lx ly) (F a (b - 1) mx ly) (F (a + 1) (b - 1) ux ly)) (line-below-index nx a b yl)

      at-3 : l3 ≡ add_row l2 ((b + 1) * nx + a) (F (a - 1) (b + 1) lx uy) (F a (b + 1) mx uy) (F (a + 1) (b + 1) ux uy)
      at-3 = e3 ∙ ap (λ k. add_row l2 k (F (a - 1) (b + 1) lx uy) (F a (b + 1) mx uy) (F (a + 1) (b + 1) ux uy)) (line-above-index nx a b)

      long : (l : List ℤ) (j : ℕ) (u v w : ℤ) → j < ny → length l ≡ nx * ny → length (add_row l (j * nx + a) u v w) ≡ nx * ny
      long l j u v w h e = length-row l (j * nx + a) u v w (row_low nx ny a xl xh j) (rw e (row-high nx ny a xl xh j h)) ∙ e

      long-1 : length l1 ≡ nx * ny
      long-1 = ap length at_1 ∙ long l (b - 1) _ _ _ (omega arith) e

      long-2 : length l2 ≡ nx * ny
      long-2 = ap length e2 ∙ long l1 b _ _ _ (omega arith) long-1

      long-3 : length l3 ≡ nx * ny
      long-3 = ap length at-3 ∙ long l2 (b + 1) _ _ _ yh long-2

      group : (p q r s : ℤ) → p +ℤ q +ℤ r +ℤ s ≡ p +ℤ (q +ℤ r +ℤ s)
      group p q r s = +ℤ_assoc (p +ℤ q) r s ∙ +ℤ_assoc p q (r +ℤ s) ∙ ap (λ z. p +ℤ z) (sym (+ℤ_assoc q r s))
