-- Adding at one cell and at three neighbours.
--     spot, three-spots      what is added at each place by one addition, and by three at neighbours
--     added-at, added-row    what stands at each place afterwards
--     cells_at, cells-row    a bound on every cell, before and after
--     values-at, values-row  the same of cells of any kind, read as integers
-- Assumes nothing.
use mathlib.Core.Path.{◌≡◌, refl, sym, ap, ap₂, ◌∙◌}
use mathlib.Core.Bool.{cond}
use mathlib.Core.List.{List, [], ◌∷◌, map}
use Prim.Native.Nat.{ℕ, zero, suc, ◌+◌, ◌-◌, ◌<◌, ◌≤◌, zero-le}
use native.Mathlib.Omega.{arith}
use lib.Dec.{eqb}
use lib.ListN.{length, get_or, set, length-set, get_or-map}
use lib.Seq.{get_or-set_same, get_or-set_other}
use lib.IntN.{ℤ, pos, ◌+ℤ◌, +ℤ_idr, +ℤ_idl, +ℤ_assoc}
use borrow.Author.Tests.{eq-eqb, ne_eqb}
use Rattle.arith.specs.Size.{Bound, bound-sum, bound-widen}
use Rattle.arith.specs.Neighbours.{neighbours, Place, place, lower, nearest, upper, far, by_place, at-lower, at-nearest, at-upper, at-far}
use Rattle.grid_cells.specs.Cells.{CellLaws, mass_laws, sum_at, sum_row, add_at, add_row, add_mass_row, Cells}

-- ---- one cell

-- v at place k, and 0 elsewhere
unfoldable pub spot : ℕ → ℤ → ℕ → ℤ
spot k v m = cond (eqb m k) v (pos 0)

pub spot-here : (k : ℕ) (v : ℤ) (m : ℕ) → m ≡ k → spot k v m ≡ v
unfolding spot
spot-here k v m e = rw (eq-eqb m k e)

pub spot-else : (k : ℕ) (v : ℤ) (m : ℕ) → (m ≡ k → ⊥) → spot k v m ≡ pos 0
unfolding spot
spot-else k v m n = rw (ne_eqb m k n)

pub spot-bound : (k : ℕ) (v : ℤ) (m n : ℕ) → Bound v n → Bound (spot k v m) n
spot-bound k v m n b =
    by_place m k (Bound (spot k v m) n) (λ e. rw (spot-here k v m e) b) (λ e. rw (spot-else k v m e) (record { size = zero-le }))

module _ (l : List ℤ) (k : ℕ) (v : ℤ) where
  pub length_at : length (add_at l k v) ≡ length l
  unfolding sum_at
  length_at = length-set l k (get_or l k (pos 0) +ℤ v)

  pub added-at : k < length l → (m : ℕ) → get_or (add_at l k v) m (pos 0) ≡ get_or l m (pos 0) +ℤ spot k v m
  unfolding sum_at
  added-at h m =
      by_place m k (get_or (add_at l k v) m (pos 0) ≡ get_or l m (pos 0) +ℤ spot k v m)
      (λ e.
      ap (λ i. get_or (add_at l k v) i (pos 0)) e ∙ get_or-set_same l k (get_or l k (pos 0) +ℤ v) (pos 0) h
      ∙ ap₂ ◌+ℤ◌ (ap (λ i. get_or l i (pos 0)) (sym e)) (sym (spot-here k v m e)))
      (λ e.
      get_or-set_other l k m (get_or l k (pos 0) +ℤ v) (pos 0) e ∙ sym (+ℤ_idr (get_or l m (pos 0)))
      ∙ ap (λ z. get_or l m (pos 0) +ℤ z) (sym (spot-else k v m e)))

  pub cells_at : (n t : ℕ) → k < length l → Cells n l → Bound v t → Cells (n + t) (add_at l k v)
  cells_at n t h c b = record { cell = λ m. rw (added-at h m) (bound-sum (c.cell m) (spot-bound k v m t b)) }

pub cells-widen : {m n : ℕ} {l : List ℤ} → m ≤ n → Cells m l → Cells n l
cells-widen h c = record { cell = λ k. bound-widen h (c.cell k) }

-- ---- three neighbours

-- the three are one addition each
pub three-spots : (c : ℕ) (u v w : ℤ) (i : ℕ) → 1 ≤ c → spot (c - 1) u i +ℤ spot c v i +ℤ spot (c + 1) w i ≡ neighbours c u v w i
three-spots c u v w i h = go (place c i)
  where
    sum : (x y z : ℤ) → spot (c - 1) u i ≡ x → spot c v i ≡ y → spot (c + 1) w i ≡ z → spot (c - 1) u i +ℤ spot c v i +ℤ spot (c + 1) w i ≡ x +ℤ y +ℤ z
    sum x y z p q r = ap₂ ◌+ℤ◌ (ap₂ ◌+ℤ◌ p q) r

    go : Place c i → spot (c - 1) u i +ℤ spot c v i +ℤ spot (c + 1) w i ≡ neighbours c u v w i
    go (lower e) =
        sum u (pos 0) (pos 0) (spot-here (c - 1) u i (omega arith)) (spot-else c v i (λ f. omega arith)) (spot-else (c + 1) w i (λ f. omega arith))
        ∙ +ℤ_idr (u +ℤ pos 0) ∙ +ℤ_idr u
        ∙ sym (at-lower c u v w i e)
    go (nearest e) =
        sum (pos 0) v (pos 0) (spot-else (c - 1) u i (λ f. omega arith)) (spot-here c v i e) (spot-else (c + 1) w i (λ f. omega arith))
        ∙ +ℤ_idr (pos 0 +ℤ v) ∙ +ℤ_idl v
        ∙ sym (at-nearest c u v w i e)
    go (upper e) =
        sum (pos 0) (pos 0) w (spot-else (c - 1) u i (λ f. omega arith)) (spot-else c v i (λ f. omega arith)) (spot-here (c + 1) w i e)
        ∙ +ℤ_idl w
        ∙ sym (at-upper c u v w i e)
    go (far a b d) =
        sum (pos 0) (pos 0) (pos 0) (spot-else (c - 1) u i (λ f. a (omega arith))) (spot-else c v i b) (spot-else (c + 1) w i d)
        ∙ sym (at-far c u v w i a b d)

-- ---- a row

module _ (l : List ℤ) (k : ℕ) (u v w : ℤ) (low : 1 ≤ k) (high : k + 1 < length l) where
  second-long : k < length (add_at l (k - 1) u)
  second-long = rw (length_at l (k - 1) u) (omega arith)

  third-long : k + 1 < length (add_at (add_at l (k - 1) u) k v)
  third-long = rw (length_at (add_at l (k - 1) u) k v, length_at l (k - 1) u) high

  pub length-row : length (add_row l k u v w) ≡ length l
  unfolding sum_row sum_at
  length-row =
      length_at (add_at (add_at l (k - 1) u) k v) (k + 1) w ∙ length_at (add_at l (k - 1) u) k v ∙ length_at l (k - 1) u

  pub added-row : (m : ℕ) → get_or (add_row l k u v w) m (pos 0) ≡ get_or l m (pos 0) +ℤ (spot (k - 1) u m +ℤ spot k v m +ℤ spot (k + 1) w m)
  unfolding sum_row sum_at
  added-row m =
      added-at (add_at (add_at l (k - 1) u) k v) (k + 1) w third-long m
      ∙ ap (λ z. z +ℤ spot (k + 1) w m)
      (added-at (add_at l (k - 1) u) k v second-long m ∙ ap (λ z. z +ℤ spot k v m) (added-at l (k - 1) u (omega arith) m))
      ∙ group (get_or l m (pos 0)) (spot (k - 1) u m) (spot k v m) (spot (k + 1) w m)
    where
      group : (a b c d : ℤ) → a +ℤ b +ℤ c +ℤ d ≡ a +ℤ (b +ℤ c +ℤ d)
      group a b c d = +ℤ_assoc (a +ℤ b) c d ∙ +ℤ_assoc a b (c +ℤ d) ∙ ap (λ z. a +ℤ z) (sym (+ℤ_assoc b c d))

  pub cells-row : (n t : ℕ) → Cells n l → Bound u t → Bound v t → Bound w t → Cells (n + t + t + t) (add_row l k u v w)
  unfolding sum_row sum_at
  cells-row n t c p q r =
      cells_at (add_at (add_at l (k - 1) u) k v) (k + 1) w (n + t + t) t third-long
      (cells_at (add_at l (k - 1) u) k v (n + t) t second-long (cells_at l (k - 1) u n t (omega arith) c p) q) r

-- ---- cells, read as integers

map-set : {A B : Type 0} (f : A → B) (l : List A) (k : ℕ) (a : A) → map f (set l k a) ≡ set (map f l) k (f a)
map-set f [] k a = refl
map-set f (x ∷ xs) zero a = refl
map-set f (x ∷ xs) (suc k) a = ap (λ r. f x ∷ r) (map-set f xs k a)

module _ {A : Type 0} {zero : A} {sum : A → A → A} {fits : A → A → Type 0} {value : A → ℤ} (laws : CellLaws zero sum fits value) where
  pub value_at : (l : List A) (k : ℕ) → value (get_or l k zero) ≡ get_or (map value l) k (pos 0)
  value_at l k = sym (get_or-map value l k zero) ∙ ap (λ d. get_or (map value l) k d) laws.of-zero

  pub values-at : (l : List A) (k : ℕ) (v : A) → map value (sum_at zero sum l k v) ≡ add_at (map value l) k (value v)
  unfolding sum_at
  values-at l k v =
      map-set value l k (sum (get_or l k zero) v)
      ∙ ap (λ z. set (map value l) k z) (laws.of-sum (get_or l k zero) v ∙ ap (λ z. z +ℤ value v) (value_at l k))

  pub values-row : (l : List A) (k : ℕ) (u v w : A) → map value (sum_row zero sum l k u v w) ≡ add_row (map value l) k (value u) (value v) (value w)
  unfolding sum_row
  values-row l k u v w =
      values-at (sum_at zero sum (sum_at zero sum l (k - 1) u) k v) (k + 1) w
      ∙ ap (λ m. add_at m (k + 1) (value w)) (values-at (sum_at zero sum l (k - 1) u) k v ∙ ap (λ m. add_at m k (value v)) (values-at l (k - 1) u))

pub masses-row : (l : List ℕ) (k u v w : ℕ) → map pos (add_mass_row l k u v w) ≡ add_row (map pos l) k (pos u) (pos v) (pos w)
masses-row = values-row mass_laws

pub length-mass-row : (l : List ℕ) (k u v w : ℕ) → length (add_mass_row l k u v w) ≡ length l
unfolding sum_row sum_at
length-mass-row l k u v w = simp length-set
