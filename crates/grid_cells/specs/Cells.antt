-- What adding to three neighbours does to a grid's list, and the bounds within which it is called. Assumes nothing.
use Rattle.std.specs.Prelude.{◌≡◌, List, map, ℕ, ◌+◌, ◌-◌, ◌≤◌, ◌<◌, length, get_or, set, ℤ, pos, ◌+ℤ◌, refl}
use Rattle.std.specs.Int.{w64}
use Rattle.std.proofs.Common.{Fits, SFits}
use lib.Dec.{lit<}
use mir.Facts.{Fits-below}
use Rattle.arith.specs.Size.{Bound, bound-fits}

-- ---- what a cell holds: the integer that it stands for, and how two of them are added

-- what a cell may hold before a row is added, and what is added to it at the most: four such sums fit 64 bits
abbrev pub most_held : ℕ
most_held = 9000000000000000000

abbrev pub most_added : ℕ
most_added = 50000000000000000

-- what a cell may hold after a row is added
abbrev pub most_sum : ℕ
most_sum = most_held + most_added + most_added + most_added

pub record CellLaws {A : Type 0} (zero : A) (sum : A → A → A) (fits : A → A → Type 0) (value : A → ℤ) : Type 0 where
  pub of-zero : value zero ≡ pos 0
  pub of-sum : (x y : A) → value (sum x y) ≡ value x +ℤ value y
  pub of-fits : (x y : A) → Bound (value x +ℤ value y) most_sum → fits x y

pub momentum_laws : CellLaws (pos 0) ◌+ℤ◌ (λ x y. SFits w64 (x +ℤ y)) (λ z. z)
momentum_laws = record { of-zero = refl; of-sum = λ x y. refl; of-fits = λ x y b. bound-fits b (lit< tt) }

pub mass_laws : CellLaws 0 ◌+◌ (λ x y. Fits w64 (x + y)) pos
mass_laws = record { of-zero = refl; of-sum = λ x y. refl; of-fits = λ x y b. Fits-below tt b.size }

-- ---- adding

-- v added at place k
unfoldable pub sum_at : {A : Type 0} → A → (A → A → A) → List A → ℕ → A → List A
sum_at zero sum l k v = set l k (sum (get_or l k zero) v)

-- u, v and w added at place k and its two neighbours
unfoldable pub sum_row : {A : Type 0} → A → (A → A → A) → List A → ℕ → A → A → A → List A
sum_row zero sum l k u v w = sum_at zero sum (sum_at zero sum (sum_at zero sum l (k - 1) u) k v) (k + 1) w

-- of momenta
abbrev pub add_at : List ℤ → ℕ → ℤ → List ℤ
add_at = sum_at (pos 0) ◌+ℤ◌

abbrev pub add_row : List ℤ → ℕ → ℤ → ℤ → ℤ → List ℤ
add_row = sum_row (pos 0) ◌+ℤ◌

-- of masses
abbrev pub add_mass_row : List ℕ → ℕ → ℕ → ℕ → ℕ → List ℕ
add_mass_row = sum_row 0 ◌+◌

-- ---- bounds

-- no cell is above n in size
pub record Cells (n : ℕ) (l : List ℤ) : Type 0 where
  pub cell : (k : ℕ) → Bound (get_or l k (pos 0)) n

pub record RowLimits {A : Type 0} (value : A → ℤ) (l : List A) (k : ℕ) (u v w : A) : Type 0 where
  pub low : 1 ≤ k
  pub high : k + 1 < length l
  pub cells : Cells most_held (map value l)
  pub u-most : Bound (value u) most_added
  pub v-most : Bound (value v) most_added
  pub w-most : Bound (value w) most_added
