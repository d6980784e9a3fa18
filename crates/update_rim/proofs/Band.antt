-- The band of an edge, as parts of the list of its nodes.
--     no_row, row-turn, all-rows
--                  the band's columns before the first row, of one row more, and after the last
--     two-parts    the band's rows are the first nodes and the last
-- Assumes nothing.
use mathlib.Core.Path.{◌≡◌, refl, sym, ap, ap₂, ◌∙◌, subst}
use mathlib.Core.Bool.{Bool, true, false, ◌&&◌, ◌||◌}
use Prim.Native.Nat.{ℕ, ◌+◌, ◌-◌, ◌*◌, ◌/◌, ◌%◌, ◌≤◌, ◌<◌}
use native.Mathlib.Nat.{zero-add, add-mul, mul_comm, mul-le-mul_right, div-lt_iff_lt-mul, le-div_iff_mul-le}
use native.Mathlib.Omega.{arith}
use lib.Dec.{leb, ltb}
use borrow.Author.Tests.{ltb-true, ltb-false, leb-true, lt-ltb, le-ltb, le-leb, lt-leb}
use Rattle.arith.specs.Indices.{column-below, line-below, index}
use Rattle.apic.specs.Step.{in_band}
use Rattle.update_rim.specs.Internal.{in_part, in_columns, in_rows}

same : (a b : Bool) → (a ≡ true → b ≡ true) → (b ≡ true → a ≡ true) → a ≡ b
same true b f g = sym (f refl)
same false true f g = g refl
same false false f g = refl

and-true : (t : Bool) → t && true ≡ t
and-true true = refl
and-true false = refl

and-false : (t : Bool) → t && false ≡ false
and-false true = refl
and-false false = refl

-- ---- columns

-- node k is at column r of row q; the rows q and j begin at nodes b and c
module _ (nx width j k q r b c : ℕ) (is : k ≡ b + r) (column : r < nx) (narrow : width ≤ nx) where
  -- the band's columns up to row j, and both parts of row j
  abbrev turned : Bool
  turned = ((ltb q j && in_band width nx r) || in_part c width k) || in_part (c + nx - width) width k

  earlier : q < j → b + nx ≤ c → turned ≡ ltb q (j + 1) && in_band width nx r
  earlier h l =
      simp (lt-ltb q j h, lt-ltb q (j + 1) (omega arith), lt-leb c k (omega arith), lt-leb (c + nx - width) k (omega arith)) (or-none (in_band width nx r))
    where
      or-none : (t : Bool) → (t || false) || false ≡ t
      or-none true = refl
      or-none false = refl

  this : q ≡ j → b ≡ c → turned ≡ ltb q (j + 1) && in_band width nx r
  this h l =
      simp (le-ltb q j (omega arith), lt-ltb q (j + 1) (omega arith), le-leb c k (omega arith), lt-ltb k (c + nx - width + width) (omega arith))
      (ap₂ ◌||◌ left right)
    where
      left : ltb k (c + width) ≡ ltb r width
      left = same _ _ (λ e. lt-ltb r width (omega (arith, ltb-true k (c + width) e))) (λ e. lt-ltb k (c + width) (omega (arith, ltb-true r width e)))

      right : leb (c + nx - width) k && true ≡ leb nx (r + width)
      right =
          and-true (leb (c + nx - width) k)
          ∙ same _ _ (λ e. le-leb nx (r + width) (omega (arith, leb-true (c + nx - width) k e))) (λ e. le-leb (c + nx - width) k (omega (arith, leb-true nx (r + width) e)))

  later : j < q → c + nx ≤ b → turned ≡ ltb q (j + 1) && in_band width nx r
  later h l =
      simp (le-ltb q j (omega arith), le-ltb q (j + 1) (omega arith), le-ltb k (c + width) (omega arith), le-ltb k (c + nx - width + width) (omega arith))
      (ap₂ ◌||◌ (and-false (leb c k)) (and-false (leb (c + nx - width) k)))

module _ (nx width j : ℕ) (some : 0 < nx) (narrow : width ≤ nx) where
  pub row-turn : (k : ℕ) → ((ltb (k / nx) j && in_columns width nx k) || in_part (j * nx) width k) || in_part (j * nx + nx - width) width k ≡ ltb (k / nx) (j + 1) && in_columns width nx k
  row-turn k = go (ltb (k / nx) j) (ltb j (k / nx)) refl refl
    where
      is : k ≡ k / nx * nx + k % nx
      is = sym (index nx k)

      next_row : (a b : ℕ) → a < b → a * nx + nx ≤ b * nx
      next_row a b h = omega (arith, mul-le-mul_right nx h)

      go : (a b : Bool) → ltb (k / nx) j ≡ a → ltb j (k / nx) ≡ b → ((ltb (k / nx) j && in_columns width nx k) || in_part (j * nx) width k) || in_part (j * nx + nx - width) width k ≡ ltb (k / nx) (j + 1) && in_columns width nx k
      go true b e f =
          let h = ltb-true (k / nx) j e in
          earlier nx width j k (k / nx) (k % nx) (k / nx * nx) (j * nx) is (column-below nx some k) narrow h (next_row (k / nx) j h)
      go false true e f =
          let h = ltb-true j (k / nx) f in
          later nx width j k (k / nx) (k % nx) (k / nx * nx) (j * nx) is (column-below nx some k) narrow h (next_row j (k / nx) h)
      go false false e f =
          let h = equal (k / nx) j (ltb-false (k / nx) j e) (ltb-false j (k / nx) f) in
          this nx width j k (k / nx) (k % nx) (k / nx * nx) (j * nx) is (column-below nx some k) narrow h (ap (λ n. n * nx) h)
        where
          equal : (a b : ℕ) → b ≤ a → a ≤ b → a ≡ b
          equal a b h l = omega arith

-- no row yet
pub no_row : (nx width k : ℕ) → ltb (k / nx) 0 && in_columns width nx k ≡ false
no_row nx width k = ap (λ t. t && in_columns width nx k) (le-ltb (k / nx) 0 (omega arith))

pub all-rows : (nx ny width k : ℕ) → 0 < nx → k < nx * ny → ltb (k / nx) ny && in_columns width nx k ≡ in_columns width nx k
all-rows nx ny width k some h = ap (λ t. t && in_columns width nx k) (lt-ltb (k / nx) ny (line-below nx some ny k h))

-- ---- rows

pub two-parts : (nx ny width k : ℕ) → 0 < nx → width ≤ ny → k < nx * ny → in_part 0 (width * nx) k || in_part ((ny - width) * nx) (width * nx) k ≡ in_rows width nx ny k
two-parts nx ny width k some narrow h = ap₂ ◌||◌ low high
  where
    low : in_part 0 (width * nx) k ≡ ltb (k / nx) width
    low =
        ap (λ t. t && ltb k (0 + width * nx)) (le-leb 0 k (omega arith))
        ∙ same _ _
        (λ e. lt-ltb (k / nx) width ((div-lt_iff_lt-mul some).1 (subst (λ n. k < n) (zero-add (width * nx)) (ltb-true k (0 + width * nx) e))))
        (λ e. lt-ltb k (0 + width * nx) (subst (λ n. k < n) (sym (zero-add (width * nx))) ((div-lt_iff_lt-mul some).0 (ltb-true (k / nx) width e))))

    whole : (ny - width) * nx + width * nx ≡ nx * ny
    whole = sym (add-mul (ny - width) width nx) ∙ ap (λ n. n * nx) back ∙ mul_comm ny nx
      where
        back : ny - width + width ≡ ny
        back = omega arith

    high : in_part ((ny - width) * nx) (width * nx) k ≡ leb ny (k / nx + width)
    high =
        ap (λ t. leb ((ny - width) * nx) k && t) (lt-ltb k ((ny - width) * nx + width * nx) (subst (λ n. k < n) (sym whole) h))
        ∙ and-true (leb ((ny - width) * nx) k)
        ∙ same _ _
        (λ e. le-leb ny (k / nx + width) (added (k / nx) ((le-div_iff_mul-le some).1 (leb-true ((ny - width) * nx) k e))))
        (λ e. le-leb ((ny - width) * nx) k ((le-div_iff_mul-le some).0 (taken (k / nx) (leb-true ny (k / nx + width) e))))
      where
        added : (q : ℕ) → ny - width ≤ q → ny ≤ q + width
        added q l = omega arith

        taken : (q : ℕ) → ny ≤ q + width → ny - width ≤ q
        taken q l = omega arith
