-- The table of weights: what rows that pass the test of specs/Test.antt, which has the offsets from 0 to 32, give at all 64.
--     RowFacts       at offset q: the weights are natural numbers, total 8192, and have moments 0 and 8192·D
--     RowPassed      a row that passes holds the formulas' values, and its offset has these facts
--     mirror-passed  mirrored, it does so at −q
--     row_from        row k of the 64, from the 33
--     both-signs     each of the 64 passes where the 33 do
--     passed-table   so they are the table of the formulas' values
--     row-facts      and the facts hold at each offset, since the formulas' values at 0 to 32 pass; that the constant's numbers
--                    do is the contract of `tested_rows`
--     table-row      what stands at row k
--     spline-kernel  the table with the spline's D is a kernel
-- Assumes nothing.
use mathlib.Core.Path.{◌≡◌, refl, sym, ap, subst, ◌∙◌}
use mathlib.Core.Bool.{Bool, true, false, cond}
use mathlib.Core.List.{List, [], ◌∷◌, map}
use Prim.Native.Nat.{ℕ, zero, suc, ◌+◌, ◌-◌, ◌<◌, ◌≤◌}
use native.Mathlib.Nat.{zero-add, add-suc, suc-add, add-zero, le_of_suc-le-suc, not-suc-le-zero}
use native.Mathlib.Omega.{arith}
use lib.Dec.{T, eqb, ltb, eqb→eq, lit≤}
use lib.ListN.{length, get_or}
use lib.Seq.{ext_get_or}
use lib.IntN.{ℤ, pos, negsuc, nat_abs, neg_ℤ, ◌+ℤ◌, ◌-ℤ◌, ◌*ℤ◌}
use mir.Facts.{and_yes}
use borrow.Author.Tests.{ltb-true, ltb-false}
use Rattle.arith.specs.Solver.{ring, quote}
use Rattle.arith.specs.Order.{linear, reading, nothing}
use Rattle.arith.specs.Lists.{get_or-tabulated}
use Rattle.arith.specs.Sums.{up_to}
use Rattle.spline.specs.Spline.{D, lower_weight, nearest_weight, upper_weight}
use Rattle.spline.specs.Answers.{table, table_row, mirror, row_of}
use Rattle.spline.specs.Kernel.{RowMoments, Spread, Kernel}
use Rattle.spline.specs.Test.{sameℤ, all_same, row_moment, claims, row_passes, passes_from, passes}

-- ---- one row

same-is : (a b : ℤ) → T (sameℤ a b) → a ≡ b
same-is (pos a) (pos b) t = ap pos (eqb→eq a b t)
same-is (pos a) (negsuc b) t = absurd t
same-is (negsuc a) (pos b) t = absurd t
same-is (negsuc a) (negsuc b) t = ap negsuc (eqb→eq a b t)

abbrev Hold : List (ℤ × ℤ) → Type 0
Hold [] = Unit {0}
Hold (c ∷ cs) = (c.0 ≡ c.1) × Hold cs

all_hold : (cs : List (ℤ × ℤ)) → T (all_same cs) → Hold cs
all_hold [] t = tt
all_hold (c ∷ cs) t =
    let both = and_yes (sameℤ c.0 c.1) (all_same cs) t in
    (same-is c.0 c.1 both.0, all_hold cs both.1)

-- the sum of the formulas' weights at offset q, each times f of its node minus the particle
abbrev pub moment : ℤ → (ℤ → ℤ) → ℤ
moment q f = row_moment q (lower_weight q) (nearest_weight q) (upper_weight q) f

pub record RowFacts (q : ℤ) : Type 0 where
  pub lower : pos (nat_abs (lower_weight q)) ≡ lower_weight q
  pub nearest : pos (nat_abs (nearest_weight q)) ≡ nearest_weight q
  pub upper : pos (nat_abs (upper_weight q)) ≡ upper_weight q
  pub total : lower_weight q +ℤ nearest_weight q +ℤ upper_weight q ≡ pos 8192
  pub first : moment q (λ d. d) ≡ pos 0
  pub second : moment q (λ d. d *ℤ d) ≡ pos 8192 *ℤ pos D

pub record RowPassed (q : ℤ) (row : List ℕ) : Type 0 where
  pub is : row ≡ table_row q
  pub facts : RowFacts q

-- a natural number that is z
natural : (n : ℕ) (z : ℤ) → pos n ≡ z → pos (nat_abs z) ≡ z
natural n z e = subst (λ z. pos (nat_abs z) ≡ z) e refl

three-numbers : (q : ℤ) (l n u : ℕ) → T (all_same (claims q (pos l) (pos n) (pos u))) → RowPassed q (l ∷ n ∷ u ∷ [])
three-numbers q l n u t =
    let formulas = all_hold (claims q (pos l) (pos n) (pos u)) t in
    let lower = formulas.0 in
    let nearest = formulas.1.0 in
    let upper = formulas.1.1.0 in
    let sums = formulas.1.1.1 in
    let total = sums.0 in
    let first = sums.1.0 in
    let second = sums.1.1.0 in
    record {
      is = λ i. nat_abs (lower i) ∷ nat_abs (nearest i) ∷ nat_abs (upper i) ∷ [];
      facts =
          record {
            lower = natural l (lower_weight q) lower;
            nearest = natural n (nearest_weight q) nearest;
            upper = natural u (upper_weight q) upper;
            total = sym (λ i. lower i +ℤ nearest i +ℤ upper i) ∙ total;
            first = sym (λ i. row_moment q (lower i) (nearest i) (upper i) (λ d. d)) ∙ first;
            second = sym (λ i. row_moment q (lower i) (nearest i) (upper i) (λ d. d *ℤ d)) ∙ second;
          };
    }

row-passed : (q : ℤ) (row : List ℕ) → T (row_passes q row) → RowPassed q row
row-passed q row t =
    let both = and_yes (eqb (length row) 3) (all_same (claims q (pos (get_or row 0 0)) (pos (get_or row 1 0)) (pos (get_or row 2 0)))) t in
    subst (RowPassed q) (three-of row (eqb→eq (length row) 3 both.0)) (three-numbers q (get_or row 0 0) (get_or row 1 0) (get_or row 2 0) both.1)
  where
    three-of : (l : List ℕ) → length l ≡ 3 → get_or l 0 0 ∷ get_or l 1 0 ∷ get_or l 2 0 ∷ [] ≡ l
    three-of [] e = absurd (omega arith)
    three-of (a ∷ []) e = absurd (omega arith)
    three-of (a ∷ b ∷ []) e = absurd (omega arith)
    three-of (a ∷ b ∷ c ∷ []) e = refl
    three-of (a ∷ b ∷ c ∷ d ∷ l) e = absurd (omega arith)

-- ---- the other sign

-- the first moment changes its sign, the second does not
mirror-passed : (q : ℤ) (row : List ℕ) → RowPassed q row → RowPassed (neg_ℤ q) (mirror row)
mirror-passed q row p =
    record {
      is = ap mirror p.is ∙ (λ i. nat_abs (lower i) ∷ nat_abs (nearest i) ∷ nat_abs (upper i) ∷ []);
      facts =
          record {
            lower = subst (λ z. pos (nat_abs z) ≡ z) lower f.upper;
            nearest = subst (λ z. pos (nat_abs z) ≡ z) nearest f.nearest;
            upper = subst (λ z. pos (nat_abs z) ≡ z) upper f.lower;
            total = ring (q ∷ []) (search quote depth 30) (search quote depth 30) tt ∙ f.total;
            first = odd ∙ ap neg_ℤ f.first;
            second = ring (q ∷ []) (search quote depth 30) (search quote depth 30) tt ∙ f.second;
          };
    }
  where
    f : RowFacts q
    f = p.facts

    lower : upper_weight q ≡ lower_weight (neg_ℤ q)
    lower = ring (q ∷ []) (search quote depth 30) (search quote depth 30) tt

    nearest : nearest_weight q ≡ nearest_weight (neg_ℤ q)
    nearest = ring (q ∷ []) (search quote depth 30) (search quote depth 30) tt

    upper : lower_weight q ≡ upper_weight (neg_ℤ q)
    upper = ring (q ∷ []) (search quote depth 30) (search quote depth 30) tt

    odd : moment (neg_ℤ q) (λ d. d) ≡ neg_ℤ (moment q (λ d. d))
    odd = ring (q ∷ []) (search quote depth 30) (search quote depth 30) tt

-- ---- all rows

-- row k of the 64, from those of offsets 0 to 32
abbrev pub row_from : List (List ℕ) → ℕ → List ℕ
row_from rows k = cond (ltb k 32) (mirror (get_or rows (32 - k) [])) (get_or rows (k - 32) [])

-- rows from row i on
passed-from : (rows : List (List ℕ)) (i k : ℕ) → T (passes_from i rows) → k < length rows → RowPassed (pos (i + k)) (get_or rows k [])
passed-from [] i k t h = absurd (not-suc-le-zero h)
passed-from (row ∷ rows) i zero t h =
    let both = and_yes (row_passes (pos i) row) (passes_from (suc i) rows) t in
    subst (λ m. RowPassed (pos m) row) (sym (add-zero i)) (row-passed (pos i) row both.0)
passed-from (row ∷ rows) i (suc k) t h =
    let both = and_yes (row_passes (pos i) row) (passes_from (suc i) rows) t in
    subst (λ m. RowPassed (pos m) (get_or rows k [])) (suc-add i k ∙ sym (add-suc i k)) (passed-from rows (suc i) k both.1 (le_of_suc-le-suc h))

abbrev offset_of : ℕ → ℤ
offset_of k = pos k -ℤ pos 32

pub table-row : (k : ℕ) → k < 64 → get_or table k [] ≡ table_row (offset_of k)
table-row k h = get_or-tabulated (λ m. table_row (offset_of m)) 64 k [] h

module _ (rows : List (List ℕ)) (t : T (passes rows)) where
  both : T (eqb (length rows) 33) × T (passes_from 0 rows)
  both = and_yes (eqb (length rows) 33) (passes_from 0 rows) t

  passed : (q : ℕ) → q < 33 → RowPassed (pos q) (get_or rows q [])
  passed q h = subst (λ m. RowPassed (pos m) (get_or rows q [])) (zero-add q) (passed-from rows 0 q both.1 (subst (λ n. q < n) (sym (eqb→eq (length rows) 33 both.0)) h))

  both-signs : (k : ℕ) → k < 64 → RowPassed (offset_of k) (row_from rows k)
  both-signs k h = go (ltb k 32) refl
    where
      go : (b : Bool) → ltb k 32 ≡ b → RowPassed (offset_of k) (cond b (mirror (get_or rows (32 - k) [])) (get_or rows (k - 32) []))
      go true e =
          let low : k < 32 = ltb-true k 32 e in
          subst (λ q. RowPassed q (mirror (get_or rows (32 - k) []))) (linear [] nothing (search reading depth 30) (omega arith)) (mirror-passed (pos (32 - k)) (get_or rows (32 - k) []) (passed (32 - k) (omega arith)))
      go false e =
          let high : 32 ≤ k = ltb-false k 32 e in
          subst (λ q. RowPassed q (get_or rows (k - 32) [])) (linear [] nothing (search reading depth 30) (omega arith)) (passed (k - 32) (omega arith))

  pub passed-table : (made : List (List ℕ)) → length made ≡ 64 → ((k : ℕ) → k < 64 → get_or made k [] ≡ row_from rows k) → made ≡ table
  passed-table made long is =
      ext_get_or [] made table long (λ k h. let below = subst (λ n. k < n) long h in is k below ∙ (both-signs k below).is ∙ sym (table-row k below))

-- ---- the table

pub row-facts : (k : ℕ) → k < 64 → RowFacts (offset_of k)
row-facts k h = (both-signs (map (λ q. table_row (pos q)) (up_to 33)) tt k h).facts

-- ---- as a kernel

row-moments : (q : ℤ) → RowFacts q → RowMoments D q (row_of (table_row q))
row-moments q f =
    record {
      total = ap nat_abs ((λ i. f.lower i +ℤ f.nearest i +ℤ f.upper i) ∙ f.total);
      first = (λ i. row_moment q (f.lower i) (f.nearest i) (f.upper i) (λ d. d)) ∙ f.first;
      second = (λ i. row_moment q (f.lower i) (f.nearest i) (f.upper i) (λ d. d *ℤ d)) ∙ f.second;
    }

pub spline-spread : Spread D
spline-spread = record { least = lit≤ tt; most = lit≤ tt; whole = refl }

pub spline-kernel : Kernel table D
spline-kernel =
    record {
      rows = refl;
      numbers = λ k h. ap length (table-row k h);
      moments = λ k h. subst (λ row. RowMoments D (offset_of k) (row_of row)) (sym (table-row k h)) (row-moments (offset_of k) (row-facts k h));
      spread = spline-spread;
    }
