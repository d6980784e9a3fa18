-- Finite sums of integers, over a list and over a range; sums of naturals are read as these.
--     Each                              a property of every element of a list
--     from, up_to                        the range i, i + 1, .. of n numbers; 0, .., n − 1
--     sum_over, total_over                Σ of integers, and of naturals, over a list
--     sum-cong, sum-cong-each           congruence
--     sum-zero, sum-add, sum-sub, sum-neg, sum-scale, sum-scale-right
--     sum-append, sum-map, total-map, sum-exchange
--     from-append, each_from            a range falls into two; a property of each number of a range
--     sum-three                         what is zero but at three neighbours of a range
--     total-pos, total-same             a sum of naturals as a sum of integers; what two lists agree on has one sum
--     sum_mono, sum_nonneg, sum-within  the order of sums, and the size of a sum against the sum of sizes
-- Assumes nothing.
use Rattle.std.specs.Prelude.{◌≡◌, refl, List, [], ◌∷◌, ◌++◌, map, ℕ, zero, suc, ◌+◌, ◌-◌, ◌<◌, ◌≤◌, length, ℤ, pos, neg_ℤ, ◌+ℤ◌, ◌-ℤ◌, ◌*ℤ◌, ◌≤ℤ◌}
use Rattle.std.proofs.Common.{sym, ap, ap₂, ◌∙◌, add-suc, suc-add, add-zero, zero-add, arith}
use Rattle.std.proofs.Math.IntN.{+ℤ_assoc, +ℤ_idl, +ℤ_idr, *ℤ-zero, *ℤ_comm, neg_ℤ-+ℤ}
use Rattle.std.specs.Int.Signed.{≤ℤ_refl}
use Rattle.arith.specs.Ring.{*ℤ-+ℤ, sum-ac}
use Rattle.arith.specs.Order.{+ℤ-mono, Within, within-sum, within-zero}

abbrev pub Each : {A : Type 0} → (A → Type 0) → List A → Type 0
Each P [] = Unit {0}
Each P (x ∷ xs) = P x × Each P xs

abbrev pub from : ℕ → ℕ → List ℕ
from i zero = []
from i (suc n) = i ∷ from (suc i) n

abbrev pub up_to : ℕ → List ℕ
up_to n = from 0 n

abbrev pub sum_over : {A : Type 0} → List A → (A → ℤ) → ℤ
sum_over [] f = pos 0
sum_over (x ∷ xs) f = f x +ℤ sum_over xs f

abbrev pub total_over : {A : Type 0} → List A → (A → ℕ) → ℕ
total_over [] f = 0
total_over (x ∷ xs) f = f x + total_over xs f

-- ---- laws over any list

module _ {A : Type 0} where
  pub sum-cong-each : (P : A → Type 0) (f g : A → ℤ) → ((x : A) → P x → f x ≡ g x) → (xs : List A) → Each P xs → sum_over xs f ≡ sum_over xs g
  sum-cong-each P f g h [] e = refl
  sum-cong-each P f g h (x ∷ xs) e = ap₂ ◌+ℤ◌ (h x e.0) (sum-cong-each P f g h xs e.1)

  pub sum-cong : (f g : A → ℤ) → ((x : A) → f x ≡ g x) → (xs : List A) → sum_over xs f ≡ sum_over xs g
  sum-cong f g h [] = refl
  sum-cong f g h (x ∷ xs) = ap₂ ◌+ℤ◌ (h x) (sum-cong f g h xs)

  pub sum-zero : (f : A → ℤ) (xs : List A) → Each (λ x. f x ≡ pos 0) xs → sum_over xs f ≡ pos 0
  sum-zero f [] e = refl
  sum-zero f (x ∷ xs) e = ap₂ ◌+ℤ◌ e.0 (sum-zero f xs e.1)

  pub sum-add : (f g : A → ℤ) (xs : List A) → sum_over xs (λ x. f x +ℤ g x) ≡ sum_over xs f +ℤ sum_over xs g
  sum-add f g [] = refl
  sum-add f g (x ∷ xs) =
      ap (λ s. f x +ℤ g x +ℤ s) (sum-add f g xs) ∙ cross (f x) (g x) (sum_over xs f) (sum_over xs g)
    where
      cross : (a b c d : ℤ) → a +ℤ b +ℤ (c +ℤ d) ≡ a +ℤ c +ℤ (b +ℤ d)
      cross a b c d = simp sum-ac

  pub sum-neg : (f : A → ℤ) (xs : List A) → sum_over xs (λ x. neg_ℤ (f x)) ≡ neg_ℤ (sum_over xs f)
  sum-neg f [] = refl
  sum-neg f (x ∷ xs) = ap (λ s. neg_ℤ (f x) +ℤ s) (sum-neg f xs) ∙ sym (neg_ℤ-+ℤ (f x) (sum_over xs f))

  pub sum-sub : (f g : A → ℤ) (xs : List A) → sum_over xs (λ x. f x -ℤ g x) ≡ sum_over xs f -ℤ sum_over xs g
  sum-sub f g xs = sum-add f (λ x. neg_ℤ (g x)) xs ∙ ap (λ s. sum_over xs f +ℤ s) (sum-neg g xs)

  pub sum-scale : (k : ℤ) (f : A → ℤ) (xs : List A) → sum_over xs (λ x. k *ℤ f x) ≡ k *ℤ sum_over xs f
  sum-scale k f [] = sym (*ℤ-zero k)
  sum-scale k f (x ∷ xs) = ap (λ s. k *ℤ f x +ℤ s) (sum-scale k f xs) ∙ sym (*ℤ-+ℤ k (f x) (sum_over xs f))

  pub sum-scale-right : (k : ℤ) (f : A → ℤ) (xs : List A) → sum_over xs (λ x. f x *ℤ k) ≡ sum_over xs f *ℤ k
  sum-scale-right k f xs = sum-cong (λ x. f x *ℤ k) (λ x. k *ℤ f x) (λ x. *ℤ_comm (f x) k) xs ∙ sum-scale k f xs ∙ *ℤ_comm k (sum_over xs f)

  pub sum-append : (f : A → ℤ) (xs ys : List A) → sum_over (xs ++ ys) f ≡ sum_over xs f +ℤ sum_over ys f
  sum-append f [] ys = sym (+ℤ_idl (sum_over ys f))
  sum-append f (x ∷ xs) ys = ap (λ s. f x +ℤ s) (sum-append f xs ys) ∙ sym (+ℤ_assoc (f x) (sum_over xs f) (sum_over ys f))

  pub total-pos : (f : A → ℕ) (xs : List A) → pos (total_over xs f) ≡ sum_over xs (λ x. pos (f x))
  total-pos f [] = refl
  total-pos f (x ∷ xs) = ap (λ s. pos (f x) +ℤ s) (total-pos f xs)

  pub each_map : (P Q : A → Type 0) → ((x : A) → P x → Q x) → (xs : List A) → Each P xs → Each Q xs
  each_map P Q h [] e = tt
  each_map P Q h (x ∷ xs) e = (h x e.0, each_map P Q h xs e.1)

  pub each_all : (P : A → Type 0) → ((x : A) → P x) → (xs : List A) → Each P xs
  each_all P h [] = tt
  each_all P h (x ∷ xs) = (h x, each_all P h xs)

-- ---- order and size

module _ {A : Type 0} where
  pub sum_mono : (f g : A → ℤ) (xs : List A) → Each (λ x. f x ≤ℤ g x) xs → sum_over xs f ≤ℤ sum_over xs g
  sum_mono f g [] e = ≤ℤ_refl (pos 0)
  sum_mono f g (x ∷ xs) e = +ℤ-mono e.0 (sum_mono f g xs e.1)

  pub sum_nonneg : (f : A → ℤ) (xs : List A) → Each (λ x. pos 0 ≤ℤ f x) xs → pos 0 ≤ℤ sum_over xs f
  sum_nonneg f [] e = ≤ℤ_refl (pos 0)
  sum_nonneg f (x ∷ xs) e = +ℤ-mono e.0 (sum_nonneg f xs e.1)

  pub sum-within : (k f : A → ℤ) (xs : List A) → Each (λ x. Within (k x) (f x)) xs → Within (sum_over xs k) (sum_over xs f)
  sum-within k f [] e = within-zero (≤ℤ_refl (pos 0))
  sum-within k f (x ∷ xs) e = within-sum e.0 (sum-within k f xs e.1)

-- ---- two lists

pub sum-map : {A B : Type 0} (h : A → B) (f : B → ℤ) (xs : List A) → sum_over (map h xs) f ≡ sum_over xs (λ x. f (h x))
sum-map h f [] = refl
sum-map h f (x ∷ xs) = ap (λ s. f (h x) +ℤ s) (sum-map h f xs)

pub total-map : {A B : Type 0} (h : A → B) (f : B → ℕ) (xs : List A) → total_over (map h xs) f ≡ total_over xs (λ x. f (h x))
total-map h f [] = refl
total-map h f (x ∷ xs) = ap (λ s. f (h x) + s) (total-map h f xs)

-- what two lists agree on has one sum
pub total-same : {A B : Type 0} (h : A → B) (f : B → ℕ) (xs ys : List A) → map h xs ≡ map h ys → total_over xs (λ x. f (h x)) ≡ total_over ys (λ x. f (h x))
total-same h f xs ys e = sym (total-map h f xs) ∙ ap (λ l. total_over l f) e ∙ total-map h f ys

pub sum-exchange : {A B : Type 0} (f : A → B → ℤ) (xs : List A) (ys : List B) → sum_over xs (λ x. sum_over ys (λ y. f x y)) ≡ sum_over ys (λ y. sum_over xs (λ x. f x y))
sum-exchange f [] ys = sym (sum-zero (λ y. pos 0) ys (each_all (λ y. pos 0 ≡ pos 0) (λ y. refl) ys))
sum-exchange f (x ∷ xs) ys =
    ap (λ s. sum_over ys (λ y. f x y) +ℤ s) (sum-exchange f xs ys)
    ∙ sym (sum-add (λ y. f x y) (λ y. sum_over xs (λ z. f z y)) ys)

-- ---- ranges

pub length_from : (i n : ℕ) → length (from i n) ≡ n
length_from i zero = refl
length_from i (suc n) = ap suc (length_from (suc i) n)

pub from-append : (i m n : ℕ) → from i (m + n) ≡ from i m ++ from (i + m) n
from-append i zero n = rw (zero-add n, add-zero i)
from-append i (suc m) n = rw (suc-add m n) (ap (λ t. i ∷ t) (from-append (suc i) m n ∙ rw (suc-add i m, add-suc i m)))

pub each_from : (P : ℕ → Type 0) (i n : ℕ) → ((k : ℕ) → i ≤ k → k < i + n → P k) → Each P (from i n)
each_from P i zero h = tt
each_from P i (suc n) h =
    (h i (omega arith) (omega arith), each_from P (suc i) n (λ k low high. h k (omega arith) (omega arith)))

pub each-up_to : (P : ℕ → Type 0) (n : ℕ) → ((k : ℕ) → k < n → P k) → Each P (up_to n)
each-up_to P n h = each_from P 0 n (λ k low high. h k (omega arith))

-- c is the middle of the three
pub sum-three : (f : ℕ → ℤ) (c n : ℕ) → 1 ≤ c → c + 1 < n → ((k : ℕ) → k + 1 < c → f k ≡ pos 0) → ((k : ℕ) → c + 1 < k → f k ≡ pos 0) → sum_over (up_to n) f ≡ f (c - 1) +ℤ f c +ℤ f (c + 1)
sum-three f c n low high below above =
    ap (λ m. sum_over (up_to m) f) count
    ∙ ap (λ l. sum_over l f) (from-append 0 (c - 1) (3 + (n - (c + 2))))
    ∙ sum-append f (up_to (c - 1)) (from (0 + (c - 1)) (3 + (n - (c + 2))))
    ∙ ap₂ ◌+ℤ◌ first-zero (ap (λ l. sum_over l f) (from-append (0 + (c - 1)) 3 (n - (c + 2))))
    ∙ +ℤ_idl (sum_over (from (0 + (c - 1)) 3 ++ from (0 + (c - 1) + 3) (n - (c + 2))) f)
    ∙ sum-append f (from (0 + (c - 1)) 3) (from (0 + (c - 1) + 3) (n - (c + 2)))
    ∙ ap₂ ◌+ℤ◌ middle last-zero
    ∙ +ℤ_idr (f (c - 1) +ℤ f c +ℤ f (c + 1))
  where
    count : n ≡ c - 1 + (3 + (n - (c + 2)))
    count = omega arith

    first-zero : sum_over (up_to (c - 1)) f ≡ pos 0
    first-zero = sum-zero f (up_to (c - 1)) (each-up_to (λ k. f k ≡ pos 0) (c - 1) (λ k h. below k (omega arith)))

    last-zero : sum_over (from (0 + (c - 1) + 3) (n - (c + 2))) f ≡ pos 0
    last-zero = sum-zero f (from (0 + (c - 1) + 3) (n - (c + 2))) (each_from (λ k. f k ≡ pos 0) (0 + (c - 1) + 3) (n - (c + 2)) (λ k h g. above k (omega arith)))

    at_least : 0 + (c - 1) ≡ c - 1
    at_least = omega arith

    at-middle : suc (0 + (c - 1)) ≡ c
    at-middle = omega arith

    at_most : suc (suc (0 + (c - 1))) ≡ c + 1
    at_most = omega arith

    regroup : (u v w : ℤ) → u +ℤ (v +ℤ (w +ℤ pos 0)) ≡ u +ℤ v +ℤ w
    regroup u v w = ap (λ s. u +ℤ (v +ℤ s)) (+ℤ_idr w) ∙ sym (+ℤ_assoc u v w)

    middle : sum_over (from (0 + (c - 1)) 3) f ≡ f (c - 1) +ℤ f c +ℤ f (c + 1)
    middle =
        regroup (f (0 + (c - 1))) (f (suc (0 + (c - 1)))) (f (suc (suc (0 + (c - 1)))))
        ∙ ap₂ ◌+ℤ◌ (ap₂ ◌+ℤ◌ (ap f at_least) (ap f at-middle)) (ap f at_most)
