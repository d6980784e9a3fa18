-- Sums over all nodes of a grid, by the laws of sums over a range.
--     armed                                           Σ k·f
--     sum-three-scaled                                Σ (a·f + b·g + c·h) over a list
--     nodes-cong, nodes-add, nodes-sub, nodes-scale   as for a range; of the terms only those of the grid count
--     nodes-three-scaled                              Σ (a·f + b·g + c·h) over nodes
--     nodes-exchange                                  a sum over nodes of sums over a list
--     nodes-zero                                      a sum of zeros
--     nodes-within                                    the size of a sum against the sum of sizes
--     node-most                                       a term of a sum of terms that are not negative is at most the sum
-- Assumes nothing.
use mathlib.Core.Path.{◌≡◌, sym, ap₂, ◌∙◌, subst}
use mathlib.Core.List.{List, [], ◌∷◌}
use Prim.Native.Nat.{ℕ, zero, suc, ◌+◌, ◌<◌}
use native.Mathlib.Nat.{zero-add, add-zero, add-suc, suc-add, le_of_suc-le-suc, not-suc-le-zero}
use native.Mathlib.Omega.{arith}
use lib.IntN.{ℤ, pos, ◌+ℤ◌, ◌-ℤ◌, ◌*ℤ◌}
use lib.Signed.{◌≤ℤ◌}
use Rattle.arith.specs.Order.{Within, linear, reading, ◌&◌, ≤ℤ-trans}
use Rattle.arith.specs.Sums.{Each, from, up_to, sum_over, sum-cong, sum-cong-each, sum-add, sum-sub, sum-scale, sum-exchange, sum-zero, sum-within, sum_nonneg, each-up_to, each_all}
use Rattle.apic.specs.Step.{over_nodes}

-- with an arm k at each node
abbrev pub armed : ℕ → ℕ → (ℕ → ℕ → ℤ) → (ℕ → ℕ → ℤ) → ℤ
armed nx ny k f = over_nodes nx ny (λ i j. k i j *ℤ f i j)

within-range : (n : ℕ) → Each (λ k. k < n) (up_to n)
within-range n = each-up_to (λ k. k < n) n (λ k h. h)

pub sum-three-scaled : {A : Type 0} (a b c : ℤ) (f g h : A → ℤ) (xs : List A) → sum_over xs (λ x. a *ℤ f x +ℤ b *ℤ g x +ℤ c *ℤ h x) ≡ a *ℤ sum_over xs f +ℤ b *ℤ sum_over xs g +ℤ c *ℤ sum_over xs h
sum-three-scaled a b c f g h xs =
    sum-add (λ x. a *ℤ f x +ℤ b *ℤ g x) (λ x. c *ℤ h x) xs
    ∙ ap₂ ◌+ℤ◌
    (sum-add (λ x. a *ℤ f x) (λ x. b *ℤ g x) xs ∙ ap₂ ◌+ℤ◌ (sum-scale a f xs) (sum-scale b g xs))
    (sum-scale c h xs)

module _ (nx ny : ℕ) where
  pub nodes-cong : (f g : ℕ → ℕ → ℤ) → ((i j : ℕ) → i < nx → j < ny → f i j ≡ g i j) → over_nodes nx ny f ≡ over_nodes nx ny g
  nodes-cong f g h =
      sum-cong-each (λ j. j < ny) (λ j. sum_over (up_to nx) (λ i. f i j)) (λ j. sum_over (up_to nx) (λ i. g i j))
      (λ j in-y. sum-cong-each (λ i. i < nx) (λ i. f i j) (λ i. g i j) (λ i in-x. h i j in-x in-y) (up_to nx) (within-range nx))
      (up_to ny) (within-range ny)

  pub nodes-add : (f g : ℕ → ℕ → ℤ) → over_nodes nx ny (λ i j. f i j +ℤ g i j) ≡ over_nodes nx ny f +ℤ over_nodes nx ny g
  nodes-add f g =
      sum-cong _ _ (λ j. sum-add (λ i. f i j) (λ i. g i j) (up_to nx)) (up_to ny)
      ∙ sum-add (λ j. sum_over (up_to nx) (λ i. f i j)) (λ j. sum_over (up_to nx) (λ i. g i j)) (up_to ny)

  pub nodes-sub : (f g : ℕ → ℕ → ℤ) → over_nodes nx ny (λ i j. f i j -ℤ g i j) ≡ over_nodes nx ny f -ℤ over_nodes nx ny g
  nodes-sub f g =
      sum-cong _ _ (λ j. sum-sub (λ i. f i j) (λ i. g i j) (up_to nx)) (up_to ny)
      ∙ sum-sub (λ j. sum_over (up_to nx) (λ i. f i j)) (λ j. sum_over (up_to nx) (λ i. g i j)) (up_to ny)

  pub nodes-scale : (k : ℤ) (f : ℕ → ℕ → ℤ) → over_nodes nx ny (λ i j. k *ℤ f i j) ≡ k *ℤ over_nodes nx ny f
  nodes-scale k f =
      sum-cong _ _ (λ j. sum-scale k (λ i. f i j) (up_to nx)) (up_to ny)
      ∙ sum-scale k (λ j. sum_over (up_to nx) (λ i. f i j)) (up_to ny)

  pub nodes-three-scaled : (a b c : ℤ) (f g h : ℕ → ℕ → ℤ) → over_nodes nx ny (λ i j. a *ℤ f i j +ℤ b *ℤ g i j +ℤ c *ℤ h i j) ≡ a *ℤ over_nodes nx ny f +ℤ b *ℤ over_nodes nx ny g +ℤ c *ℤ over_nodes nx ny h
  nodes-three-scaled a b c f g h =
      sum-cong _ _ (λ j. sum-three-scaled a b c (λ i. f i j) (λ i. g i j) (λ i. h i j) (up_to nx)) (up_to ny)
      ∙ sum-three-scaled a b c (λ j. sum_over (up_to nx) (λ i. f i j)) (λ j. sum_over (up_to nx) (λ i. g i j)) (λ j. sum_over (up_to nx) (λ i. h i j)) (up_to ny)

  pub nodes-exchange : {A : Type 0} (f : A → ℕ → ℕ → ℤ) (xs : List A) → over_nodes nx ny (λ i j. sum_over xs (λ x. f x i j)) ≡ sum_over xs (λ x. over_nodes nx ny (f x))
  nodes-exchange f xs =
      sum-cong _ _ (λ j. sum-exchange (λ i x. f x i j) (up_to nx) xs) (up_to ny)
      ∙ sum-exchange (λ j x. sum_over (up_to nx) (λ i. f x i j)) (up_to ny) xs

  pub nodes-within : (k f : ℕ → ℕ → ℤ) → ((i j : ℕ) → i < nx → j < ny → Within (k i j) (f i j)) → Within (over_nodes nx ny k) (over_nodes nx ny f)
  nodes-within k f h =
      sum-within (λ j. sum_over (up_to nx) (λ i. k i j)) (λ j. sum_over (up_to nx) (λ i. f i j)) (up_to ny)
      (each-up_to _ ny (λ j in-y. sum-within (λ i. k i j) (λ i. f i j) (up_to nx) (each-up_to _ nx (λ i in-x. h i j in-x in-y))))

  pub nodes-zero : (f : ℕ → ℕ → ℤ) → ((i j : ℕ) → f i j ≡ pos 0) → over_nodes nx ny f ≡ pos 0
  nodes-zero f h =
      sum-zero (λ j. sum_over (up_to nx) (λ i. f i j)) (up_to ny)
      (each_all (λ j. sum_over (up_to nx) (λ i. f i j) ≡ pos 0) (λ j. sum-zero (λ i. f i j) (up_to nx) (each_all (λ i. f i j ≡ pos 0) (λ i. h i j) (up_to nx))) (up_to ny))

-- ---- one term

add_most : {a b c : ℤ} → pos 0 ≤ℤ a → b ≤ℤ c → b ≤ℤ (a +ℤ c)
add_most {a} {b} {c} h k = linear (a ∷ b ∷ c ∷ []) (h & k) (search reading depth 30) (omega arith)

first-most : {a b : ℤ} → pos 0 ≤ℤ b → a ≤ℤ (a +ℤ b)
first-most {a} {b} h = linear (a ∷ b ∷ []) h (search reading depth 30) (omega arith)

term-most : (f : ℕ → ℤ) → ((k : ℕ) → pos 0 ≤ℤ f k) → (i n k : ℕ) → k < n → f (i + k) ≤ℤ sum_over (from i n) f
term-most f h i zero k l = absurd (not-suc-le-zero l)
term-most f h i (suc n) zero l =
    subst (λ m. f m ≤ℤ (f i +ℤ sum_over (from (suc i) n) f)) (sym (add-zero i))
    (first-most (sum_nonneg f (from (suc i) n) (each_all (λ k. pos 0 ≤ℤ f k) h (from (suc i) n))))
term-most f h i (suc n) (suc k) l =
    add_most (h i)
    (subst (λ m. f m ≤ℤ sum_over (from (suc i) n) f) (suc-add i k ∙ sym (add-suc i k)) (term-most f h (suc i) n k (le_of_suc-le-suc l)))

range-most : (f : ℕ → ℤ) → ((k : ℕ) → pos 0 ≤ℤ f k) → (n k : ℕ) → k < n → f k ≤ℤ sum_over (up_to n) f
range-most f h n k l = subst (λ m. f m ≤ℤ sum_over (up_to n) f) (zero-add k) (term-most f h 0 n k l)

pub node-most : (nx ny : ℕ) (f : ℕ → ℕ → ℤ) → ((i j : ℕ) → pos 0 ≤ℤ f i j) → (i j : ℕ) → i < nx → j < ny → f i j ≤ℤ over_nodes nx ny f
node-most nx ny f h i j in-x in-y =
    ≤ℤ-trans (range-most (λ i. f i j) (λ i. h i j) nx i in-x)
    (range-most (λ j. sum_over (up_to nx) (λ i. f i j))
    (λ j. sum_nonneg (λ i. f i j) (up_to nx) (each_all (λ i. pos 0 ≤ℤ f i j) (λ i. h i j) (up_to nx))) ny j in-y)
