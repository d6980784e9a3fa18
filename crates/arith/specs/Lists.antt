-- Laws of lists that several crates use and the library lacks (lib.ListN and lib.Seq have those of single stores, loads and parts).
--     tabulated       length-tabulated, get_or-from, get_or-tabulated    a list of f at 0, .., n − 1
--                     map_each                                       two functions that agree on each element
--                     get_or-mapped, mapped                            a function of each element, by their places
--     elements        each_at, each_of                               a property of each, and at each place
--                     each_append, each-prefix, each_take, each-drop
--     parts           length-take-most, length_part, drop-take       of take and drop
--                     total-prefix, total-take, total-drop           a sum of natural numbers over a part
--     placed          placed                                         a list with a part put at a place
--                     placed-length, placed-take, placed-drop, placed-twice, placed-back
-- Sums over lists and ranges are in Sums; three numbers at neighbouring places in Neighbours. Assumes nothing.
use Rattle.std.specs.Prelude.{◌≡◌, refl, List, [], ◌∷◌, ◌++◌, map, ℕ, zero, suc, ◌+◌, ◌-◌, ◌<◌, ◌≤◌, length, get_or, take, drop}
use Rattle.std.proofs.Common.{sym, ap, ap₂, ◌∙◌, subst, append_assoc, zero-le, suc-le-suc, zero-add, add-zero, add-suc, suc-add, add_assoc, le_refl, le_of_suc-le-suc, not-suc-le-zero, arith, length-append, length-drop, take-add, take_at, drop_at, drop-drop, length-take-le, ext_get_or}
use Rattle.std.proofs.lemmas.List.{length-map}
use Rattle.arith.specs.Sums.{Each, from, up_to, total_over, length_from}

-- ---- tabulated

module _ {A : Type 0} (f : ℕ → A) where
  pub length-tabulated : (n : ℕ) → length (map f (up_to n)) ≡ n
  length-tabulated n = length-map (up_to n) f ∙ length_from 0 n

  pub get_or-from : (i n k : ℕ) (d : A) → k < n → get_or (map f (from i n)) k d ≡ f (i + k)
  get_or-from i zero k d h = absurd (not-suc-le-zero h)
  get_or-from i (suc n) zero d h = ap f (sym (add-zero i))
  get_or-from i (suc n) (suc k) d h = get_or-from (suc i) n k d (le_of_suc-le-suc h) ∙ ap f (suc-add i k ∙ sym (add-suc i k))

  pub get_or-tabulated : (n k : ℕ) (d : A) → k < n → get_or (map f (up_to n)) k d ≡ f k
  get_or-tabulated n k d h = get_or-from 0 n k d h ∙ ap f (zero-add k)

pub map_each : {A B : Type 0} (f g : A → B) (xs : List A) → Each (λ x. f x ≡ g x) xs → map f xs ≡ map g xs
map_each f g [] e = refl
map_each f g (x ∷ xs) e = ap₂ ◌∷◌ e.0 (map_each f g xs e.1)

pub get_or-mapped : {A B : Type 0} (f : A → B) (d : A) (e : B) (l : List A) (k : ℕ) → k < length l → get_or (map f l) k e ≡ f (get_or l k d)
get_or-mapped f d e [] k h = absurd (not-suc-le-zero h)
get_or-mapped f d e (x ∷ l) zero h = refl
get_or-mapped f d e (x ∷ l) (suc k) h = get_or-mapped f d e l k (le_of_suc-le-suc h)

-- a function of each element, by the elements' places
pub mapped : {A B : Type 0} (f : A → B) (d : A) (l : List A) → map (λ k. f (get_or l k d)) (up_to (length l)) ≡ map f l
mapped f d l =
    ext_get_or (f d) (map (λ k. f (get_or l k d)) (up_to (length l))) (map f l)
    (length-tabulated (λ k. f (get_or l k d)) (length l) ∙ sym (length-map l f))
    (λ k h.
    let below : k < length l = subst (λ n. k < n) (length-tabulated (λ k. f (get_or l k d)) (length l)) h in
    get_or-tabulated (λ k. f (get_or l k d)) (length l) k (f d) below ∙ sym (get_or-mapped f d (f d) l k below))

-- ---- elements

module _ {A : Type 0} (P : A → Type 0) where
  pub each_at : (xs : List A) (k : ℕ) (d : A) → Each P xs → k < length xs → P (get_or xs k d)
  each_at [] k d e h = absurd (not-suc-le-zero h)
  each_at (x ∷ xs) zero d e h = e.0
  each_at (x ∷ xs) (suc k) d e h = each_at xs k d e.1 (le_of_suc-le-suc h)

  pub each_of : (d : A) (xs : List A) → ((k : ℕ) → k < length xs → P (get_or xs k d)) → Each P xs
  each_of d [] h = tt
  each_of d (x ∷ xs) h = (h zero (omega arith), each_of d xs (λ k l. h (suc k) (suc-le-suc l)))

  pub each_append : (xs ys : List A) → Each P xs → Each P ys → Each P (xs ++ ys)
  each_append [] ys e f = f
  each_append (x ∷ xs) ys e f = (e.0, each_append xs ys e.1 f)

  pub each-prefix : (xs ys : List A) → Each P (xs ++ ys) → Each P xs
  each-prefix [] ys e = tt
  each-prefix (x ∷ xs) ys e = (e.0, each-prefix xs ys e.1)

  pub each_take : (k : ℕ) (xs : List A) → Each P xs → Each P (take k xs)
  each_take zero xs e = tt
  each_take (suc k) [] e = tt
  each_take (suc k) (x ∷ xs) e = (e.0, each_take k xs e.1)

  pub each-drop : (k : ℕ) (xs : List A) → Each P xs → Each P (drop k xs)
  each-drop zero xs e = e
  each-drop (suc k) [] e = tt
  each-drop (suc k) (x ∷ xs) e = each-drop k xs e.1

-- ---- parts

module _ {A : Type 0} where
  pub length-take-most : (n : ℕ) (l : List A) → length (take n l) ≤ length l
  length-take-most zero l = zero-le
  length-take-most (suc n) [] = zero-le
  length-take-most (suc n) (x ∷ l) = omega (arith, length-take-most n l)

  -- b elements from place a on
  pub length_part : (a b : ℕ) (l : List A) → a + b ≤ length l → length (take b (drop a l)) ≡ b
  length_part a b l h = length-take-le b (drop a l) (omega (arith, length-drop a l))

  pub drop-take : (a b : ℕ) (l : List A) → a ≤ length l → drop a (take (a + b) l) ≡ take b (drop a l)
  drop-take a b l h = ap (drop a) (take-add a b l) ∙ drop_at (take a l) (take b (drop a l)) a (length-take-le a l h)

  module _ (f : A → ℕ) where
    pub total-prefix : (xs ys : List A) → total_over xs f ≤ total_over (xs ++ ys) f
    total-prefix [] ys = zero-le
    total-prefix (x ∷ xs) ys = omega (arith, total-prefix xs ys)

    pub total-take : (k : ℕ) (xs : List A) → total_over (take k xs) f ≤ total_over xs f
    total-take zero xs = zero-le
    total-take (suc k) [] = zero-le
    total-take (suc k) (x ∷ xs) = omega (arith, total-take k xs)

    pub total-drop : (k : ℕ) (xs : List A) → total_over (drop k xs) f ≤ total_over xs f
    total-drop zero xs = le_refl (total_over xs f)
    total-drop (suc k) [] = zero-le
    total-drop (suc k) (x ∷ xs) = omega (arith, total-drop k xs)

-- ---- a part put at a place

abbrev pub placed : {A : Type 0} → List A → ℕ → List A → List A
placed l at part = take at l ++ (part ++ drop (at + length part) l)

module _ {A : Type 0} (l : List A) (at : ℕ) (part : List A) (fits : at + length part ≤ length l) where
  abbrev front : List A
  front = take at l ++ part

  front_length : length front ≡ at + length part
  front_length = length-append (take at l) part ∙ ap (λ n. n + length part) (length-take-le at l (omega arith))

  split : placed l at part ≡ front ++ drop (at + length part) l
  split = sym (append_assoc (take at l) part (drop (at + length part) l))

  pub placed-length : length (placed l at part) ≡ length l
  placed-length =
      ap length split
      ∙ length-append front (drop (at + length part) l)
      ∙ omega (arith, front_length, length-drop (at + length part) l)

  -- up to the part's end, and from there on
  pub placed-take : take (at + length part) (placed l at part) ≡ take at l ++ part
  placed-take = ap (take (at + length part)) split ∙ take_at front (drop (at + length part) l) (at + length part) front_length

  pub placed-drop : (n : ℕ) → drop (at + length part + n) (placed l at part) ≡ drop (at + length part + n) l
  placed-drop n =
      sym (drop-drop n (at + length part) (placed l at part))
      ∙ ap (drop n) (ap (drop (at + length part)) split ∙ drop_at front (drop (at + length part) l) (at + length part) front_length)
      ∙ drop-drop n (at + length part) l

  -- two parts, one behind the other, are one
  pub placed-twice : (next : List A) → placed (placed l at part) (at + length part) next ≡ placed l at (part ++ next)
  placed-twice next =
      ap₂ (λ a b. a ++ (next ++ b)) placed-take (placed-drop (length next))
      ∙ append_assoc (take at l) part (next ++ drop (at + length part + length next) l)
      ∙ ap (λ r. take at l ++ r) (sym (append_assoc part next (drop (at + length part + length next) l)))
      ∙ ap (λ n. take at l ++ (part ++ next ++ drop n l)) (add_assoc at (length part) (length next) ∙ ap (λ n. at + n) (sym (length-append part next)))

-- n elements from place a on, lent, come back changed: as the language writes it
pub placed-back : {A : Type 0} (l : List A) (at n : ℕ) {ys part : List A} → ys ≡ part → length part ≡ n → take at l ++ (ys ++ drop (at + n - at) (drop at l)) ≡ placed l at part
placed-back l at n {part = part} e long =
    ap₂ (λ x r. take at l ++ (x ++ r)) e (drop-drop (at + n - at) at l ∙ ap (λ k. drop k l) (room at n ∙ ap (λ n. at + n) (sym long)))
  where
    room : (a n : ℕ) → a + (a + n - a) ≡ a + n
    room a n = omega arith
