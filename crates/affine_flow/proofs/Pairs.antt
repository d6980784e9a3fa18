-- Laws of pairs at the same place of two lists.
--     pair-images    a list and its images
--     pair_same      a list and itself
--     pair_then      two relations in a row
--     pair-each      what a relation hands on
-- Assumes nothing.
use mathlib.Core.List.{List, [], ◌∷◌, map}
use Rattle.arith.specs.Sums.{Each}
use Rattle.affine_flow.specs.Flow.{EachPair}

module _ {A : Type 0} where
  pub pair-images : (R : A → A → Type 0) (f : A → A) (xs : List A) → Each (λ x. R x (f x)) xs → EachPair R xs (map f xs)
  pair-images R f [] h = tt
  pair-images R f (x ∷ xs) h = (h.0, pair-images R f xs h.1)

  pub pair_same : (R : A → A → Type 0) → ((x : A) → R x x) → (xs : List A) → EachPair R xs xs
  pair_same R same [] = tt
  pair_same R same (x ∷ xs) = (same x, pair_same R same xs)

  pub pair_then : (R S T : A → A → Type 0) → ((x y z : A) → R x y → S y z → T x z) → (xs ys zs : List A) → EachPair R xs ys → EachPair S ys zs → EachPair T xs zs
  pair_then R S T both [] [] [] h k = tt
  pair_then R S T both [] [] (z ∷ zs) h k = absurd k
  pair_then R S T both [] (y ∷ ys) zs h k = absurd h
  pair_then R S T both (x ∷ xs) [] zs h k = absurd h
  pair_then R S T both (x ∷ xs) (y ∷ ys) [] h k = absurd k
  pair_then R S T both (x ∷ xs) (y ∷ ys) (z ∷ zs) h k = (both x y z h.0 k.0, pair_then R S T both xs ys zs h.1 k.1)

  pub pair-each : (P : A → Type 0) (R : A → A → Type 0) → ((x y : A) → P x → R x y → P y) → (xs ys : List A) → Each P xs → EachPair R xs ys → Each P ys
  pair-each P R on [] [] h k = tt
  pair-each P R on [] (y ∷ ys) h k = absurd k
  pair-each P R on (x ∷ xs) [] h k = absurd k
  pair-each P R on (x ∷ xs) (y ∷ ys) h k = (on x y h.0 k.0, pair-each P R on xs ys h.1 k.1)
