-- Laws of bytes with zeros after them, and of names.
--     zero-append, zero-front, zero-behind, zero-zeros, zeros    bytes that are all zero
--     same_self, same-is, not_same             equal bytes, as a test
--     padded-length, padded-take, padded-drop  bytes with zeros after them
--     letters-most, letters-padded             the letters that bytes begin with
--     NameHeld, name-held                      what a valid name says
--     held-letters, same_name, held-name       a valid name as a place holds it: no two have the same
--     no-letters                               zeros begin with no letter
-- Assumes nothing.
use mathlib.Core.Path.{◌≡◌, refl, sym, ap, ap₂, ◌∙◌}
use mathlib.Core.Bool.{Bool, true, false, cond, ◌&&◌, false≢true}
use mathlib.Core.List.{List, [], ◌∷◌, ◌++◌}
use Prim.Native.Nat.{ℕ, zero, suc, ◌+◌, ◌-◌, ◌≤◌}
use native.Mathlib.Omega.{arith}
use borrow.Author.Tests.{eqb-true, eq-eqb, leb-true, lt-ltb}
use lib.Dec.{eqb, leb, ltb}
use lib.ListN.{length, take, drop, replicate, length-append, length-replicate, take-append-drop}
use lib.Seq.{take_at, drop_at}
use Rattle.limits.proofs.Within.{both}
use Rattle.store.specs.Names.{name_length, all_zero, same_bytes, padded, is_letter, letters, valid_name, valid_held_name}

-- ---- zeros

pub zero-append : (a b : List ℕ) → all_zero (a ++ b) ≡ (all_zero a && all_zero b)
unfolding all_zero
zero-append [] b = refl
zero-append (x ∷ a) b = ap (λ t. eqb x 0 && t) (zero-append a b) ∙ three (eqb x 0) (all_zero a) (all_zero b)
  where
    three : (p q r : Bool) → (p && (q && r)) ≡ (p && q && r)
    three true q r = refl
    three false q r = refl

-- the front of zeros, and what is behind it
zero-parts : (n : ℕ) (l : List ℕ) → all_zero l ≡ true → (all_zero (take n l) ≡ true) × (all_zero (drop n l) ≡ true)
zero-parts n l z = both (all_zero (take n l)) (all_zero (drop n l)) (sym (zero-append (take n l) (drop n l)) ∙ ap all_zero (take-append-drop n l) ∙ z)

pub zero-front : (n : ℕ) (l : List ℕ) → all_zero l ≡ true → all_zero (take n l) ≡ true
zero-front n l z = (zero-parts n l z).0

pub zero-behind : (n : ℕ) (l : List ℕ) → all_zero l ≡ true → all_zero (drop n l) ≡ true
zero-behind n l z = (zero-parts n l z).1

pub zero-zeros : (n : ℕ) → all_zero (replicate n 0) ≡ true
unfolding all_zero
zero-zeros zero = refl
zero-zeros (suc n) = zero-zeros n

pub zeros : (l : List ℕ) → all_zero l ≡ true → l ≡ replicate (length l) 0
unfolding all_zero
zeros [] e = refl
zeros (b ∷ l) e =
    let t = both (eqb b 0) (all_zero l) e in
    ap₂ ◌∷◌ (eqb-true b 0 t.0) (zeros l t.1)

-- ---- the same bytes

pub same_self : (l : List ℕ) → same_bytes l l ≡ true
unfolding same_bytes
same_self [] = refl
same_self (b ∷ l) = ap₂ ◌&&◌ (eq-eqb b b refl) (same_self l)

pub same-is : (l m : List ℕ) → same_bytes l m ≡ true → l ≡ m
unfolding same_bytes
same-is [] [] e = refl
same-is [] (c ∷ m) e = absurd (false≢true e)
same-is (b ∷ l) [] e = absurd (false≢true e)
same-is (b ∷ l) (c ∷ m) e =
    let t = both (eqb b c) (same_bytes l m) e in
    ap₂ ◌∷◌ (eqb-true b c t.0) (same-is l m t.1)

pub not_same : (l m : List ℕ) → (l ≡ m → ⊥) → same_bytes l m ≡ false
not_same l m n = go (same_bytes l m) (same-is l m)
  where
    go : (t : Bool) → (t ≡ true → l ≡ m) → t ≡ false
    go true f = absurd (n (f refl))
    go false f = refl

-- ---- padded

module _ (size : ℕ) (bytes : List ℕ) where
  abbrev behind : List ℕ
  behind = replicate (size - length bytes) 0

  pub padded-length : length bytes ≤ size → length (padded size bytes) ≡ size
  padded-length h = length-append bytes behind ∙ ap (λ n. length bytes + n) (length-replicate (size - length bytes) 0) ∙ omega arith

  pub padded-take : take (length bytes) (padded size bytes) ≡ bytes
  padded-take = take_at bytes behind (length bytes) refl

  pub padded-drop : drop (length bytes) (padded size bytes) ≡ behind
  padded-drop = drop_at bytes behind (length bytes) refl

-- ---- letters

pub letters-most : (l : List ℕ) → letters l ≤ length l
unfolding letters
letters-most [] = omega arith
letters-most (b ∷ l) = go (is_letter b) (letters-most l)
  where
    go : (t : Bool) → letters l ≤ length l → cond t (suc (letters l)) 0 ≤ suc (length l)
    go true h = omega arith
    go false h = omega arith

-- bytes that are letters, and zeros after them
letters-padded : (l : List ℕ) (n : ℕ) → letters l ≡ length l → letters (l ++ replicate n 0) ≡ length l
unfolding letters
letters-padded [] zero e = refl
letters-padded [] (suc n) e = refl
letters-padded (b ∷ l) n e = go (is_letter b) e (letters-padded l n)
  where
    go : (t : Bool) → cond t (suc (letters l)) 0 ≡ suc (length l) → (letters l ≡ length l → letters (l ++ replicate n 0) ≡ length l) → cond t (suc (letters (l ++ replicate n 0))) 0 ≡ suc (length l)
    go true q more = ap suc (more (omega arith))
    go false q more = absurd (omega arith)

-- ---- names

pub record NameHeld (name : List ℕ) : Type 0 where
  pub some : 1 ≤ length name
  pub short : length name ≤ name_length
  pub all : letters name ≡ length name

pub name-held : (name : List ℕ) → valid_name name ≡ true → NameHeld name
unfolding valid_name
name-held name e =
    let t = both (leb 1 (length name) && leb (length name) name_length) (eqb (letters name) (length name)) e in
    let s = both (leb 1 (length name)) (leb (length name) name_length) t.0 in
    record {
      some = leb-true 1 (length name) s.0;
      short = leb-true (length name) name_length s.1;
      all = eqb-true (letters name) (length name) t.1;
    }

pub held-letters : (name : List ℕ) → valid_name name ≡ true → letters (padded name_length name) ≡ length name
held-letters name v = letters-padded name (name_length - length name) (name-held name v).all

pub same_name : (a b : List ℕ) → valid_name a ≡ true → valid_name b ≡ true → padded name_length a ≡ padded name_length b → a ≡ b
same_name a b v w e =
    sym (padded-take name_length a)
    ∙ ap₂ take (sym (held-letters a v) ∙ ap letters e ∙ held-letters b w) e
    ∙ padded-take name_length b

-- bytes that are all zero begin with no letter
pub no-letters : (l : List ℕ) → all_zero l ≡ true → letters l ≡ 0
unfolding letters
no-letters l z = ap letters (zeros l z) ∙ letters-padded [] (length l) refl

pub held-name : (name : List ℕ) → valid_name name ≡ true → valid_held_name (padded name_length name) ≡ true
unfolding valid_held_name
held-name name v =
    let l = held-letters name v in
    let n = (name-held name v).some in
    ap₂ ◌&&◌ (ap (ltb 0) l ∙ lt-ltb 0 (length name) n)
    (ap (λ k. all_zero (drop k (padded name_length name))) l ∙ ap all_zero (padded-drop name_length name) ∙ zero-zeros (name_length - length name))
