-- What keep and forget answer, by what the store holds: `held-is-accepted`, `keep-tells`, `forget-tells`, `forget-frees`.
--     free-first     a place without a name is a free one
--     has_room       a store that holds less than four names has room
-- Assumes nothing.
use mathlib.Core.Path.{◌≡◌, refl, sym, ap, subst, ◌∙◌}
use mathlib.Core.Bool.{Bool, true, false, not, cond, ◌&&◌, ◌||◌, and-false}
use mathlib.Core.List.{List, [], ◌∷◌}
use mathlib.Core.Option.{some-injective, none-ne-some}
use Prim.Native.Nat.{ℕ, zero, suc, ◌≤◌, ◌<◌}
use native.Mathlib.Omega.{arith}
use borrow.Author.Tests.{ltb-true, ltb-false, lt-ltb, eq-eqb, ne_eqb}
use lib.Dec.{ltb, eqb, leb-suc-suc}
use lib.ListN.{length, set, replicate}
use lib.Seq.{length-take-le}
use Rattle.arith.specs.Sums.{Each}
use Rattle.limits.proofs.Within.{both}
use Rattle.refusal.specs.Refused.{Answer, gives, refused, refuse_if, and_then, either, accepted, told_of, done}
use Rattle.limits.specs.declared.Caller.TheVariants.{Bench}
use Rattle.bath_file.specs.declared.Header.{Header}
use Rattle.bath_file.specs.File.{file_answer}
use Rattle.store.specs.Names.{name_length, all_zero, same_bytes, padded, letters, valid_name}
use Rattle.store.specs.Form.{place_length, place_count, name_in, file_in, occupied, place_at, places, first_named, is_named, valid_places, valid_store, held_count, place_of, holds}
use Rattle.store.specs.Operations.{checked_call, with_place, place_for, keep_answer, held_answer, free_place, forget_answer, forget_leaves}
use Rattle.store.specs.Calls.{is_held, HeldIsAccepted, KeepTells, ForgetTells, HasRoom, ForgetFrees}
use Rattle.store.proofs.Bytes.{zero-front, zeros, same_self, not_same}
use Rattle.store.proofs.Answers.{last, forget-passed}
use Rattle.store.proofs.Places.{Good, good, occupied-name}
use Rattle.store.proofs.Stores.{places-long, place-long, places-with, free-long, free-zero, accepted-is, occupied-file}
use Rattle.store.proofs.Calls.{StoreHeld, store-held, holds-nothing, found, not_found, found-occupied}

-- ---- a place without a name

abbrev no_name : List ℕ
no_name = padded name_length []

free-named : (p : List ℕ) → length p ≡ place_length → all_zero p ≡ true → same_bytes (name_in p) no_name ≡ true
free-named p long z =
    ap (λ n. same_bytes n no_name) (zeros (name_in p) (zero-front name_length p z) ∙ ap (λ n. replicate n 0) (length-take-le name_length p (omega arith)))
    ∙ same_self no_name

taken-named : (p : List ℕ) → 0 < letters (name_in p) → same_bytes (name_in p) no_name ≡ false
unfolding letters
taken-named p l = not_same (name_in p) no_name (λ e. none-there (letters (name_in p)) (ap letters e) l)
  where
    none-there : (n : ℕ) → n ≡ 0 → 0 < n → ⊥
    none-there n e h = omega arith

pub count_most : (ps : List (List ℕ)) → held_count ps ≤ length ps
unfolding held_count
count_most [] = omega arith
count_most (p ∷ ps) = go (all_zero p) (count_most ps)
  where
    go : (z : Bool) → held_count ps ≤ length ps → cond z (held_count ps) (suc (held_count ps)) ≤ suc (length ps)
    go true h = omega arith
    go false h = omega arith

occupied-there : (p : List ℕ) (ps : List (List ℕ)) → Good p ps → all_zero p ≡ false → occupied p ≡ true
occupied-there p ps g z =
    (both (occupied p) (not (is_named (name_in p) ps)) (subst (λ t. (t || occupied p && not (is_named (name_in p) ps)) ≡ true) z g.either)).0

pub free-first : (ps : List (List ℕ)) → valid_places ps ≡ true → Each (λ p. length p ≡ place_length) ps → ltb (first_named no_name ps) (length ps) ≡ ltb (held_count ps) (length ps)
unfolding first_named held_count
free-first [] v e = refl
free-first (p ∷ ps) v e = go (all_zero p) refl (free-first ps (good p ps v).rest e.1)
  where
    go : (z : Bool) → all_zero p ≡ z → ltb (first_named no_name ps) (length ps) ≡ ltb (held_count ps) (length ps) → ltb (cond (same_bytes (name_in p) no_name) 0 (suc (first_named no_name ps))) (suc (length ps)) ≡ ltb (cond z (held_count ps) (suc (held_count ps))) (suc (length ps))
    go true z more =
        ap (λ t. ltb (cond t 0 (suc (first_named no_name ps))) (suc (length ps))) (free-named p e.0 z)
        ∙ lt-ltb 0 (suc (length ps)) (omega arith)
        ∙ sym (lt-ltb (held_count ps) (suc (length ps)) (omega (arith, count_most ps)))
    go false z more =
        ap (λ t. ltb (cond t 0 (suc (first_named no_name ps))) (suc (length ps))) (taken-named p (occupied-name p (occupied-there p ps (good p ps v) z)))
        ∙ leb-suc-suc (suc (first_named no_name ps)) (length ps)
        ∙ more
        ∙ sym (leb-suc-suc (suc (held_count ps)) (length ps))

-- ---- keep

module _ (store : List ℕ) (s : StoreHeld store) where
  all-long : Each (λ p. length p ≡ place_length) (places store)
  unfolding places
  all-long = (place-long store 0 s.long (omega arith), (place-long store 1 s.long (omega arith), (place-long store 2 s.long (omega arith), (place-long store 3 s.long (omega arith), tt))))

  free-is : ltb (place_of store []) place_count ≡ ltb (held_count (places store)) place_count
  unfolding place_of
  free-is = subst (λ n. ltb (first_named no_name (places store)) n ≡ ltb (held_count (places store)) n) (places-long store) (free-first (places store) s.valid all-long)

  -- there is no place for a name exactly where it is not held and four are
  no_place : (name : List ℕ) → valid_name name ≡ true → not (ltb (place_for store name) place_count) ≡ (not (is_held (holds store name)) && eqb (held_count (places store)) place_count)
  unfolding place_for
  no_place name v = go (ltb (place_of store name) place_count) refl
    where
      counted : (n : ℕ) → n ≤ place_count → (t : Bool) → ltb n place_count ≡ t → not t ≡ eqb n place_count
      counted n h true e = sym (ne_eqb n place_count (λ is. no (ltb-true n place_count e) is))
        where
          no : n < place_count → n ≡ place_count → ⊥
          no l is = omega arith
      counted n h false e = sym (eq-eqb n place_count (omega (arith, h, ltb-false n place_count e)))

      go : (t : Bool) → ltb (place_of store name) place_count ≡ t → not (ltb (cond t (place_of store name) (place_of store [])) place_count) ≡ (not (is_held (holds store name)) && eqb (held_count (places store)) place_count)
      go true e =
          ap not e
          ∙ sym (ap (λ f. not (is_held f) && eqb (held_count (places store)) place_count) (found store name v (place_of store name) refl (ltb-true (place_of store name) place_count e)))
      go false e =
          ap not free-is
          ∙ counted (held_count (places store)) (subst (λ n. held_count (places store) ≤ n) (places-long store) (count_most (places store))) (ltb (held_count (places store)) place_count) refl
          ∙ sym (ap (λ f. not (is_held f) && eqb (held_count (places store)) place_count) (not_found store name v (ltb-false (place_of store name) place_count e)))

-- what is told of a list of checks is what is told behind them
told-call : {A : Type 0} (valid : Bool) (name : List ℕ) (rest : Answer A) → told_of (checked_call valid name rest) ≡ checked_call valid name (told_of rest)
unfolding checked_call
told-call valid name rest = go valid (valid_name name)
  where
    go : (t u : Bool) → told_of (refuse_if (not t) 1 0 (refuse_if (not u) 22 0 rest)) ≡ refuse_if (not t) 1 0 (refuse_if (not u) 22 0 (told_of rest))
    go true true = refl
    go true false = refl
    go false u = refl

-- two lists that agree where the checks pass
same-call : (valid : Bool) (name : List ℕ) (a b : Answer Unit) → (valid ≡ true → valid_name name ≡ true → a ≡ b) → checked_call valid name a ≡ checked_call valid name b
unfolding checked_call
same-call valid name a b f = go valid refl (valid_name name) refl
  where
    go : (t : Bool) → valid ≡ t → (u : Bool) → valid_name name ≡ u → refuse_if (not t) 1 0 (refuse_if (not u) 22 0 a) ≡ refuse_if (not t) 1 0 (refuse_if (not u) 22 0 b)
    go true v true n = f v n
    go true v false n = refl
    go false v u n = refl

told-place : (file : Answer Header) (b : Bool) (n k : ℕ) → told_of (and_then file (λ _. refuse_if b n 0 (gives k))) ≡ and_then file (λ _. refuse_if b n 0 done)
told-place (gives h) true n k = refl
told-place (gives h) false n k = refl
told-place (refused m j) b n k = refl

pub keep-tells : KeepTells
unfolding keep_answer
keep-tells caller store name file =
    told-call (valid_store store) name (and_then (file_answer caller file) (λ _. last store name))
    ∙ same-call (valid_store store) name (told_of (and_then (file_answer caller file) (λ _. last store name))) (and_then (file_answer caller file) (λ _. refuse_if (not (is_held (holds store name)) && eqb (held_count (places store)) place_count) 24 0 done))
    (λ valid v.
    told-place (file_answer caller file) (not (ltb (place_for store name) place_count)) 24 (place_for store name)
    ∙ ap (λ b. and_then (file_answer caller file) (λ _. refuse_if b 24 0 done)) (no_place store (store-held store valid) name v))

-- ---- forget

pub forget-tells : ForgetTells
unfolding forget_answer
forget-tells store name =
    told-call (valid_store store) name (refuse_if (not (ltb (place_of store name) place_count)) 23 0 (gives (place_of store name)))
    ∙ same-call (valid_store store) name (told_of (refuse_if (not (ltb (place_of store name) place_count)) 23 0 (gives (place_of store name)))) (told_of (held_answer (holds store name)))
    (λ valid v. go v (ltb (place_of store name) place_count) refl)
    ∙ sym (told-call (valid_store store) name (held_answer (holds store name)))
  where
    go : valid_name name ≡ true → (t : Bool) → ltb (place_of store name) place_count ≡ t → told_of (refuse_if (not t) 23 0 (gives (place_of store name))) ≡ told_of (held_answer (holds store name))
    go v true e = sym (ap (λ f. told_of (held_answer f)) (found store name v (place_of store name) refl (ltb-true (place_of store name) place_count e)))
    go v false e = sym (ap (λ f. told_of (held_answer f)) (not_found store name v (ltb-false (place_of store name) place_count e)))

-- ---- a store with room

pub has_room : (store : List ℕ) → held_count (places store) < place_count → HasRoom store
has_room store l caller name file =
    keep-tells caller store name file
    ∙ ap (λ b. checked_call (valid_store store) name (and_then (file_answer caller file) (λ _. refuse_if (not (is_held (holds store name)) && b) 24 0 done))) (ne_eqb (held_count (places store)) place_count (λ e. less (held_count (places store)) l e))
    ∙ ap (λ b. checked_call (valid_store store) name (and_then (file_answer caller file) (λ _. refuse_if b 24 0 done))) (and-false (not (is_held (holds store name))))
    ∙ sym (told-call (valid_store store) name (file_answer caller file))
  where
    less : (n : ℕ) → n < place_count → n ≡ place_count → ⊥
    less n h e = omega arith

freed-count : (q : List ℕ) → all_zero q ≡ true → (ps : List (List ℕ)) (k : ℕ) → k < length ps → held_count (set ps k q) < length ps
unfolding held_count
freed-count q z [] k l = absurd (omega arith)
freed-count q z (p ∷ ps) zero l = subst (λ t. cond t (held_count ps) (suc (held_count ps)) < suc (length ps)) (sym z) (omega (arith, count_most ps))
freed-count q z (p ∷ ps) (suc k) l = go (all_zero p) (freed-count q z ps k (omega arith))
  where
    go : (t : Bool) → held_count (set ps k q) < length ps → cond t (held_count (set ps k q)) (suc (held_count (set ps k q))) < suc (length ps)
    go true h = omega arith
    go false h = omega arith

pub forget-frees : ForgetFrees
unfolding forget_leaves
forget-frees store name a =
    let r = accepted-is (forget_answer store name) a in
    let k = r.0 in
    let p = forget-passed store name r.1 in
    let s = store-held store p.form in
    let left : forget_leaves store name ≡ with_place store k free_place = ap (λ b. either b (λ j. with_place store j free_place) (λ n j. store)) r.1 in
    subst HasRoom (sym left)
    (has_room (with_place store k free_place)
    (subst (λ ps. held_count ps < place_count) (sym (places-with store k free_place s.long p.below free-long))
    (subst (λ n. held_count (set (places store) k free_place) < n) (places-long store) (freed-count free_place free-zero (places store) k (subst (λ n. k < n) (sym (places-long store)) p.below)))))

-- ---- what is held

pub held-is-accepted : HeldIsAccepted
held-is-accepted store name file valid e = go (valid_name name) refl
  where
    go : (t : Bool) → valid_name name ≡ t → accepted (file_answer Bench file) ≡ true
    go true v = under v (ltb (place_of store name) place_count) refl
      where
        under : valid_name name ≡ true → (t : Bool) → ltb (place_of store name) place_count ≡ t → accepted (file_answer Bench file) ≡ true
        under v true l =
            let k = place_of store name in
            let below = ltb-true k place_count l in
            let is = some-injective (file_in (place_at store k)) file (sym (found store name v k refl below) ∙ e) in
            let h = occupied-file (place_at store k) (found-occupied store name valid v k refl below) in
            ap (λ f. accepted (file_answer Bench f)) (sym is) ∙ ap accepted h.1
        under v false l = absurd (none-ne-some file (sym (not_found store name v (ltb-false (place_of store name) place_count l)) ∙ e))
    go false v = absurd (none-ne-some file (sym (holds-nothing store name v) ∙ e))
