-- Laws of a list of places, of any number: which of them has a name, what stands under it, and what a changed place changes.
--     free-name, occupied-name                           a place's name
--     first-most, under-found, under_none                the first place with a name
--     Unnamed, unnamed, unnamed-behind, alone            a name that no place has, and one that no other has
--     set-named, set_other, set-freed                    what stands under a name when place k is another
--     form-kept, form-freed                              the form, then
--     held-occupied                                      the place with a name is occupied
-- Assumes nothing.
use mathlib.Core.Path.{◌≡◌, refl, sym, ap, ap₂, subst, ◌∙◌}
use mathlib.Core.Bool.{Bool, true, false, not, cond, ◌&&◌, ◌||◌, or-true, false≢true}
use mathlib.Core.List.{List, [], ◌∷◌}
use mathlib.Core.Option.{none, some}
use Prim.Native.Nat.{ℕ, zero, suc, ◌≤◌, ◌<◌}
use native.Mathlib.Omega.{arith}
use borrow.Author.Tests.{ltb-true, ltb-false, le-ltb, not-true}
use lib.Dec.{ltb}
use lib.ListN.{length, get_or, set, drop}
use Rattle.store.specs.Names.{name_length, all_zero, same_bytes, letters, valid_held_name}
use Rattle.store.specs.Form.{name_in, room_in, file_in, valid_room, occupied, first_named, is_named, valid_places, file_under}
use Rattle.limits.proofs.Within.{both}
use Rattle.store.proofs.Bytes.{zero-front, same_self, same-is, not_same, no-letters}

-- ---- one place

-- a free place has no name, and an occupied one has
pub free-name : (p : List ℕ) → all_zero p ≡ true → letters (name_in p) ≡ 0
free-name p z = no-letters (name_in p) (zero-front name_length p z)

pub occupied-name : (p : List ℕ) → occupied p ≡ true → 0 < letters (name_in p)
unfolding occupied valid_held_name
occupied-name p o =
    let t = both (valid_held_name (name_in p)) (valid_room (room_in p)) o in
    ltb-true 0 (letters (name_in p)) (both (ltb 0 (letters (name_in p))) (all_zero (drop (letters (name_in p)) (name_in p))) t.0).0

-- ---- the first place with a name

module _ (h : List ℕ) where
  pub first-most : (ps : List (List ℕ)) → first_named h ps ≤ length ps
  unfolding first_named
  first-most [] = omega arith
  first-most (p ∷ ps) = go (same_bytes (name_in p) h) (first-most ps)
    where
      go : (t : Bool) → first_named h ps ≤ length ps → cond t 0 (suc (first_named h ps)) ≤ suc (length ps)
      go true l = omega arith
      go false l = omega arith

  pub under-found : (ps : List (List ℕ)) → first_named h ps < length ps → (name_in (get_or ps (first_named h ps) []) ≡ h) × (file_under h ps ≡ some (file_in (get_or ps (first_named h ps) [])))
  unfolding first_named file_under
  under-found [] l = absurd (omega arith)
  under-found (p ∷ ps) l = go (same_bytes (name_in p) h) refl l (under-found ps)
    where
      at : Bool → ℕ
      at t = cond t 0 (suc (first_named h ps))

      go : (t : Bool) → same_bytes (name_in p) h ≡ t → at t < suc (length ps) → (first_named h ps < length ps → (name_in (get_or ps (first_named h ps) []) ≡ h) × (file_under h ps ≡ some (file_in (get_or ps (first_named h ps) [])))) → (name_in (get_or (p ∷ ps) (at t) []) ≡ h) × (cond t (some (file_in p)) (file_under h ps) ≡ some (file_in (get_or (p ∷ ps) (at t) [])))
      go true e l more = (same-is (name_in p) h e, refl)
      go false e l more = more (omega arith)

  abbrev pub Unnamed : List (List ℕ) → Type 0
  Unnamed ps = first_named h ps ≡ length ps

  pub unnamed : (ps : List (List ℕ)) → is_named h ps ≡ false → Unnamed ps
  unnamed ps e = omega (arith, first-most ps, ltb-false (first_named h ps) (length ps) e)

  not_named : (ps : List (List ℕ)) → Unnamed ps → is_named h ps ≡ false
  not_named ps e = le-ltb (first_named h ps) (length ps) (omega (arith, e))

  -- the rest of the places, where the first does not have the name
  next : (p : List ℕ) (ps : List (List ℕ)) (k : ℕ) → suc k ≤ first_named h (p ∷ ps) → (same_bytes (name_in p) h ≡ false) × (k ≤ first_named h ps)
  unfolding first_named
  next p ps k = go (same_bytes (name_in p) h)
    where
      go : (t : Bool) → suc k ≤ cond t 0 (suc (first_named h ps)) → (t ≡ false) × (k ≤ first_named h ps)
      go true l = absurd (omega arith)
      go false l = (refl, omega arith)

  pub under_none : (ps : List (List ℕ)) → Unnamed ps → file_under h ps ≡ none
  unfolding file_under
  under_none [] u = refl
  under_none (p ∷ ps) u =
      let n = next p ps (length ps) (omega (arith, u)) in
      ap (λ t. cond t (some (file_in p)) (file_under h ps)) n.0 ∙ under_none ps (omega (arith, n.1, first-most ps))

  pub unnamed-behind : (ps : List (List ℕ)) (k : ℕ) → Unnamed ps → Unnamed (drop k ps)
  unnamed-behind ps zero u = u
  unnamed-behind [] (suc k) u = u
  unnamed-behind (p ∷ ps) (suc k) u =
      let n = next p ps (length ps) (omega (arith, u)) in
      unnamed-behind ps k (omega (arith, n.1, first-most ps))

-- ---- the form, one place and those behind it

pub record Good (p : List ℕ) (ps : List (List ℕ)) : Type 0 where
  pub either : (all_zero p || occupied p && not (is_named (name_in p) ps)) ≡ true
  pub rest : valid_places ps ≡ true

pub good : (p : List ℕ) (ps : List (List ℕ)) → valid_places (p ∷ ps) ≡ true → Good p ps
unfolding valid_places
good p ps v =
    let t = both (all_zero p || occupied p && not (is_named (name_in p) ps)) (valid_places ps) v in
    record { either = t.0; rest = t.1 }

-- a place with a name is occupied, and no place behind it has the name
taken : (p : List ℕ) (ps : List (List ℕ)) → Good p ps → 0 < letters (name_in p) → (occupied p ≡ true) × Unnamed (name_in p) ps
taken p ps g n = go (all_zero p) refl g.either
  where
    go : (z : Bool) → all_zero p ≡ z → (z || occupied p && not (is_named (name_in p) ps)) ≡ true → (occupied p ≡ true) × Unnamed (name_in p) ps
    go true e v = absurd (omega (arith, free-name p e, n))
    go false e v =
        let t = both (occupied p) (not (is_named (name_in p) ps)) v in
        (t.0, unnamed (name_in p) ps (not-true (is_named (name_in p) ps) t.1))

module _ (h : List ℕ) (some-letter : 0 < letters h) where
  -- no place behind the first that has a name has it too
  pub alone : (ps : List (List ℕ)) → valid_places ps ≡ true → first_named h ps < length ps → Unnamed h (drop (suc (first_named h ps)) ps)
  unfolding first_named
  alone [] v l = absurd (omega arith)
  alone (p ∷ ps) v l = go (same_bytes (name_in p) h) refl l (alone ps (good p ps v).rest)
    where
      go : (t : Bool) → same_bytes (name_in p) h ≡ t → cond t 0 (suc (first_named h ps)) < suc (length ps) → (first_named h ps < length ps → Unnamed h (drop (suc (first_named h ps)) ps)) → Unnamed h (drop (cond t 0 (suc (first_named h ps))) ps)
      go true e l more =
          let is = same-is (name_in p) h e in
          subst (λ n. Unnamed n ps) is (taken p ps (good p ps v) (subst (λ n. 0 < letters n) (sym is) some-letter)).1
      go false e l more = more (omega arith)

  -- the place with a name is occupied
  pub held-occupied : (ps : List (List ℕ)) → valid_places ps ≡ true → first_named h ps < length ps → occupied (get_or ps (first_named h ps) []) ≡ true
  unfolding first_named
  held-occupied [] v l = absurd (omega arith)
  held-occupied (p ∷ ps) v l = go (same_bytes (name_in p) h) refl l (held-occupied ps (good p ps v).rest)
    where
      go : (t : Bool) → same_bytes (name_in p) h ≡ t → cond t 0 (suc (first_named h ps)) < suc (length ps) → (first_named h ps < length ps → occupied (get_or ps (first_named h ps) []) ≡ true) → occupied (get_or (p ∷ ps) (cond t 0 (suc (first_named h ps))) []) ≡ true
      go true e l more = (taken p ps (good p ps v) (subst (λ n. 0 < letters n) (sym (same-is (name_in p) h e)) some-letter)).0
      go false e l more = more (omega arith)

-- ---- place k is another, q

module _ (q : List ℕ) where
  -- under the name that it has, where no place before it has that
  pub set-named : (ps : List (List ℕ)) (k : ℕ) → k < length ps → k ≤ first_named (name_in q) ps → file_under (name_in q) (set ps k q) ≡ some (file_in q)
  unfolding file_under
  set-named [] k l b = absurd (omega arith)
  set-named (p ∷ ps) zero l b = ap (λ t. cond t (some (file_in q)) (file_under (name_in q) ps)) (same_self (name_in q))
  set-named (p ∷ ps) (suc k) l b =
      let n = next (name_in q) p ps k b in
      ap (λ t. cond t (some (file_in p)) (file_under (name_in q) (set ps k q))) n.0 ∙ set-named ps k (omega arith) n.1

  module _ (h : List ℕ) (other : same_bytes (name_in q) h ≡ false) where
    -- under a name that neither it nor the place before it has
    pub set_other : (ps : List (List ℕ)) (k : ℕ) → k < length ps → same_bytes (name_in (get_or ps k [])) h ≡ false → file_under h (set ps k q) ≡ file_under h ps
    unfolding file_under
    set_other [] k l e = refl
    set_other (p ∷ ps) zero l e =
        ap (λ t. cond t (some (file_in q)) (file_under h ps)) other ∙ sym (ap (λ t. cond t (some (file_in p)) (file_under h ps)) e)
    set_other (p ∷ ps) (suc k) l e = ap (λ r. cond (same_bytes (name_in p) h) (some (file_in p)) r) (set_other ps k (omega arith) e)

    set-unnamed : (ps : List (List ℕ)) (k : ℕ) → Unnamed h ps → Unnamed h (set ps k q)
    unfolding first_named
    set-unnamed [] k u = u
    set-unnamed (p ∷ ps) zero u = ap (λ t. cond t 0 (suc (first_named h ps))) other ∙ ap suc (unnamed-behind h (p ∷ ps) 1 u)
    set-unnamed (p ∷ ps) (suc k) u =
        ap (λ t. cond t 0 (suc (first_named h (set ps k q)))) (next h p ps (length ps) (omega (arith, u))).0
        ∙ ap suc (set-unnamed ps k (unnamed-behind h (p ∷ ps) 1 u))

    -- under the name that the place before it had, and no other
    pub set-freed : (ps : List (List ℕ)) (k : ℕ) → k < length ps → k ≡ first_named h ps → Unnamed h (drop (suc k) ps) → Unnamed h (set ps k q)
    unfolding first_named
    set-freed [] k l e u = absurd (omega arith)
    set-freed (p ∷ ps) zero l e u = ap (λ t. cond t 0 (suc (first_named h ps))) other ∙ ap suc u
    set-freed (p ∷ ps) (suc k) l e u =
        let n = next h p ps k (omega (arith, e)) in
        ap (λ t. cond t 0 (suc (first_named h (set ps k q)))) n.0
        ∙ ap suc (set-freed ps k (omega arith) (tail (same_bytes (name_in p) h) n.0 e) u)
      where
        tail : (t : Bool) → t ≡ false → suc k ≡ cond t 0 (suc (first_named h ps)) → k ≡ first_named h ps
        tail true f e = absurd (false≢true (sym f))
        tail false f e = omega arith

  -- ---- and the form stays

  good-again : (p : List ℕ) (ps rest : List (List ℕ)) → Good p ps → valid_places rest ≡ true → (occupied p ≡ true → Unnamed (name_in p) ps → Unnamed (name_in p) rest) → valid_places (p ∷ rest) ≡ true
  unfolding valid_places
  good-again p ps rest g v same = ap₂ ◌&&◌ (go (all_zero p) g.either) v
    where
      go : (z : Bool) → (z || occupied p && not (is_named (name_in p) ps)) ≡ true → (z || occupied p && not (is_named (name_in p) rest)) ≡ true
      go true e = refl
      go false e =
          let t = both (occupied p) (not (is_named (name_in p) ps)) e in
          ap₂ ◌&&◌ t.0 (ap not (not_named (name_in p) rest (same t.0 (unnamed (name_in p) ps (not-true (is_named (name_in p) ps) t.1)))))

  pub form-kept : (ps : List (List ℕ)) (k : ℕ) → valid_places ps ≡ true → k < length ps → k ≤ first_named (name_in q) ps → occupied q ≡ true → Unnamed (name_in q) (drop (suc k) ps) → valid_places (set ps k q) ≡ true
  unfolding valid_places
  form-kept [] k v l b o u = absurd (omega arith)
  form-kept (p ∷ ps) zero v l b o u =
      ap₂ ◌&&◌ (ap₂ (λ o n. all_zero q || o && not n) o (not_named (name_in q) ps u) ∙ or-true (all_zero q)) (good p ps v).rest
  form-kept (p ∷ ps) (suc k) v l b o u =
      let n = next (name_in q) p ps k b in
      good-again p ps (set ps k q) (good p ps v) (form-kept ps k (good p ps v).rest (omega arith) n.1 o u)
      (λ _. set-unnamed (name_in p) (turned n.0) ps k)
    where
      turned : same_bytes (name_in p) (name_in q) ≡ false → same_bytes (name_in q) (name_in p) ≡ false
      turned e = not_same (name_in q) (name_in p) (λ s. false≢true (sym (subst (λ m. same_bytes m (name_in q) ≡ false) (sym s) e) ∙ same_self (name_in q)))

  pub form-freed : (ps : List (List ℕ)) (k : ℕ) → valid_places ps ≡ true → all_zero q ≡ true → valid_places (set ps k q) ≡ true
  unfolding valid_places
  form-freed [] k v z = v
  form-freed (p ∷ ps) zero v z = ap₂ ◌&&◌ (ap (λ t. t || occupied q && not (is_named (name_in q) ps)) z) (good p ps v).rest
  form-freed (p ∷ ps) (suc k) v z =
      good-again p ps (set ps k q) (good p ps v) (form-freed ps k (good p ps v).rest z)
      (λ o. set-unnamed (name_in p) (not_same (name_in q) (name_in p) (λ s. no_more (letters (name_in p)) (ap letters (sym s) ∙ free-name q z) (occupied-name p o))) ps k)
    where
      no_more : (n : ℕ) → n ≡ 0 → 0 < n → ⊥
      no_more n e l = omega arith
