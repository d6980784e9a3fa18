-- Keep, return and forget, way by way, and over lists of calls: `every_call` and `every-list-of-calls`.
--     StoreHeld, store-held, held-store       what a store of the form says, and back
--     holds-is, holds-nothing                 what stands under a valid name, and under no other
--     Takes, has, lacks, chosen               the place that a call changes
--     every_call, every-list-of-calls         statements of specs/Calls.antt
--     found, not-found, found-occupied        what stands under a name, by its place
--     Returns, return-passed                  what a return that is not refused says
-- Assumes nothing.
use mathlib.Core.Path.{◌≡◌, refl, sym, ap, ap₂, subst, ◌∙◌}
use mathlib.Core.Bool.{Bool, true, false, cond, ◌&&◌, and-true, false≢true}
use mathlib.Core.List.{List, [], ◌∷◌}
use mathlib.Core.Option.{Option, none, some}
use Prim.Native.Nat.{ℕ, suc, ◌≤◌, ◌<◌}
use native.Mathlib.Omega.{arith}
use borrow.Author.Tests.{eqb-true, eq-eqb, ltb-true, ltb-false}
use lib.Dec.{leb, ltb, eqb}
use lib.ListN.{length, get_or, set, drop}
use Rattle.refusal.specs.Refused.{Answer, gives, refused, either, accepted}
use Rattle.refusal.proofs.Answers.{same-result, not-result}
use Rattle.limits.specs.declared.Caller.{Caller}
use Rattle.limits.specs.declared.Caller.TheVariants.{Bench}
use Rattle.bath_file.specs.declared.Header.{Header}
use Rattle.bath_file.specs.File.{file_answer}
use Rattle.bath_file.proofs.Callers.{bench-file}
use Rattle.store.specs.Names.{name_length, all_zero, same_bytes, padded, letters, valid_name}
use Rattle.store.specs.Form.{most_file, place_length, place_count, store_length, name_in, file_in, occupied, place_at, places, first_named, valid_places, valid_store, place_of, file_under, holds}
use Rattle.store.specs.Operations.{checked_call, with_place, place_for, kept_place, keep_answer, keep_leaves, held_answer, return_answer, free_place, forget_answer, forget_leaves}
use Rattle.store.specs.Calls.{StoreCall, keep, return, forget, leaves_store, CallKeeps, EveryCall, leaves_store_all, last_left, EveryListOfCalls}
use Rattle.limits.proofs.Within.{both}
use Rattle.store.proofs.Bytes.{same_self, same-is, not_same, name-held, held-letters, same_name, no-letters}
use Rattle.store.proofs.Answers.{checked-passed, keep-passed, forget-passed}
use Rattle.store.proofs.Places.{free-name, first-most, under-found, under_none, Unnamed, unnamed-behind, alone, held-occupied, set-named, set_other, set-freed, form-kept, form-freed}
use Rattle.store.proofs.Stores.{places-long, place_is, with-long, places-with, file-long, kept-long, kept-name, kept-file, kept-occupied, free-long, free-zero, occupied-file}

-- ---- a store of the form

pub record StoreHeld (store : List ℕ) : Type 0 where
  pub long : length store ≡ store_length
  pub valid : valid_places (places store) ≡ true

pub store-held : (store : List ℕ) → valid_store store ≡ true → StoreHeld store
unfolding valid_store
store-held store v =
    let t = both (eqb (length store) store_length) (valid_places (places store)) v in
    record { long = eqb-true (length store) store_length t.0; valid = t.1 }

pub held-store : (store : List ℕ) → length store ≡ store_length → valid_places (places store) ≡ true → valid_store store ≡ true
unfolding valid_store
held-store store l v = ap₂ ◌&&◌ (eq-eqb (length store) store_length l) v

-- ---- a valid name

module _ (name : List ℕ) (v : valid_name name ≡ true) where
  abbrev held : List ℕ
  held = padded name_length name

  some-letter : 0 < letters held
  some-letter = subst (λ n. 0 < n) (sym (held-letters name v)) (name-held name v).some

  pub holds-is : (store : List ℕ) → holds store name ≡ file_under held (places store)
  unfolding holds
  holds-is store = ap (λ t. cond t (file_under held (places store)) none) v

pub holds-nothing : (store name : List ℕ) → valid_name name ≡ false → holds store name ≡ none
unfolding holds
holds-nothing store name v = ap (λ t. cond t (file_under (padded name_length name) (places store)) none) v

-- ---- a name that differs

-- the bytes that a place has as another name, or where it is free
other_name : (name other held : List ℕ) → valid_name name ≡ true → valid_name other ≡ true → (name ≡ other → ⊥) → held ≡ padded name_length name → same_bytes held (padded name_length other) ≡ false
other_name name other held v w n e = not_same held (padded name_length other) (λ s. n (same_name name other v w (sym e ∙ s)))

pub free_other : (other held : List ℕ) → valid_name other ≡ true → letters held ≡ 0 → same_bytes held (padded name_length other) ≡ false
free_other other held w e =
    not_same held (padded name_length other) (λ s. clash (letters (padded name_length other)) (ap letters (sym s) ∙ e) (some-letter other w))
  where
    clash : (n : ℕ) → n ≡ 0 → 0 < n → ⊥
    clash n z l = omega arith

-- ---- the place that a call changes

module _ (store : List ℕ) (s : StoreHeld store) (name : List ℕ) (v : valid_name name ≡ true) where
  abbrev ps : List (List ℕ)
  ps = places store

  -- place k can take the name: no place before it and none behind it has it, and what stands there has no other
  pub record Takes (k : ℕ) : Type 0 where
    pub below : k < length ps
    pub first : k ≤ first_named (held name v) ps
    pub behind : Unnamed (held name v) (drop (suc k) ps)
    pub other : (n : List ℕ) → valid_name n ≡ true → (name ≡ n → ⊥) → same_bytes (name_in (get_or ps k [])) (padded name_length n) ≡ false

  -- the place that has the name
  has : (k : ℕ) → k ≡ first_named (held name v) ps → k < place_count → Takes k
  has k e l =
      let below : k < length ps = subst (λ n. k < n) (sym (places-long store)) l in
      let first_below : first_named (held name v) ps < length ps = subst (λ n. n < length ps) e below in
      record {
        below = below;
        first = omega (arith, e);
        behind = subst (λ n. Unnamed (held name v) (drop (suc n) ps)) (sym e) (alone (held name v) (some-letter name v) ps s.valid first_below);
        other = λ n w d. other_name name n (name_in (get_or ps k [])) v w d (ap (λ j. name_in (get_or ps j [])) e ∙ (under-found (held name v) ps first_below).0);
      }

  -- one without a name, where no place has it
  lacks : (k : ℕ) → k ≡ place_of store [] → k < place_count → place_count ≤ first_named (held name v) ps → Takes k
  unfolding place_of all_zero
  lacks k e l none_has =
      let below : k < length ps = subst (λ n. k < n) (sym (places-long store)) l in
      let unnamed : Unnamed (held name v) ps = omega (arith, first-most (held name v) ps, places-long store) in
      let empty : name_in (get_or ps k []) ≡ padded name_length [] = ap (λ j. name_in (get_or ps j [])) e ∙ (under-found (padded name_length []) ps (subst (λ n. n < length ps) e below)).0 in
      record {
        below = below;
        first = omega (arith, unnamed);
        behind = unnamed-behind (held name v) ps (suc k) unnamed;
        other = λ n w d. free_other n (name_in (get_or ps k [])) w (ap letters empty ∙ no-letters (padded name_length []) refl);
      }

  chosen : (k : ℕ) → place_for store name ≡ k → k < place_count → Takes k
  unfolding place_for place_of
  chosen k e l = go (ltb (place_of store name) place_count) refl e
    where
      go : (t : Bool) → ltb (place_of store name) place_count ≡ t → cond t (place_of store name) (place_of store []) ≡ k → Takes k
      go true f q = has k (sym q) l
      go false f q = lacks k (sym q) l (ltb-false (place_of store name) place_count f)

  -- ---- an accepted keep

  module _ (file : List ℕ) {h : Header} (accepts : file_answer Bench file ≡ gives h) (k : ℕ) (t : Takes k) where
    abbrev q : List ℕ
    q = kept_place name file

    abbrev kept : List ℕ
    kept = with_place store k q

    short : length name ≤ name_length
    short = (name-held name v).short

    size : length q ≡ place_length
    size = kept-long name file short (file-long file accepts).most

    in-store : k < place_count
    in-store = subst (λ n. k < n) (places-long store) t.below

    kept-places : places kept ≡ set ps k q
    kept-places = places-with store k q s.long in-store size

    named : name_in q ≡ held name v
    named = kept-name name file short

    kept-form : valid_store kept ≡ true
    kept-form =
        held-store kept (with-long store k q s.long in-store size)
        (ap valid_places kept-places
        ∙ form-kept q ps k s.valid t.below (subst (λ n. k ≤ first_named n ps) (sym named) t.first) (kept-occupied name file short accepts v) (subst (λ n. Unnamed n (drop (suc k) ps)) (sym named) t.behind))

    kept_under : holds kept name ≡ some file
    kept_under =
        holds-is name v kept
        ∙ ap₂ file_under (sym named) kept-places
        ∙ set-named q ps k t.below (subst (λ n. k ≤ first_named n ps) (sym named) t.first)
        ∙ ap some (kept-file name file short accepts)

    kept-elsewhere : (n : List ℕ) → valid_name n ≡ true → (name ≡ n → ⊥) → holds kept n ≡ holds store n
    kept-elsewhere n w d =
        holds-is n w kept
        ∙ ap (file_under (held n w)) kept-places
        ∙ set_other q (held n w) (other_name name n (name_in q) v w d named) ps k t.below (t.other n w d)
        ∙ sym (holds-is n w store)

  -- ---- an accepted forget

  module _ (k : ℕ) (e : place_of store name ≡ k) (l : k < place_count) where
    abbrev freed : List ℕ
    freed = with_place store k free_place

    first-is : k ≡ first_named (held name v) ps
    unfolding place_of
    first-is = sym e

    there : Takes k
    there = has k first-is l

    freed-places : places freed ≡ set ps k free_place
    freed-places = places-with store k free_place s.long l free-long

    freed-form : valid_store freed ≡ true
    freed-form =
        held-store freed (with-long store k free_place s.long l free-long)
        (ap valid_places freed-places ∙ form-freed free_place ps k s.valid free-zero)

    differs : (n : List ℕ) → valid_name n ≡ true → same_bytes (name_in free_place) (padded name_length n) ≡ false
    differs n w = free_other n (name_in free_place) w (free-name free_place free-zero)

    freed-under : holds freed name ≡ none
    freed-under =
        holds-is name v freed
        ∙ ap (file_under (held name v)) freed-places
        ∙ under_none (held name v) (set ps k free_place) (set-freed free_place (held name v) (differs name v) ps k there.below first-is there.behind)

    freed-elsewhere : (n : List ℕ) → valid_name n ≡ true → (name ≡ n → ⊥) → holds freed n ≡ holds store n
    freed-elsewhere n w d =
        holds-is n w freed
        ∙ ap (file_under (held n w)) freed-places
        ∙ set_other free_place (held n w) (differs n w) ps k there.below (there.other n w d)
        ∙ sym (holds-is n w store)

-- ---- one call

abbrev Under : List ℕ → List ℕ → List ℕ → Option (List ℕ) → List ℕ → Type 0
Under store left name there n = holds left n ≡ cond (same_bytes name n) there (holds store n)

-- at its name a call leaves `there`, and elsewhere what stood
changes : (store left name : List ℕ) (there : Option (List ℕ)) → valid_name name ≡ true → holds left name ≡ there → ((n : List ℕ) → valid_name n ≡ true → (name ≡ n → ⊥) → holds left n ≡ holds store n) → (n : List ℕ) → Under store left name there n
changes store left name there v at elsewhere n = go (same_bytes name n) refl (valid_name n) refl
  where
    go : (same : Bool) → same_bytes name n ≡ same → (valid : Bool) → valid_name n ≡ valid → holds left n ≡ cond same there (holds store n)
    go true e valid f = ap (holds left) (sym (same-is name n e)) ∙ at
    go false e true f = elsewhere n f (λ is. false≢true (sym e ∙ ap (same_bytes name) (sym is) ∙ same_self name))
    go false e false f = holds-nothing left n f ∙ sym (holds-nothing store n f)

-- a refused call leaves everything
nothing-changes : (same : Bool) {A : Type 0} (a b : A) → a ≡ cond (same && false) b a
nothing-changes true a b = refl
nothing-changes false a b = refl

-- what a call leaves that puts `new` where it is accepted, and at its name `there`
module _ (store name : List ℕ) (there : Option (List ℕ)) (new : ℕ → List ℕ) where
  abbrev Leaving : Answer ℕ → Type 0
  Leaving a = (m : List ℕ) → holds (either a new (λ n k. store)) m ≡ cond (same_bytes name m && accepted a) there (holds store m)

  refused-leaves : (a : Answer ℕ) {n k : ℕ} → a ≡ refused n k → Leaving a
  refused-leaves a e = subst Leaving (sym e) (λ m. nothing-changes (same_bytes name m) (holds store m) there)

  accepted-leaves : (a : Answer ℕ) {k : ℕ} → a ≡ gives k → valid_name name ≡ true → holds (new k) name ≡ there → ((n : List ℕ) → valid_name n ≡ true → (name ≡ n → ⊥) → holds (new k) n ≡ holds store n) → Leaving a
  accepted-leaves a {k} e v at elsewhere =
      subst Leaving (sym e)
      (λ m. changes store (new k) name there v at elsewhere m ∙ ap (λ b. cond b there (holds store m)) (sym (and-true (same_bytes name m))))

  -- its form
  left-valid : (a : Answer ℕ) {left : List ℕ} → either a new (λ n k. store) ≡ left → valid_store left ≡ true → valid_store (either a new (λ n k. store)) ≡ true
  left-valid a e v = ap valid_store e ∙ v

module _ (store : List ℕ) (valid : valid_store store ≡ true) where
  abbrev formed : StoreHeld store
  formed = store-held store valid

  module _ (caller : Caller) (name file : List ℕ) where
    abbrev kept_at : ℕ → List ℕ
    kept_at k = with_place store k (kept_place name file)

    keep-refused : {n k : ℕ} → keep_answer caller store name file ≡ refused n k → CallKeeps (keep caller name file) store
    unfolding keep_leaves
    keep-refused e =
        record {
          form = left-valid store name (some file) kept_at (keep_answer caller store name file) (ap (λ a. either a kept_at (λ n k. store)) e) valid;
          under = refused-leaves store name (some file) kept_at (keep_answer caller store name file) e;
        }

    keep-accepted : {k : ℕ} → keep_answer caller store name file ≡ gives k → CallKeeps (keep caller name file) store
    unfolding keep_leaves
    keep-accepted {k} e =
        let p = keep-passed caller store name file e in
        let v = p.named in
        let a = bench-file caller file p.accepts in
        let t = chosen store formed name v k p.place p.below in
        record {
          form = left-valid store name (some file) kept_at (keep_answer caller store name file) (ap (λ a. either a kept_at (λ n k. store)) e) (kept-form store formed name v file a k t);
          under =
              accepted-leaves store name (some file) kept_at (keep_answer caller store name file) e v (kept_under store formed name v file a k t) (kept-elsewhere store formed name v file a k t);
        }

    keep-keeps : (a : Answer ℕ) → keep_answer caller store name file ≡ a → CallKeeps (keep caller name file) store
    keep-keeps (gives k) e = keep-accepted e
    keep-keeps (refused n k) e = keep-refused e

  module _ (name : List ℕ) where
    abbrev freed-at : ℕ → List ℕ
    freed-at k = with_place store k free_place

    forget-accepted : {k : ℕ} → forget_answer store name ≡ gives k → CallKeeps (forget name) store
    unfolding forget_leaves
    forget-accepted {k} e =
        let p = forget-passed store name e in
        let v = p.named in
        record {
          form = left-valid store name none freed-at (forget_answer store name) (ap (λ a. either a freed-at (λ n k. store)) e) (freed-form store formed name v k p.place p.below);
          under = accepted-leaves store name none freed-at (forget_answer store name) e v (freed-under store formed name v k p.place p.below) (freed-elsewhere store formed name v k p.place p.below);
        }

    forget-refused : {n k : ℕ} → forget_answer store name ≡ refused n k → CallKeeps (forget name) store
    unfolding forget_leaves
    forget-refused e =
        record {
          form = left-valid store name none freed-at (forget_answer store name) (ap (λ a. either a freed-at (λ n k. store)) e) valid;
          under = refused-leaves store name none freed-at (forget_answer store name) e;
        }

    forget-keeps : (a : Answer ℕ) → forget_answer store name ≡ a → CallKeeps (forget name) store
    forget-keeps (gives k) e = forget-accepted e
    forget-keeps (refused n k) e = forget-refused e

pub every_call : EveryCall
every_call store valid (keep caller name file) = keep-keeps store valid caller name file (keep_answer caller store name file) refl
every_call store valid (return name buffer) = record { form = valid; under = λ m. refl }
every_call store valid (forget name) = forget-keeps store valid name (forget_answer store name) refl

-- ---- lists of calls

left-form : (calls : List StoreCall) (store : List ℕ) → valid_store store ≡ true → valid_store (leaves_store_all calls store) ≡ true
unfolding leaves_store_all
left-form [] store valid = valid
left-form (c ∷ cs) store valid = left-form cs (leaves_store c store) (every_call store valid c).form

left-under : (name : List ℕ) (calls : List StoreCall) (store : List ℕ) → valid_store store ≡ true → holds (leaves_store_all calls store) name ≡ last_left name calls store (holds store name)
unfolding leaves_store_all last_left
left-under name [] store valid = refl
left-under name (c ∷ cs) store valid =
    left-under name cs (leaves_store c store) (every_call store valid c).form
    ∙ ap (last_left name cs (leaves_store c store)) ((every_call store valid c).under name)

pub every-list-of-calls : EveryListOfCalls
unfolding return_answer
every-list-of-calls store valid calls =
    record {
      form = left-form calls store valid;
      under = λ name. left-under name calls store valid;
      returns =
          λ name buffer.
          ap₂ (λ t f. checked_call (t && leb most_file (length buffer)) name (held_answer f)) (left-form calls store valid) (left-under name calls store valid);
    }

-- ---- what stands under a name

-- the place that has it, in the code's words
pub found : (store name : List ℕ) → valid_name name ≡ true → (k : ℕ) → k ≡ place_of store name → k < place_count → holds store name ≡ some (file_in (place_at store k))
unfolding place_of
found store name v k e l =
    holds-is name v store
    ∙ (under-found (held name v) (places store) (subst (λ n. n < length (places store)) e (subst (λ n. k < n) (sym (places-long store)) l))).1
    ∙ ap (λ j. some (file_in (get_or (places store) j []))) (sym e)
    ∙ ap (λ p. some (file_in p)) (place_is store k l)

pub not_found : (store name : List ℕ) → valid_name name ≡ true → place_count ≤ place_of store name → holds store name ≡ none
unfolding place_of
not_found store name v l =
    holds-is name v store ∙ under_none (held name v) (places store) (omega (arith, places-long store, first-most (held name v) (places store)))

-- is occupied
pub found-occupied : (store name : List ℕ) → valid_store store ≡ true → valid_name name ≡ true → (k : ℕ) → k ≡ place_of store name → k < place_count → occupied (place_at store k) ≡ true
unfolding place_of
found-occupied store name valid v k e l =
    ap occupied (sym (ap (λ j. get_or (places store) j []) (sym e) ∙ place_is store k l))
    ∙ held-occupied (held name v) (some-letter name v) (places store) (store-held store valid).valid (subst (λ n. n < length (places store)) e (subst (λ n. k < n) (sym (places-long store)) l))

pub record Returns (store name file : List ℕ) : Type 0 where
  pub form : valid_store store ≡ true
  pub held : holds store name ≡ some file
  pub header : Header
  pub accepts : file_answer Bench file ≡ gives header

pub return-passed : (store name buffer : List ℕ) {file : List ℕ} → return_answer store name buffer ≡ gives file → Returns store name file
unfolding return_answer
return-passed store name buffer {file} e =
    let c = checked-passed (valid_store store && leb most_file (length buffer)) name (held_answer (holds store name)) e in
    let valid = (both (valid_store store) (leb most_file (length buffer)) c.0).0 in
    go valid c.1.0 (ltb (place_of store name) place_count) refl c.1.1
  where
    go : valid_store store ≡ true → valid_name name ≡ true → (t : Bool) → ltb (place_of store name) place_count ≡ t → held_answer (holds store name) ≡ gives file → Returns store name file
    go valid v true f r =
        let l = ltb-true (place_of store name) place_count f in
        let is = found store name v (place_of store name) refl l in
        let a = occupied-file (place_at store (place_of store name)) (found-occupied store name valid v (place_of store name) refl l) in
        let same : file_in (place_at store (place_of store name)) ≡ file = same-result (sym (ap held_answer is) ∙ r) in
        record { form = valid; held = is ∙ ap some same; header = a.0; accepts = subst (λ g. file_answer Bench g ≡ gives a.0) same a.1 }
    go valid v false f r = not-result (sym (ap held_answer (not_found store name v (ltb-false (place_of store name) place_count f))) ∙ r)
