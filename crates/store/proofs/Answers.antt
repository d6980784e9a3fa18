-- What the operations answer, way by way, and what a result says.
--     bad-buffers, bad-name, good-call    the checks that every call begins with
--     refused-call, checked-passed        a call that they refuse, whatever follows, and one that passed them
--     begun, begun-form                   what is told of these checks, and a store and a name that passed them
--     is-there, is-not                    a place below 4, and none
--     keep-own, keep-last, keep-passed    keep: the bath's own checks come before 24
--     forget-passed                       forget
-- Assumes nothing.
use mathlib.Core.Path.{◌≡◌, sym, ap, ap₂, subst, ◌∙◌}
use mathlib.Core.Bool.{Bool, true, false, not}
use mathlib.Core.List.{List}
use Prim.Native.Nat.{ℕ, ◌≤◌, ◌<◌}
use borrow.Author.Tests.{ltb-true, lt-ltb, le-ltb, not-false}
use lib.Dec.{ltb}
use Rattle.refusal.specs.Refused.{Answer, gives, refused, refuse_if, and_then, done}
use Rattle.refusal.proofs.Answers.{passed, went_on, same-result, same-refusal, not-refused}
use Rattle.limits.specs.declared.Caller.{Caller}
use Rattle.bath_file.specs.declared.Header.{Header}
use Rattle.bath_file.specs.File.{file_answer}
use Rattle.store.specs.Names.{valid_name}
use Rattle.store.specs.Form.{place_count, valid_store, place_of}
use Rattle.store.specs.Operations.{checked_call, place_for, keep_answer, forget_answer}
use Rattle.store.specs.Internal.{Begun}

-- ---- the checks that every call begins with

module _ {A : Type 0} (valid : Bool) (name : List ℕ) (rest : Answer A) where
  pub bad-buffers : valid ≡ false → checked_call valid name rest ≡ refused 1 0
  unfolding checked_call
  bad-buffers e = ap (λ t. refuse_if (not t) 1 0 (refuse_if (not (valid_name name)) 22 0 rest)) e

  pub bad-name : valid ≡ true → valid_name name ≡ false → checked_call valid name rest ≡ refused 22 0
  unfolding checked_call
  bad-name e f = ap₂ (λ t u. refuse_if (not t) 1 0 (refuse_if (not u) 22 0 rest)) e f

  pub good-call : valid ≡ true → valid_name name ≡ true → checked_call valid name rest ≡ rest
  unfolding checked_call
  good-call e f = ap₂ (λ t u. refuse_if (not t) 1 0 (refuse_if (not u) 22 0 rest)) e f

  pub checked-passed : {a : A} → checked_call valid name rest ≡ gives a → (valid ≡ true) × ((valid_name name ≡ true) × (rest ≡ gives a))
  unfolding checked_call
  checked-passed e =
      let f = passed (not valid) 1 0 _ e in
      let n = passed (not (valid_name name)) 22 0 rest f.1 in
      (not-false valid f.0, (not-false (valid_name name) n.0, n.1))

  pub refused-call : {n k : ℕ} → checked_call valid name done ≡ refused n k → checked_call valid name rest ≡ refused n k
  unfolding checked_call
  refused-call {n} {k} e = go valid (valid_name name) e
    where
      go : (t u : Bool) → refuse_if (not t) 1 0 (refuse_if (not u) 22 0 done) ≡ refused n k → refuse_if (not t) 1 0 (refuse_if (not u) 22 0 rest) ≡ refused n k
      go true true e = not-refused e
      go true false e = same-refusal e
      go false u e = same-refusal e

-- what is told of the checks, where the code's test of the buffers is this one
pub begun : (name : List ℕ) {valid test : Bool} {told a : Answer Unit} → test ≡ valid → told ≡ checked_call test name done → told ≡ a → checked_call valid name done ≡ a
begun name p q r = ap (λ t. checked_call t name done) (sym p) ∙ sym q ∙ r

pub begun-form : (store name : List ℕ) → checked_call (valid_store store) name done ≡ done → Begun store name
begun-form store name e = let c = checked-passed (valid_store store) name done e in record { form = c.0; named = c.1.0 }

-- ---- a place, which is told with this number where it is none

module _ (n k : ℕ) where
  pub is-there : k < place_count → refuse_if (not (ltb k place_count)) n 0 (gives k) ≡ gives k
  is-there l = ap (λ t. refuse_if (not t) n 0 (gives k)) (lt-ltb k place_count l)

  pub is-not : place_count ≤ k → refuse_if (not (ltb k place_count)) n 0 (gives k) ≡ refused n 0
  is-not l = ap (λ t. refuse_if (not t) n 0 (gives k)) (le-ltb k place_count l)

  place-passed : {j : ℕ} → refuse_if (not (ltb k place_count)) n 0 (gives k) ≡ gives j → (k ≡ j) × (j < place_count)
  place-passed e =
      let p = passed (not (ltb k place_count)) n 0 (gives k) e in
      let is = same-result p.1 in
      (is, subst (λ m. m < place_count) is (ltb-true k place_count (not-false (ltb k place_count) p.0)))

-- ---- keep

abbrev pub last : List ℕ → List ℕ → Answer ℕ
last store name = refuse_if (not (ltb (place_for store name) place_count)) 24 0 (gives (place_for store name))

module _ (caller : Caller) (store name file : List ℕ) where
  abbrev own : Answer ℕ
  own = and_then (file_answer caller file) (λ _. last store name)

  module _ (v : valid_store store ≡ true) (n : valid_name name ≡ true) where
    pub keep-own : {m k : ℕ} → file_answer caller file ≡ refused m k → keep_answer caller store name file ≡ refused m k
    unfolding keep_answer
    keep-own f = good-call (valid_store store) name own v n ∙ ap (λ a. and_then a (λ _. last store name)) f

    pub keep-last : {h : Header} → file_answer caller file ≡ gives h → keep_answer caller store name file ≡ last store name
    unfolding keep_answer
    keep-last f = good-call (valid_store store) name own v n ∙ ap (λ a. and_then a (λ _. last store name)) f

  pub record KeepPassed (k : ℕ) : Type 0 where
    pub named : valid_name name ≡ true
    pub header : Header
    pub accepts : file_answer caller file ≡ gives header
    pub place : place_for store name ≡ k
    pub below : k < place_count

  pub keep-passed : {k : ℕ} → keep_answer caller store name file ≡ gives k → KeepPassed k
  unfolding keep_answer
  keep-passed e =
      let c = checked-passed (valid_store store) name own e in
      let w = went_on (file_answer caller file) (λ _. last store name) c.1.1 in
      let p = place-passed 24 (place_for store name) w.2 in
      record { named = c.1.0; header = w.0; accepts = w.1; place = p.0; below = p.1 }

-- ---- forget

module _ (store name : List ℕ) where
  abbrev at_name : Answer ℕ
  at_name = refuse_if (not (ltb (place_of store name) place_count)) 23 0 (gives (place_of store name))

  pub record ForgetPassed (k : ℕ) : Type 0 where
    pub form : valid_store store ≡ true
    pub named : valid_name name ≡ true
    pub place : place_of store name ≡ k
    pub below : k < place_count

  pub forget-passed : {k : ℕ} → forget_answer store name ≡ gives k → ForgetPassed k
  unfolding forget_answer
  forget-passed e =
      let c = checked-passed (valid_store store) name at_name e in
      let p = place-passed 23 (place_of store name) c.1.1 in
      record { form = c.0; named = c.1.0; place = p.0; below = p.1 }
