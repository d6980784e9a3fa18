-- What the operations promise, way by way.
--     keep-begun, keep-bath, keep-placed                             keep
--     return-begun, return-nothing, return-file                      return
--     forget-begun, forget-nothing, forget-place                     forget
--     had, lacked                            what is asked of a place that is looked for
-- Assumes nothing.
use mathlib.Core.Path.{◌≡◌, refl, sym, ap, ap₂, subst, ◌∙◌}
use mathlib.Core.Bool.{Bool, not, ◌&&◌}
use mathlib.Core.List.{List, ◌++◌}
use Prim.Native.Nat.{ℕ, ◌≤◌}
use native.Mathlib.Omega.{arith}
use borrow.Author.Tests.{le-leb}
use lib.Dec.{leb, ltb}
use lib.ListN.{length, drop}
use Rattle.std.specs.Prelude.{Option, Some, None, Ok, Err}
use Rattle.std.specs.Option.{ok_or}
use Rattle.refusal.specs.declared.Refusal.{Refusal}
use Rattle.refusal.specs.Refused.{Answer, gives, refused, refuse_if, and_then, either, told_of, done, Leaves}
use Rattle.refusal.proofs.Answers.{refused-leaves}
use Rattle.limits.specs.declared.Caller.{Caller}
use Rattle.bath_file.specs.declared.Header.{Header}
use Rattle.bath_file.specs.File.{file_answer}
use Rattle.store.specs.Form.{most_file, place_count, file_in, place_at, valid_store, place_of, holds}
use Rattle.store.specs.Operations.{checked_call, with_place, kept_place, keep_answer, keep_leaves, held_answer, return_answer, return_leaves, free_place, forget_answer, forget_leaves, length_of, KeepIs, ReturnIs, ForgetIs}
use Rattle.store.specs.Internal.{Found, Begun, KeepsAt}
use Rattle.store.proofs.Answers.{good-call, refused-call, is-there, is-not, last, keep-own, keep-last}
use Rattle.store.proofs.Calls.{found, not_found}

-- ---- keep

abbrev new : List ℕ → List ℕ → List ℕ → ℕ → List ℕ
new store name file k = with_place store k (kept_place name file)

module _ (caller : Caller) (store name file : List ℕ) where
  keep-by : {a : Answer ℕ} {told : Answer Unit} {left : List ℕ} → keep_answer caller store name file ≡ a → Leaves a (new store name file) store told left → KeepIs caller store name file told left
  unfolding keep_leaves
  keep-by e l = record { answer = l.answer ∙ ap told_of (sym e); store_is = l.left_is ∙ ap (λ a. either a (new store name file) (λ n k. store)) (sym e) }

  pub keep-begun : {n k : ℕ} → checked_call (valid_store store) name done ≡ refused n k → KeepIs caller store name file (refused n k) store
  unfolding keep_answer
  keep-begun e = keep-by (refused-call (valid_store store) name (and_then (file_answer caller file) (λ _. last store name)) e) (refused-leaves refl)

  module _ (b : Begun store name) where
    pub keep-bath : {n k : ℕ} → file_answer caller file ≡ refused n k → KeepIs caller store name file (refused n k) store
    keep-bath f = keep-by (keep-own caller store name file b.form b.named f) (refused-leaves refl)

    pub keep-placed : {h : Header} {told : Answer Unit} {left : List ℕ} → file_answer caller file ≡ gives h → KeepsAt store name file told left → KeepIs caller store name file told left
    keep-placed f l = keep-by (keep-last caller store name file b.form b.named f) l

-- ---- return

module _ (store name buffer : List ℕ) where
  abbrev front : List ℕ → List ℕ
  front file = file ++ drop (length file) buffer

  return-by : (a : Answer (List ℕ)) → return_answer store name buffer ≡ a → ReturnIs store name buffer (length_of a) (either a front (λ n k. buffer))
  unfolding return_leaves
  return-by a e = record { answer = ap length_of (sym e); buffer-is = ap (λ a. either a front (λ n k. buffer)) (sym e) }

  abbrev lent : Bool
  lent = valid_store store && leb most_file (length buffer)

  pub return-begun : {n k : ℕ} → checked_call lent name done ≡ refused n k → ReturnIs store name buffer (refused n k) buffer
  unfolding return_answer
  return-begun {n} {k} e = return-by (refused n k) (refused-call lent name (held_answer (holds store name)) e)

  module _ (b : Begun store name) (room : most_file ≤ length buffer) where
    found-is : return_answer store name buffer ≡ held_answer (holds store name)
    unfolding return_answer
    found-is = good-call lent name (held_answer (holds store name)) (ap₂ ◌&&◌ b.form (le-leb most_file (length buffer) room)) b.named

    pub return-nothing : Found (place_of store name) None → ReturnIs store name buffer (refused 23 0) buffer
    return-nothing f = return-by (refused 23 0) (found-is ∙ ap held_answer (not_found store name b.named (omega (arith, f))))

    pub return-file : (k : ℕ) → Found (place_of store name) (Some k) → ReturnIs store name buffer (gives (length (file_in (place_at store k)))) (front (file_in (place_at store k)))
    return-file k f = return-by (gives (file_in (place_at store k))) (found-is ∙ ap held_answer (found store name b.named k f.0 f.1))

-- ---- forget

module _ (store name : List ℕ) where
  forget-by : (a : Answer ℕ) → forget_answer store name ≡ a → ForgetIs store name (told_of a) (either a (λ k. with_place store k free_place) (λ n k. store))
  unfolding forget_leaves
  forget-by a e = record { answer = ap told_of (sym e); store_is = ap (λ a. either a (λ k. with_place store k free_place) (λ n k. store)) (sym e) }

  abbrev place : Answer ℕ
  place = refuse_if (not (ltb (place_of store name) place_count)) 23 0 (gives (place_of store name))

  pub forget-begun : {n k : ℕ} → checked_call (valid_store store) name done ≡ refused n k → ForgetIs store name (refused n k) store
  unfolding forget_answer
  forget-begun {n} {k} e = forget-by (refused n k) (refused-call (valid_store store) name place e)

  module _ (b : Begun store name) where
    place_is : forget_answer store name ≡ place
    unfolding forget_answer
    place_is = good-call (valid_store store) name place b.form b.named

    pub forget-nothing : Found (place_of store name) None → ForgetIs store name (refused 23 0) store
    forget-nothing f = forget-by (refused 23 0) (place_is ∙ is-not 23 (place_of store name) (omega (arith, f)))

    pub forget-place : (k : ℕ) → Found (place_of store name) (Some k) → ForgetIs store name done (with_place store k free_place)
    forget-place k f = forget-by (gives k) (place_is ∙ is-there 23 (place_of store name) (omega (arith, f.0, f.1)) ∙ ap gives (sym f.0))

-- ---- a place that is looked for and asked for

module _ {n : ℕ} where
  pub had : (o : Option ℕ) (r : Refusal) {k : ℕ} → Found n o → Ok k ≡ ok_or o r → Found n (Some k)
  had None r f e = absurd (cc)
  had (Some j) r {k} f e = let same : k ≡ j = cc in subst (λ k. Found n (Some k)) (sym same) f

  pub lacked : (o : Option ℕ) (r : Refusal) {e : Refusal} → Found n o → Err e ≡ ok_or o r → Found n None × (e ≡ r)
  lacked None r f e = (f, cc)
  lacked (Some k) r f e = absurd (cc)
