-- Document 02, Papers 8 and 9: keep, return and forget. What each answers for any name and any buffers, and what it leaves in the
-- store and in the buffer: a refused call changes nothing. Assumes nothing.
use Rattle.std.specs.Prelude.{◌≡◌, Bool, not, cond, ◌&&◌, List, [], ◌++◌, ℕ, ◌*◌, leb, ltb, length, drop}
use Rattle.std.proofs.Math.Option.{Option, none, some}
use Rattle.arith.specs.Lists.{placed}
use Rattle.refusal.specs.Refused.{Answer, gives, refused, refuse_if, and_then, either, told_of}
use Rattle.limits.specs.declared.Caller.{Caller}
use Rattle.bath_file.specs.File.{file_answer}
use Rattle.store.specs.Names.{name_length, padded, valid_name}
use Rattle.store.specs.Form.{most_file, place_length, place_count, valid_store, place_of, holds}

-- 1 where the buffers are not as they must be, 22 a malformed name, and then the rest of a list
unfoldable pub checked_call : {A : Type 0} → Bool → List ℕ → Answer A → Answer A
checked_call valid name rest = refuse_if (not valid) 1 0 (refuse_if (not (valid_name name)) 22 0 rest)

-- a store with another place k
abbrev pub with_place : List ℕ → ℕ → List ℕ → List ℕ
with_place store k place = placed store (place_length * k) place

-- ---- keep

-- the place that a bath takes: the one that has its name, or else the lowest without a name, which is free; 4 where there is none
unfoldable pub place_for : List ℕ → List ℕ → ℕ
place_for store name = cond (ltb (place_of store name) place_count) (place_of store name) (place_of store [])

-- a name, and a file behind it
unfoldable pub kept_place : List ℕ → List ℕ → List ℕ
kept_place name file = padded name_length name ++ padded most_file file

-- 1; 22; the bath's own checks, by the caller's limits; 24 four other names are held; the result is the place
unfoldable pub keep_answer : Caller → List ℕ → List ℕ → List ℕ → Answer ℕ
keep_answer caller store name file =
    checked_call (valid_store store) name
    (and_then (file_answer caller file)
    (λ _. refuse_if (not (ltb (place_for store name) place_count)) 24 0 (gives (place_for store name))))

unfoldable pub keep_leaves : Caller → List ℕ → List ℕ → List ℕ → List ℕ
keep_leaves caller store name file =
    either (keep_answer caller store name file) (λ k. with_place store k (kept_place name file)) (λ n k. store)

-- ---- return

-- 23 the name is not held
abbrev pub held_answer : Option (List ℕ) → Answer (List ℕ)
held_answer none = refused 23 0
held_answer (some file) = gives file

-- 1, also where the buffer is shorter than the longest file; 22; 23; the result is the file
unfoldable pub return_answer : List ℕ → List ℕ → List ℕ → Answer (List ℕ)
return_answer store name buffer =
    checked_call (valid_store store && leb most_file (length buffer)) name (held_answer (holds store name))

-- the file at the buffer's front, and the rest as it was
unfoldable pub return_leaves : List ℕ → List ℕ → List ℕ → List ℕ
return_leaves store name buffer =
    either (return_answer store name buffer) (λ file. file ++ drop (length file) buffer) (λ n k. buffer)

-- ---- forget

-- every byte zero
unfoldable pub free_place : List ℕ
free_place = padded place_length []

-- 1; 22; 23; the result is the place
unfoldable pub forget_answer : List ℕ → List ℕ → Answer ℕ
forget_answer store name =
    checked_call (valid_store store) name (refuse_if (not (ltb (place_of store name) place_count)) 23 0 (gives (place_of store name)))

unfoldable pub forget_leaves : List ℕ → List ℕ → List ℕ
forget_leaves store name = either (forget_answer store name) (λ k. with_place store k free_place) (λ n k. store)

-- ---- what the functions answer

abbrev pub length_of : Answer (List ℕ) → Answer ℕ
length_of a = and_then a (λ file. gives (length file))

-- ---- the promises: what is told, and what is left

pub record KeepIs (caller : Caller) (store name file : List ℕ) (told : Answer Unit) (left : List ℕ) : Type 0 where
  pub answer : told ≡ told_of (keep_answer caller store name file)
  pub store_is : left ≡ keep_leaves caller store name file

pub record ReturnIs (store name buffer : List ℕ) (told : Answer ℕ) (left : List ℕ) : Type 0 where
  pub answer : told ≡ length_of (return_answer store name buffer)
  pub buffer-is : left ≡ return_leaves store name buffer

pub record ForgetIs (store name : List ℕ) (told : Answer Unit) (left : List ℕ) : Type 0 where
  pub answer : told ≡ told_of (forget_answer store name)
  pub store_is : left ≡ forget_leaves store name
