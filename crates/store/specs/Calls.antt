-- Document 02, Papers 8 and 9: what keep and forget answer, by what the store holds; and over lists of keep, return and forget by any
-- callers, refused calls included: the store stays of its form, and under each name stands what the last keep or forget of that name
-- that was not refused left, or what stood there at the start.
--     HeldIsAccepted, KeepTells, ForgetTells, HasRoom, ForgetFrees    the answers, by what is held
--     empty_store, ZerosAreEmpty               a store of zeros
--     StoreCall, leaves_store                  a call, and the store that it leaves
--     leaves_under, CallKeeps, EveryCall       what one call changes: at its name alone
--     last_left, CallsKeep, EveryListOfCalls   a list of calls
-- Assumes nothing.
use Rattle.std.specs.Prelude.{◌≡◌, Bool, true, false, not, cond, ◌&&◌, List, [], ◌∷◌, ℕ, leb, eqb, length, replicate}
use Rattle.std.proofs.Math.Option.{Option, none, some}
use Rattle.refusal.specs.Refused.{refuse_if, and_then, accepted, told_of, done}
use Rattle.limits.specs.declared.Caller.{Caller}
use Rattle.limits.specs.declared.Caller.TheVariants.{Bench}
use Rattle.bath_file.specs.File.{file_answer}
use Rattle.store.specs.Names.{same_bytes}
use Rattle.store.specs.Form.{most_file, place_count, store_length, places, valid_store, held_count, holds}
use Rattle.store.specs.Operations.{checked_call, keep_answer, keep_leaves, held_answer, return_answer, forget_answer, forget_leaves}

-- ---- what a call answers, by what the store holds

abbrev pub is_held : Option (List ℕ) → Bool
is_held none = false
is_held (some file) = true

-- a file that is held is one that the bench accepts
abbrev pub HeldIsAccepted : Type 0
HeldIsAccepted = (store name file : List ℕ) → valid_store store ≡ true → holds store name ≡ some file → accepted (file_answer Bench file) ≡ true

-- after the other checks 24 comes exactly where the name is not held and no place is free, so that four others are
abbrev pub KeepTells : Type 0
KeepTells =
    (caller : Caller) (store name file : List ℕ) → told_of (keep_answer caller store name file) ≡ checked_call (valid_store store) name (and_then (file_answer caller file) (λ _. refuse_if (not (is_held (holds store name)) && eqb (held_count (places store)) place_count) 24 0 done))

-- after 1 and 22, 23 comes exactly where the name is not held
abbrev pub ForgetTells : Type 0
ForgetTells = (store name : List ℕ) → told_of (forget_answer store name) ≡ told_of (checked_call (valid_store store) name (held_answer (holds store name)))

-- a keep is refused with 1, 22 or the bath's own numbers only: 24 does not come
abbrev pub HasRoom : List ℕ → Type 0
HasRoom store =
    (caller : Caller) (name file : List ℕ) → told_of (keep_answer caller store name file) ≡ told_of (checked_call (valid_store store) name (file_answer caller file))

-- a forget makes its place usable again
abbrev pub ForgetFrees : Type 0
ForgetFrees = (store name : List ℕ) → accepted (forget_answer store name) ≡ true → HasRoom (forget_leaves store name)

-- ---- all zero is an empty store

unfoldable pub empty_store : List ℕ
empty_store = replicate store_length 0

-- of the form, with nothing under any name and room for a bath
pub record Empty (store : List ℕ) : Type 0 where
  pub form : valid_store store ≡ true
  pub nothing : (name : List ℕ) → holds store name ≡ none
  pub room : HasRoom store

abbrev pub ZerosAreEmpty : Type 0
ZerosAreEmpty = Empty empty_store

-- ---- calls

-- a call is everything that an operation is given beside the store: a name, and the file, with who keeps it, or the buffer
pub data StoreCall : Type 0 where
  keep : Caller → List ℕ → List ℕ → StoreCall
  return : List ℕ → List ℕ → StoreCall
  forget : List ℕ → StoreCall

-- the store that a call leaves
abbrev pub leaves_store : StoreCall → List ℕ → List ℕ
leaves_store (keep caller name file) store = keep_leaves caller store name file
leaves_store (return name buffer) store = store
leaves_store (forget name) store = forget_leaves store name

-- ---- one call

-- what a call leaves under a name where it found `before`: a keep of that name its file, a forget nothing, unless it is refused
abbrev pub leaves_under : List ℕ → StoreCall → List ℕ → Option (List ℕ) → Option (List ℕ)
leaves_under name (keep caller other file) store before = cond (same_bytes other name && accepted (keep_answer caller store other file)) (some file) before
leaves_under name (return other buffer) store before = before
leaves_under name (forget other) store before = cond (same_bytes other name && accepted (forget_answer store other)) none before

pub record CallKeeps (c : StoreCall) (store : List ℕ) : Type 0 where
  pub form : valid_store (leaves_store c store) ≡ true
  pub under : (name : List ℕ) → holds (leaves_store c store) name ≡ leaves_under name c store (holds store name)

abbrev pub EveryCall : Type 0
EveryCall = (store : List ℕ) → valid_store store ≡ true → (c : StoreCall) → CallKeeps c store

-- ---- lists of calls: each gets the store that the one before left

unfoldable pub leaves_store_all : List StoreCall → List ℕ → List ℕ
leaves_store_all [] store = store
leaves_store_all (c ∷ cs) store = leaves_store_all cs (leaves_store c store)

-- what the last keep or forget of a name that was not refused left, or `before` where there was none
unfoldable pub last_left : List ℕ → List StoreCall → List ℕ → Option (List ℕ) → Option (List ℕ)
last_left name [] store before = before
last_left name (c ∷ cs) store before = last_left name cs (leaves_store c store) (leaves_under name c store before)

pub record CallsKeep (calls : List StoreCall) (store : List ℕ) : Type 0 where
  pub form : valid_store (leaves_store_all calls store) ≡ true
  pub under : (name : List ℕ) → holds (leaves_store_all calls store) name ≡ last_left name calls store (holds store name)
  -- a return after them gives exactly those bytes, or 23 where nothing stands there
  pub returns : (name buffer : List ℕ) → return_answer (leaves_store_all calls store) name buffer ≡ checked_call (leb most_file (length buffer)) name (held_answer (last_left name calls store (holds store name)))

abbrev pub EveryListOfCalls : Type 0
EveryListOfCalls = (store : List ℕ) → valid_store store ≡ true → (calls : List StoreCall) → CallsKeep calls store
