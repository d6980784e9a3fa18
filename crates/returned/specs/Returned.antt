-- Document 02, Paper 8: "identifiers, momentum and spin are measured from the bath returned to". Over lists that mix keep, return,
-- forget, step and run, on a store and on the records that step and run move: what follows a return that is not refused, up to the
-- next one, keeps to demand 3 from the bath returned to.
--     Lent, MixedCall, after, after_all    what the calls are on, and what they leave
--     no_return, motions                   calls without another return, and the step and run calls among them
--     MeasuredFrom, FromReturn            the claim
-- Assumes nothing.
use Rattle.std.specs.Prelude.{◌≡◌, Bool, true, false, not, ◌&&◌, List, [], ◌∷◌, ℕ, drop}
use Rattle.std.proofs.Math.Option.{some}
use Rattle.refusal.specs.Refused.{gives, either, accepted}
use Rattle.bath_file.specs.Layout.{header_length}
use Rattle.store.specs.Form.{valid_store, holds}
use Rattle.store.specs.Operations.{return_answer}
use Rattle.store.specs.Calls.{StoreCall, keep, return, forget, leaves_store}
use Rattle.particles.specs.Set.{particles_in}
use Rattle.simulation.specs.Demand3.{Call, leaves, leaves_all, completes_all, completed_steps, Keeps, Conserves}

-- the store and the records
pub record Lent : Type 0 where
  pub store : List ℕ
  pub records : List ℕ

pub data MixedCall : Type 0 where
  on_store : StoreCall → MixedCall
  on_records : Call → MixedCall

-- the records of a bath file lie behind its header
abbrev pub records_in : List ℕ → List ℕ
records_in file = drop header_length file

-- a return that is not refused replaces the records by those of its file
abbrev pub records_after : StoreCall → Lent → List ℕ
records_after (keep caller name file) l = l.records
records_after (return name buffer) l = either (return_answer l.store name buffer) records_in (λ n k. l.records)
records_after (forget name) l = l.records

abbrev pub after : MixedCall → Lent → Lent
after (on_store c) l = record { store = leaves_store c l.store; records = records_after c l }
after (on_records c) l = record { store = l.store; records = leaves c l.records }

unfoldable pub after_all : List MixedCall → Lent → Lent
after_all [] l = l
after_all (c ∷ cs) l = after_all cs (after c l)

-- ---- calls without a return that is not refused

abbrev pub returns : MixedCall → Lent → Bool
returns (on_store (keep caller name file)) l = false
returns (on_store (return name buffer)) l = accepted (return_answer l.store name buffer)
returns (on_store (forget name)) l = false
returns (on_records c) l = false

unfoldable pub no_return : List MixedCall → Lent → Bool
no_return [] l = true
no_return (c ∷ cs) l = not (returns c l) && no_return cs (after c l)

-- the step and run calls
unfoldable pub motions : List MixedCall → List Call
motions [] = []
motions (on_store c ∷ cs) = motions cs
motions (on_records c ∷ cs) = c ∷ motions cs

-- ---- the claim

-- `calls` follow a return, from `l`, that gave this file
pub record MeasuredFrom (l : Lent) (name file : List ℕ) (calls : List MixedCall) (left : Lent) : Type 0 where
  -- the file is what the store held under the name
  pub held : holds l.store name ≡ some file
  -- the records are what the step and run calls leave of the file's, for which demand 3 holds
  pub records : left.records ≡ leaves_all (motions calls) (records_in file)
  pub conserves : Conserves Keeps (motions calls) (records_in file)
  -- so identifiers, masses and marks of the records are the file's, and momentum and spin the file's with what gravity, drag and
  -- rim give in the completed steps, within their allowances
  pub kept : Keeps (completes_all (motions calls) (records_in file)) (completed_steps (motions calls) (records_in file)) (particles_in (records_in file)) (particles_in left.records)
  -- and the store is of its form
  pub form : valid_store left.store ≡ true

-- the store and the records after a return
abbrev pub returned_to : Lent → List ℕ → List ℕ → Lent
returned_to l name buffer = after (on_store (return name buffer)) l

-- whatever the store and the records were, and so after any calls: what follows a return that is not refused, up to the next one
abbrev pub FromReturn : Type 0
FromReturn =
    (l : Lent) (name buffer file : List ℕ) (calls : List MixedCall) → return_answer l.store name buffer ≡ gives file → no_return calls (returned_to l name buffer) ≡ true → MeasuredFrom l name file calls (after_all calls (returned_to l name buffer))
