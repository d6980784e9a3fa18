-- The answers of reading a file and of writing a header, way by way, and what an accepted header says.
--     too_short, header-..      the header's checks
--     HeaderHeld, header-held   what an accepted header says of the file
--     drag-of-file              a file's drag is in range, whatever its bytes
--     wrong-records, right-records, records-..   the checks of the records
--     after, long, judged, allowed   the answer of a write, and the buffer that goes with it
-- Assumes nothing.
use Prim.Native.Nat.{ℕ, ◌+◌, ◌*◌, ◌≤◌, ◌<◌}
use mathlib.Core.Path.{◌≡◌, ap, subst, ◌∙◌}
use mathlib.Core.Bool.{true, false, not}
use mathlib.Core.List.{List}
use native.Mathlib.Omega.{arith}
use borrow.Author.Tests.{lt-ltb, le-ltb, ltb-false, not-false}
use lib.Dec.{ltb}
use lib.ListN.{length, take}
use Rattle.refusal.specs.Refused.{Answer, gives, refused, refuse_if, and_then, kept_unless}
use Rattle.refusal.proofs.Answers.{passed, went_on, same-result, same-refusal, not-refused, wrong-length, right-length, length-passed}
use Rattle.limits.specs.declared.Caller.{Caller}
use Rattle.limits.specs.declared.Caller.TheVariants.{Bench}
use Rattle.particle.specs.Layout.{record_length}
use Rattle.particles.specs.Set.{set_of}
use Rattle.particles.specs.Walk.{counted}
use Rattle.bath_file.specs.declared.Header.{Header}
use Rattle.bath_file.specs.Layout.{header_length}
use Rattle.bath_file.specs.File.{header_in, header_of, checked_header, spare_is_zero, header_answer, DragOfFile, records_answer, write_answer, written}
use Rattle.bath_file.proofs.Checks.{Valid, valid, passes, refuses}

-- ---- the header

module _ (caller : Caller) (bytes : List ℕ) where
  abbrev first : List ℕ
  first = take header_length bytes

  abbrev after_values : Answer Header
  after_values = refuse_if (not (spare_is_zero first)) 16 0 (gives (header_in first))

  pub too_short : length bytes < header_length → header_answer caller bytes ≡ refused 1 0
  unfolding header_answer
  too_short h = rw (lt-ltb (length bytes) header_length h)

  long-enough : header_length ≤ length bytes → header_answer caller bytes ≡ checked_header caller (header_in first) after_values
  unfolding header_answer
  long-enough h = rw (le-ltb (length bytes) header_length h)

  -- the code checks the values by themselves
  abbrev Checked : Answer Header → Type 0
  Checked a = checked_header caller (header_in first) (gives (header_in first)) ≡ a

  pub header_refused : header_length ≤ length bytes → {n k : ℕ} → Checked (refused n k) → header_answer caller bytes ≡ refused n k
  header_refused h e = long-enough h ∙ refuses caller (header_in first) (header_in first) after_values e

  spare-decides : header_length ≤ length bytes → {g : Header} → Checked (gives g) → header_answer caller bytes ≡ after_values
  spare-decides h e = long-enough h ∙ passes caller (header_in first) after_values (valid caller (header_in first) (gives (header_in first)) e).0

  pub header-spare : header_length ≤ length bytes → {g : Header} → Checked (gives g) → spare_is_zero first ≡ false → header_answer caller bytes ≡ refused 16 0
  header-spare h e s = spare-decides h e ∙ ap (λ b. refuse_if (not b) 16 0 (gives (header_in first))) s

  pub header-accepted : header_length ≤ length bytes → {g : Header} → Checked (gives g) → spare_is_zero first ≡ true → header_answer caller bytes ≡ gives g
  header-accepted h e s =
      spare-decides h e
      ∙ ap (λ b. refuse_if (not b) 16 0 (gives (header_in first))) s
      ∙ (valid caller (header_in first) (gives (header_in first)) e).1

  pub record HeaderHeld (h : Header) : Type 0 where
    pub long : header_length ≤ length bytes
    pub holds : header_in first ≡ h
    pub valid : Valid caller h
    pub spare : spare_is_zero first ≡ true

  pub header-held : {h : Header} → header_answer caller bytes ≡ gives h → HeaderHeld h
  unfolding header_answer
  header-held e =
      let l = passed (ltb (length bytes) header_length) 1 0 _ e in
      let v = valid caller (header_in first) after_values l.1 in
      let s = passed (not (spare_is_zero first)) 16 0 _ v.1 in
      record {
        long = ltb-false (length bytes) header_length l.0;
        holds = same-result s.1;
        valid = subst (Valid caller) (same-result s.1) v.0;
        spare = not-false (spare_is_zero first) s.0;
      }

pub drag-of-file : DragOfFile
unfolding header_in
drag-of-file bytes = omega arith

-- ---- the records

module _ (h : Header) (bytes : List ℕ) where
  abbrev file_length : ℕ
  file_length = header_length + record_length * h.count

  abbrev set : Answer Header
  set = and_then (set_of h.nx h.ny header_length bytes h.count) (λ _. gives h)

  pub wrong-records : (length bytes ≡ file_length → ⊥) → records_answer h bytes ≡ refused 1 0
  unfolding records_answer
  wrong-records n = wrong-length (length bytes) file_length _ n

  pub right-records : length bytes ≡ file_length → records_answer h bytes ≡ set
  unfolding records_answer
  right-records n = right-length (length bytes) file_length _ n

  pub records-passed : {g : Header} → records_answer h bytes ≡ gives g → (length bytes ≡ file_length) × (set ≡ gives g)
  unfolding records_answer
  records-passed e = length-passed (length bytes) file_length _ e

  pub records-accepted : length bytes ≡ file_length → {m : ℕ} → counted h.nx h.ny header_length bytes h.count ≡ gives m → records_answer h bytes ≡ gives h
  records-accepted n e =
      let w = went_on (set_of h.nx h.ny header_length bytes h.count) _ e in
      right-records n ∙ ap (λ a. and_then a (λ _. gives h)) w.1

  pub records-refused : length bytes ≡ file_length → {n k : ℕ} → counted h.nx h.ny header_length bytes h.count ≡ refused n k → records_answer h bytes ≡ refused n k
  records-refused n e = right-records n ∙ go (set_of h.nx h.ny header_length bytes h.count) length e
    where
      go : {A B : Type 0} (a : Answer A) (f : A → B) {n k : ℕ} → and_then a (λ x. gives (f x)) ≡ refused n k → and_then a (λ _. gives h) ≡ refused n k
      go (gives x) f e = not-refused e
      go (refused m j) f e = same-refusal e

-- ---- writing

module _ (h : Header) (bytes : List ℕ) where
  -- the buffer follows from the answer
  pub after : {a : Answer Unit} → write_answer h bytes ≡ a → written h bytes ≡ kept_unless a (header_of h) bytes
  unfolding written
  after e = ap (λ a. kept_unless a (header_of h) bytes) e

  pub long : (length bytes ≡ header_length → ⊥) → write_answer h bytes ≡ refused 1 0
  unfolding write_answer
  long n = wrong-length (length bytes) header_length _ n

  judged : length bytes ≡ header_length → write_answer h bytes ≡ checked_header Bench h (gives tt)
  unfolding write_answer
  judged n = right-length (length bytes) header_length _ n

  pub write-refused : length bytes ≡ header_length → {n k : ℕ} → checked_header Bench h (gives h) ≡ refused n k → write_answer h bytes ≡ refused n k
  write-refused n e = judged n ∙ refuses Bench h h (gives tt) e

  pub write-accepted : length bytes ≡ header_length → Valid Bench h → write_answer h bytes ≡ gives tt
  write-accepted n v = judged n ∙ passes Bench h (gives tt) v

  pub allowed : write_answer h bytes ≡ gives tt → (length bytes ≡ header_length) × Valid Bench h
  unfolding write_answer
  allowed e =
      let l = length-passed (length bytes) header_length _ e in
      (l.0, (valid Bench h (gives tt) l.1).0)
