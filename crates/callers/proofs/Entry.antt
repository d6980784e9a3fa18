-- What a caller's checks at entry answer, against the bench's.
--     Limit, after          refused with 2 or 3 at place 0; what is made of such an answer
--     within-begin, within-entry, within-set, within-keep
--                           within the caller's limits, the bench's answer: before the set, with it, with a size and a set alone, of a
--                           bath that is to be kept
--     begin-or, entry-or, set-or, file-or, keep-or
--                           the bench's answer, or 2 or 3
--     begun-within, entered-within, set-within
--                           what passes is within the caller's limits
-- Assumes nothing.
use mathlib.Core.Path.{◌≡◌, refl, sym, ap, ap₂, ◌∙◌}
use mathlib.Core.Bool.{Bool, true, false, not, ◌&&◌}
use mathlib.Core.List.{List}
use mathlib.Core.Logic.{◌⊎◌, inl, inr}
use Prim.Native.Nat.{ℕ, ◌*◌, ◌/◌}
use lib.Dec.{ltb}
use lib.ListN.{length, take}
use borrow.Author.Tests.{ltb-true, ltb-false}
use Rattle.refusal.specs.Refused.{Answer, gives, refused, refuse_if, and_then}
use Rattle.refusal.proofs.Answers.{went_on}
use Rattle.limits.specs.declared.Caller.{Caller}
use Rattle.limits.specs.declared.Caller.TheVariants.{Bench}
use Rattle.limits.specs.Limits.{most_records, most_steps, most_drag, most_side_of, most_records_of, valid_gravity, CallerLimits}
use Rattle.limits.proofs.Callers.{same-records}
use Rattle.particle.specs.declared.Particle.{Particle}
use Rattle.particle.specs.Layout.{record_length}
use Rattle.particles.specs.Set.{valid_size, valid_length, record_count, too_many, set_of, set_answer}
use Rattle.particles.proofs.Checks.{sides, same_size, bench-size}
use Rattle.settings.specs.declared.Settings.{Settings}
use Rattle.settings.specs.Settings.{still, edge_of, valid_edge}
use Rattle.entry.specs.declared.Buffers.{Buffers}
use Rattle.entry.specs.declared.Buffers.TheVariants.{None}
use Rattle.entry.specs.Checks.{are_long}
use Rattle.entry.specs.Entry.{begin_answer, entry_answer}
use Rattle.entry.proofs.Entry.{bad-size, bad-length, bad-lengths, bad-count, further, passed-checks, set-entry}
use Rattle.bath_file.specs.declared.Header.{Header}
use Rattle.bath_file.specs.Layout.{header_length}
use Rattle.bath_file.specs.File.{header_in, checked_header, header_answer, records_answer, file_answer}
use Rattle.bath_file.proofs.Checks.{checked, header-checked}
use Rattle.bath_file.proofs.Callers.{within-header}
use Rattle.store.specs.Names.{valid_name}
use Rattle.store.specs.Form.{place_count, valid_store}
use Rattle.store.specs.Operations.{checked_call, place_for, keep_answer}

-- 2 or 3 at place 0
abbrev pub Limit : {A : Type 0} → Answer A → Type 0
Limit a = (a ≡ refused 2 0) ⊎ (a ≡ refused 3 0)

-- an answer is the bench's, or refused with 2 or 3; and so is what is made of it
abbrev pub Either : {A : Type 0} → Answer A → Answer A → Type 0
Either a b = (a ≡ b) ⊎ Limit a

pub after : {A B : Type 0} {a b : Answer A} (next : A → Answer B) → Either a b → Either (and_then a next) (and_then b next)
after next (inl e) = inl (ap (λ r. and_then r next) e)
after next (inr (inl e)) = inr (inl (ap (λ r. and_then r next) e))
after next (inr (inr e)) = inr (inr (ap (λ r. and_then r next) e))

pub same_or : {A : Type 0} {a b c d : Answer A} → a ≡ c → b ≡ d → Either c d → Either a b
same_or p q (inl e) = inl (p ∙ e ∙ sym q)
same_or p q (inr (inl e)) = inr (inl (p ∙ e))
same_or p q (inr (inr e)) = inr (inr (p ∙ e))

-- behind a check that both have
pub behind : {A : Type 0} {a b : Answer A} (broken : Bool) (n k : ℕ) → Either a b → Either (refuse_if broken n k a) (refuse_if broken n k b)
behind true n k e = inl refl
behind false n k e = e

module _ (c : Caller) where
  -- ---- before the set

  module _ (s : Settings) (buffers : Buffers) (steps bytes : ℕ) where
    pub within-begin : CallerLimits c s.nx s.ny (bytes / record_length) → begin_answer c s buffers steps bytes ≡ begin_answer Bench s buffers steps bytes
    unfolding begin_answer
    within-begin w =
        ap₂ (λ size many. refuse_if (not size) 2 0 (refuse_if (not (valid_length bytes)) 1 0 (refuse_if (not (are_long (s.nx * s.ny) buffers)) 1 0 (refuse_if many 3 0 (further c s buffers steps bytes)))))
        (same_size c s.nx s.ny w.x-within w.y-within) (same-records c (bytes / record_length) w.records-within)

    abbrev Begins : Type 0
    Begins = Either (begin_answer c s buffers steps bytes) (begin_answer Bench s buffers steps bytes)

    -- by what each test says, the caller's sizes being right
    module _ (size : valid_size (most_side_of c) s.nx s.ny ≡ true) where
      wide : valid_size (most_side_of Bench) s.nx s.ny ≡ true
      wide = bench-size c s.nx s.ny size

      by_count : (b : Bool) → too_many c bytes ≡ b → valid_length bytes ≡ true → are_long (s.nx * s.ny) buffers ≡ true → Begins
      by_count true t g h = inr (inr (bad-count c s buffers steps bytes size g h (ltb-true (most_records_of c) (bytes / record_length) t)))
      by_count false t g h =
          let x = sides (most_side_of c) s.nx s.ny size in
          inl (within-begin (record { x-within = x.x-most; y-within = x.y-most; records-within = ltb-false (most_records_of c) (bytes / record_length) t }))

      by_lengths : (b : Bool) → are_long (s.nx * s.ny) buffers ≡ b → valid_length bytes ≡ true → Begins
      by_lengths false h g = inl (bad-lengths c s buffers steps bytes size g h ∙ sym (bad-lengths Bench s buffers steps bytes wide g h))
      by_lengths true h g = by_count (too_many c bytes) refl g h

      by_length : (b : Bool) → valid_length bytes ≡ b → Begins
      by_length false g = inl (bad-length c s buffers steps bytes size g ∙ sym (bad-length Bench s buffers steps bytes wide g))
      by_length true g = by_lengths (are_long (s.nx * s.ny) buffers) refl g

    by_size : (b : Bool) → valid_size (most_side_of c) s.nx s.ny ≡ b → Begins
    by_size false e = inr (inl (bad-size c s buffers steps bytes e))
    by_size true e = by_length e (valid_length bytes) refl

    pub begin-or : Begins
    begin-or = by_size (valid_size (most_side_of c) s.nx s.ny) refl

    pub begun-within : {u : Unit} → begin_answer c s buffers steps bytes ≡ gives u → CallerLimits c s.nx s.ny (bytes / record_length)
    begun-within e =
        let p = (passed-checks c s buffers steps bytes e).0 in
        let x = sides (most_side_of c) s.nx s.ny p.size in
        record { x-within = x.x-most; y-within = x.y-most; records-within = ltb-false (most_records_of c) (bytes / record_length) p.few }

  -- ---- and the set

  module _ (s : Settings) (buffers : Buffers) (steps : ℕ) (records : List ℕ) where
    pub within-entry : CallerLimits c s.nx s.ny (record_count records) → entry_answer c s buffers steps records ≡ entry_answer Bench s buffers steps records
    unfolding entry_answer
    within-entry w = ap (λ a. and_then a (λ _. set_of s.nx s.ny 0 records (record_count records))) (within-begin s buffers steps (length records) w)

    pub entry-or : Either (entry_answer c s buffers steps records) (entry_answer Bench s buffers steps records)
    unfolding entry_answer
    entry-or = after (λ _. set_of s.nx s.ny 0 records (record_count records)) (begin-or s buffers steps (length records))

    pub entered-within : {ps : List Particle} → entry_answer c s buffers steps records ≡ gives ps → CallerLimits c s.nx s.ny (record_count records)
    unfolding entry_answer
    entered-within e = begun-within s buffers steps (length records) (went_on (begin_answer c s buffers steps (length records)) _ e).1

  module _ (nx ny : ℕ) (records : List ℕ) where
    pub set-within : {ps : List Particle} → set_answer c nx ny records ≡ gives ps → CallerLimits c nx ny (record_count records)
    set-within e = entered-within (still nx ny) None 0 records (set-entry c nx ny records ∙ e)

    pub within-set : CallerLimits c nx ny (record_count records) → set_answer c nx ny records ≡ set_answer Bench nx ny records
    within-set w = sym (set-entry c nx ny records) ∙ within-entry (still nx ny) None 0 records w ∙ set-entry Bench nx ny records

    pub set-or : Either (set_answer c nx ny records) (set_answer Bench nx ny records)
    set-or = same_or (sym (set-entry c nx ny records)) (sym (set-entry Bench nx ny records)) (entry-or (still nx ny) None 0 records)

  -- ---- files

  module _ {A : Type 0} (h : Header) (rest : Answer A) where
    header-or : Either (checked_header c h rest) (checked_header Bench h rest)
    header-or = by_size (valid_size (most_side_of c) h.nx h.ny) refl
      where
        -- too many records, and what the other checks say
        many : (g e d m t : Bool) → Either (checked true g e d true t rest) (checked true g e d m t rest)
        many false e d m t = inl refl
        many true false d m t = inl refl
        many true true true m t = inl refl
        many true true false m t = inr (inr refl)

        by_count : valid_size (most_side_of c) h.nx h.ny ≡ true → (b : Bool) → ltb (most_records_of c) h.count ≡ b → Either (checked_header c h rest) (checked_header Bench h rest)
        by_count e true t =
            same_or (header-checked c h rest e refl refl refl t refl)
            (header-checked Bench h rest (bench-size c h.nx h.ny e) refl refl refl refl refl)
            (many (valid_gravity h.gx && valid_gravity h.gy) (valid_edge (edge_of h.kind h.width)) (ltb most_drag h.drag) (ltb most_records h.count) (ltb most_steps h.steps))
        by_count e false t =
            let x = sides (most_side_of c) h.nx h.ny e in
            inl (within-header c h rest (record { x-within = x.x-most; y-within = x.y-most; records-within = ltb-false (most_records_of c) h.count t }))

        by_size : (b : Bool) → valid_size (most_side_of c) h.nx h.ny ≡ b → Either (checked_header c h rest) (checked_header Bench h rest)
        by_size false e = inr (inl (header-checked c h rest e refl refl refl refl refl))
        by_size true e = by_count e (ltb (most_records_of c) h.count) refl

  pub file-or : (bytes : List ℕ) → Either (file_answer c bytes) (file_answer Bench bytes)
  unfolding header_answer
  file-or bytes =
      after (λ h. records_answer h bytes)
      (behind (ltb (length bytes) header_length) 1 0 (header-or (header_in (take header_length bytes)) _))

  module _ (store name file : List ℕ) where
    abbrev last_check : Header → Answer ℕ
    last_check h = refuse_if (not (ltb (place_for store name) place_count)) 24 0 (gives (place_for store name))

    pub within-keep : file_answer c file ≡ file_answer Bench file → keep_answer c store name file ≡ keep_answer Bench store name file
    unfolding keep_answer
    within-keep e = ap (λ a. checked_call (valid_store store) name (and_then a last_check)) e

    pub keep-or : Either (keep_answer c store name file) (keep_answer Bench store name file)
    unfolding keep_answer checked_call
    keep-or = behind (not (valid_store store)) 1 0 (behind (not (valid_name name)) 22 0 (after last_check (file-or file)))
