-- Headers and files within a caller's limits: the caller's answer is the bench's.
--     within-header, within-file     refused or not
--     file-within                    a file that the caller accepts is within its limits
--     bench-header, bench-file       and the bench accepts it
-- Assumes nothing.
use Prim.Native.Nat.{ℕ}
use mathlib.Core.Path.{◌≡◌, refl, sym, ap, subst, ◌∙◌}
use mathlib.Core.List.{List}
use lib.Dec.{ltb}
use lib.ListN.{length, take}
use Rattle.refusal.specs.Refused.{Answer, gives, refuse_if, and_then}
use Rattle.refusal.proofs.Answers.{went_on}
use Rattle.limits.specs.declared.Caller.{Caller}
use Rattle.limits.specs.declared.Caller.TheVariants.{Bench}
use Rattle.limits.specs.Limits.{most_side_of, CallerLimits}
use Rattle.limits.proofs.Callers.{same-records}
use Rattle.particles.proofs.Checks.{sides, same_size}
use Rattle.bath_file.specs.declared.Header.{Header}
use Rattle.bath_file.specs.Layout.{header_length}
use Rattle.bath_file.specs.File.{header_in, checked_header, header_answer, records_answer, file_answer}
use Rattle.bath_file.proofs.Checks.{header-checked}
use Rattle.bath_file.proofs.Answers.{header-held}

module _ (c : Caller) where
  abbrev Within : Header → Type 0
  Within h = CallerLimits c h.nx h.ny h.count

  module _ {A : Type 0} (h : Header) (rest : Answer A) (w : Within h) where
    pub within-header : checked_header c h rest ≡ checked_header Bench h rest
    within-header =
        header-checked c h rest (same_size c h.nx h.ny w.x-within w.y-within) refl refl refl (same-records c h.count w.records-within) refl ∙ sym (header-checked Bench h rest refl refl refl refl refl refl)

  module _ (bytes : List ℕ) where
    abbrev first : Header
    first = header_in (take header_length bytes)

    within_first : Within first → header_answer c bytes ≡ header_answer Bench bytes
    unfolding header_answer
    within_first w = ap (refuse_if (ltb (length bytes) header_length) 1 0) (within-header first _ w)

    pub within-file : Within first → file_answer c bytes ≡ file_answer Bench bytes
    within-file w = ap (λ a. and_then a (λ h. records_answer h bytes)) (within_first w)

    accepted-first : {h : Header} → header_answer c bytes ≡ gives h → Within first
    accepted-first {h} e =
        let f = header-held c bytes e in
        let s = sides (most_side_of c) h.nx h.ny f.valid.size in
        subst Within (sym f.holds)
        (record { x-within = s.x-most; y-within = s.y-most; records-within = f.valid.count-to })

    pub bench-header : {h : Header} → header_answer c bytes ≡ gives h → header_answer Bench bytes ≡ gives h
    bench-header e = sym (within_first (accepted-first e)) ∙ e

    pub file-within : {h : Header} → file_answer c bytes ≡ gives h → Within first
    file-within e = accepted-first (went_on (header_answer c bytes) (λ h. records_answer h bytes) e).1

    pub bench-file : {h : Header} → file_answer c bytes ≡ gives h → file_answer Bench bytes ≡ gives h
    bench-file e = sym (within-file (file-within e)) ∙ e
