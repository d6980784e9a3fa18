-- The lines as forms with numbers in their gaps, as the code puts them.
-- Assumes nothing.
use Prim.Native.Nat.{ℕ, ◌^◌, ◌<◌}
use mathlib.Core.Path.{◌≡◌, refl, sym, ap, ap₂, ◌∙◌}
use mathlib.Core.List.{List, [], ◌∷◌, map}
use lib.IntN.{ℤ, pos}
use lib.ListN.{length, get_or}
use lib.Signed.{mag}
use Rattle.std.specs.Fmt as std
use Rattle.particle.specs.declared.Particle.{Particle}
use Rattle.particle.specs.Record.{numbers}
use Rattle.totals.specs.declared.Totals.{Totals}
use Rattle.totals.specs.Totals.{sums}
use Rattle.text.specs.Decimal.{bytes_of, signed}
use Rattle.text.specs.Internal.{filled_in}
use Rattle.text.proofs.Texts.{decimal-is, all_signed}
use Rattle.report.specs.Lines.{line, refused_line, done_line, totals_line, particle_line}

-- ---- natural numbers

abbrev pub refused_form : List ℕ
refused_form = bytes_of "refused ? at ?\n"

pub refused-text : (n k : ℕ) → n < 2 ^ 64 → k < 2 ^ 64 → filled_in refused_form (map std.decimal (n ∷ k ∷ [])) ≡ refused_line n k
unfolding refused_line filled_in
refused-text n k a b = ap (filled_in refused_form) (ap₂ (λ x y. x ∷ y ∷ []) (decimal-is n a) (decimal-is k b))

abbrev pub done_form : List ℕ
done_form = bytes_of "done ? refusal ? at ?\n"

pub done-text : (c n k : ℕ) → c < 2 ^ 64 → n < 2 ^ 64 → k < 2 ^ 64 → filled_in done_form (map std.decimal (c ∷ n ∷ k ∷ [])) ≡ done_line c n k
unfolding done_line filled_in
done-text c n k a b d =
    ap (filled_in done_form)
    (ap₂ (λ x l. x ∷ l) (decimal-is c a) (ap₂ (λ x y. x ∷ y ∷ []) (decimal-is n b) (decimal-is k d)))

-- ---- integers

abbrev Small : List ℤ → Type 0
Small zs = (k : ℕ) → k < length zs → mag (get_or zs k (pos 0)) < 2 ^ 63

-- the sums by their names
abbrev pub totals_form : List ℕ
totals_form = bytes_of "mass ? px ? py ? spin ? motion ? marks ?\n"

pub totals-text : (t : Totals) {zs : List ℤ} → Small zs → zs ≡ sums t → filled_in totals_form (map std.signed_decimal zs) ≡ totals_line t
unfolding totals_line filled_in
totals-text t {zs} h e = ap (filled_in totals_form) (all_signed zs h ∙ ap (map signed) e)

-- a record's line is that of the particle's numbers
pub particle-numbers : (p : Particle) → particle_line p ≡ line (map signed (numbers p))
unfolding particle_line signed
particle-numbers p = refl

abbrev pub particle_form : List ℕ
particle_form = bytes_of "? ? ? ? ? ? ? ? ? ? ?\n"

pub particle-text : (p : Particle) {zs : List ℤ} → Small zs → zs ≡ numbers p → filled_in particle_form (map std.signed_decimal zs) ≡ particle_line p
unfolding filled_in
particle-text p {zs} h e = ap (filled_in particle_form) (all_signed zs h ∙ ap (map signed) e) ∙ sym (particle-numbers p)
