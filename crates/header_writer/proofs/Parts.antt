-- The bytes that hold a header, from the parts of its fields: a signed field's is its residue, and no spare bit is set.
-- Assumes nothing.
use Prim.Native.Nat.{ℕ}
use mathlib.Core.Path.{◌≡◌, ap, ◌∙◌}
use mathlib.Core.List.{List, [], ◌∷◌}
use Rattle.bits.specs.Bits.{residue}
use Rattle.bits.specs.Layout.{filled}
use Rattle.bath_file.specs.declared.Header.{Header}
use Rattle.bath_file.specs.Layout.{layout}
use Rattle.bath_file.specs.File.{header_of}

module _ (h : Header) {gx gy : ℕ} {bytes : List ℕ} (put : bytes ≡ filled layout (h.nx ∷ h.ny ∷ gx ∷ gy ∷ h.count ∷ h.steps ∷ 0 ∷ h.kind ∷ h.width ∷ h.drag ∷ 0 ∷ [])) where
  pub header-of-parts : gx ≡ residue 16384 h.gx → gy ≡ residue 16384 h.gy → bytes ≡ header_of h
  unfolding header_of
  header-of-parts ex ey = put ∙ ap (filled layout) (λ i. h.nx ∷ h.ny ∷ ex i ∷ ey i ∷ h.count ∷ h.steps ∷ 0 ∷ h.kind ∷ h.width ∷ h.drag ∷ 0 ∷ [])
