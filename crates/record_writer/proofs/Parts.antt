-- The record that holds a particle, from the parts of its fields: a signed field's is its residue. Assumes nothing.
use Prim.Native.Nat.{ℕ}
use mathlib.Core.Path.{◌≡◌, ap, ◌∙◌}
use mathlib.Core.List.{List, [], ◌∷◌}
use Rattle.bits.specs.Bits.{residue}
use Rattle.bits.specs.Layout.{filled}
use Rattle.particle.specs.declared.Particle.{Particle}
use Rattle.particle.specs.Layout.{layout}
use Rattle.particle.specs.Record.{record_of}

module _ (p : Particle) {vx vy bxx bxy byx byy : ℕ} {bytes : List ℕ} (put : bytes ≡ filled layout (p.identifier ∷ p.mass ∷ p.x ∷ p.y ∷ vx ∷ vy ∷ bxx ∷ bxy ∷ byx ∷ byy ∷ p.marks ∷ [])) where
  pub record-of-parts : vx ≡ residue 128 p.vx → vy ≡ residue 128 p.vy → bxx ≡ residue 4096 p.bxx → bxy ≡ residue 4096 p.bxy → byx ≡ residue 4096 p.byx → byy ≡ residue 4096 p.byy → bytes ≡ record_of p
  unfolding record_of
  record-of-parts ex ey exx exy eyx eyy = put ∙ ap (filled layout) (λ i. p.identifier ∷ p.mass ∷ p.x ∷ p.y ∷ ex i ∷ ey i ∷ exx i ∷ exy i ∷ eyx i ∷ eyy i ∷ p.marks ∷ [])
