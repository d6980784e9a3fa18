-- The answer of a write, by the length and the particle, and the buffer that goes with it.
--     write_checked             the particle's answer, by what each check finds
--     long, judged, allowed     by the length
--     after                     the buffer
-- Assumes nothing.
use Prim.Native.Nat.{ℕ}
use mathlib.Core.Path.{◌≡◌, ap}
use mathlib.Core.Bool.{Bool, not, ◌&&◌}
use mathlib.Core.List.{List}
use lib.ListN.{length}
use Rattle.refusal.specs.Refused.{Answer, gives, refused, refuse_if, kept_unless}
use Rattle.refusal.proofs.Answers.{wrong-length, right-length, length-passed}
use Rattle.limits.specs.Limits.{valid_mass, valid_affine}
use Rattle.particle.specs.declared.Particle.{Particle}
use Rattle.particle.specs.Layout.{record_length}
use Rattle.particle.specs.Record.{record_of, valid_velocities, valid_positions, write_particle, write_answer, written}

-- the checks in their order: mass, velocities, the two rows of B, position
abbrev pub checked : Bool → Bool → Bool → Bool → Bool → Answer Unit
checked m v r s x = refuse_if (not m) 4 0 (refuse_if (not v) 5 0 (refuse_if (not (r && s)) 6 0 (refuse_if (not x) 7 0 (gives tt))))

pub write_checked : (p : Particle) {m v r s x : Bool} → valid_mass p.mass ≡ m → valid_velocities p ≡ v → (valid_affine p.bxx && valid_affine p.bxy) ≡ r → (valid_affine p.byx && valid_affine p.byy) ≡ s → valid_positions p ≡ x → write_particle p ≡ checked m v r s x
unfolding write_particle
write_checked p m v r s x = λ i. checked (m i) (v i) (r i) (s i) (x i)

module _ (p : Particle) (bytes : List ℕ) where
  -- the buffer follows from the answer
  pub after : {a : Answer Unit} → write_answer p bytes ≡ a → written p bytes ≡ kept_unless a (record_of p) bytes
  unfolding written
  after e = ap (λ a. kept_unless a (record_of p) bytes) e

  pub long : (length bytes ≡ record_length → ⊥) → write_answer p bytes ≡ refused 1 0
  unfolding write_answer
  long h = wrong-length (length bytes) record_length _ h

  pub judged : length bytes ≡ record_length → write_answer p bytes ≡ write_particle p
  unfolding write_answer
  judged h = right-length (length bytes) record_length _ h

  pub allowed : write_answer p bytes ≡ gives tt → (length bytes ≡ record_length) × (write_particle p ≡ gives tt)
  unfolding write_answer
  allowed e = length-passed (length bytes) record_length _ e
