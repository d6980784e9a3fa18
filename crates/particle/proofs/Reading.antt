-- The answer of a read, by what each check of the particle finds. Assumes nothing.
use Prim.Native.Nat.{ℕ}
use mathlib.Core.Path.{◌≡◌, refl, ap, ◌∙◌}
use mathlib.Core.Bool.{Bool, true, false, ◌||◌, or_comm}
use lib.Dec.{eqb}
use lib.IntN.{ℤ, pos, neg_ℤ}
use Rattle.refusal.specs.Refused.{Answer, gives, refuse_if}
use Rattle.limits.specs.Limits.{isℤ}
use Rattle.particle.specs.declared.Particle.{Particle}
use Rattle.particle.specs.Record.{lowest_velocity, read_particle}

exchange : (a b c d : Bool) → ((a || b) || (c || d)) ≡ ((a || c) || (b || d))
exchange true b c d = refl
exchange false b true d = or_comm b true
exchange false b false d = refl

-- the checks in their order: mass, velocities, the two columns of B
abbrev pub checked : ℕ → Particle → Bool → Bool → Bool → Bool → Answer Particle
checked index p m v r s = refuse_if m 4 index (refuse_if v 5 index (refuse_if (r || s) 6 index (gives p)))

abbrev lowest : ℤ → Bool
lowest b = isℤ (neg_ℤ (pos 2048)) b

pub read-checked : (index : ℕ) (p : Particle) {m v r s : Bool} → eqb p.mass 0 ≡ m → lowest_velocity p ≡ v → (lowest p.bxx || lowest p.byx) ≡ r → (lowest p.bxy || lowest p.byy) ≡ s → read_particle index p ≡ checked index p m v r s
unfolding read_particle
read-checked index p m v r s =
    ap (λ b. refuse_if (eqb p.mass 0) 4 index (refuse_if (lowest_velocity p) 5 index (refuse_if b 6 index (gives p))))
    (exchange (lowest p.bxx) (lowest p.bxy) (lowest p.byx) (lowest p.byy))
    ∙ (λ i. checked index p (m i) (v i) (r i) (s i))
