-- Some particles of a set, one after the other.
--     rising-tail      identifiers that rise, behind the first
--     limits-part      they are within a set's limits
--     parts_added      they are added after those before them
--     parts-room       with those before them added to cleared grids there is room for them
-- Assumes nothing.
use mathlib.Core.Path.{◌≡◌, sym, ap, subst, ◌∙◌}
use mathlib.Core.List.{List, [], ◌∷◌, ◌++◌}
use Prim.Native.Nat.{ℕ, zero, suc, ◌+◌, ◌*◌, ◌≤◌}
use native.Mathlib.Nat.{le_trans, zero-add, add_assoc}
use native.Mathlib.Omega.{arith}
use lib.ListN.{take, drop, length-drop}
use lib.Seq.{take-add}
use lib.IntN.{ℤ}
use Rattle.arith.specs.Lists.{each-drop, length-take-most, total-drop}
use Rattle.limits.specs.Limits.{most_total_mass}
use Rattle.spline.specs.Kernel.{weight_in, Kernel}
use Rattle.particle.specs.declared.Particle.{Particle}
use Rattle.apic.specs.Totals.{total_mass}
use Rattle.apic.specs.Limits.{ParticleLimits, SetLimits, Rising}
use Rattle.apic.proofs.Bounds.{Limited, limited-set, limited-take}
use Rattle.scatter_block.specs.Lines.{Held}
use Rattle.scatter_particle.specs.Added.{Added}
use Rattle.scatter_core.specs.Scatter.{Room, most_share}
use Rattle.scatter_core.proofs.Sets.{added-append, added-held}

pub rising-tail : (p : Particle) (ps : List Particle) → Rising (p ∷ ps) → Rising ps
rising-tail p [] r = tt
rising-tail p (q ∷ ps) r = r.1

rising-drop : (k : ℕ) (ps : List Particle) → Rising ps → Rising (drop k ps)
rising-drop zero ps r = r
rising-drop (suc k) [] r = tt
rising-drop (suc k) (p ∷ ps) r = rising-drop k ps (rising-tail p ps r)

rising-take : (k : ℕ) (ps : List Particle) → Rising ps → Rising (take k ps)
rising-take zero ps r = tt
rising-take (suc k) [] r = tt
rising-take (suc zero) (p ∷ ps) r = tt
rising-take (suc (suc k)) (p ∷ []) r = tt
rising-take (suc (suc k)) (p ∷ q ∷ ps) r = (r.0, rising-take (suc k) (q ∷ ps) r.1)

total-append : (ps qs : List Particle) → total_mass (ps ++ qs) ≡ total_mass ps + total_mass qs
total-append [] qs = sym (zero-add (total_mass qs))
total-append (p ∷ ps) qs = ap (λ m. p.mass + m) (total-append ps qs) ∙ sym (add_assoc p.mass (total_mass ps) (total_mass qs))

module _ {nx ny : ℕ} (ps : List Particle) (limits : SetLimits nx ny ps) (k n : ℕ) where
  pub limits-part : SetLimits nx ny (take n (drop k ps))
  limits-part =
      record {
        sizes = limits.sizes;
        count = omega (arith, length-take-most n (drop k ps), length-drop k ps, limits.count);
        each = (limited-take n (drop k ps) dropped).each;
        rising = rising-take n (drop k ps) (rising-drop k ps limits.rising);
        mass = (limited-take n (drop k ps) dropped).mass;
      }
    where
      dropped : Limited nx ny (drop k ps)
      dropped = record { each = each-drop (ParticleLimits nx ny) k ps limits.each; mass = le_trans (total-drop (λ p. p.mass) k ps) limits.mass }

  both-light : total_mass (take k ps) + total_mass (take n (drop k ps)) ≤ most_total_mass
  both-light =
      subst (λ m. m ≤ most_total_mass) (ap total_mass (take-add k n ps) ∙ total-append (take k ps) (take n (drop k ps)))
      (limited-take (k + n) ps (limited-set limits)).mass

  module _ {table : List (List ℕ)} {D : ℕ} (kernel : Kernel table D) {mass mass' : List ℕ} {px py px' py' : List ℤ} (before : Added (weight_in table) D nx ny (take k ps) mass px py mass' px' py') where
    pub parts_added : {mass'' : List ℕ} {px'' py'' : List ℤ} → Added (weight_in table) D nx ny (take n (drop k ps)) mass' px' py' mass'' px'' py'' → Added (weight_in table) D nx ny (take (k + n) ps) mass px py mass'' px'' py''
    parts_added {mass''} {px''} {py''} a =
        subst (λ qs. Added (weight_in table) D nx ny qs mass px py mass'' px'' py'') (sym (take-add k n ps))
        (added-append kernel nx ny (take k ps) (take n (drop k ps)) (limited-take k ps (limited-set limits)).each limits-part.each before a)

    pub parts-room : Held 0 (nx * ny) mass px py → Room (total_mass (take k ps)) nx ny (take n (drop k ps)) mass' px' py'
    parts-room held =
        record {
          light = both-light;
          held =
              subst (λ m. Held (m * most_share) (nx * ny) mass' px' py') (zero-add (total_mass (take k ps)))
              (added-held kernel nx ny (take k ps) 0 (omega (arith, limits.sizes.x-least)) (limited-take k ps (limited-set limits)) held before);
        }
