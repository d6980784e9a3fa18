-- A gather that is not refused keeps a particle set within its limits.
--     set-kept      the moved particles are within the limits
--     all_moved     the array that `gather_from` then leaves holds the moved particles
-- Assumes nothing.
use Rattle.std.proofs.Common.{Result}
use mathlib.Core.Path.{◌≡◌, refl, sym, ap, ap₂, subst, subst₂, ◌∙◌}
use mathlib.Core.List.{List, [], ◌∷◌, ◌++◌, map, append-nil}
use Prim.Native.Nat.{ℕ, suc, ◌+◌, ◌*◌, ◌≤◌, ◌<◌}
use native.Mathlib.Omega.{arith}
use lib.ListN.{length, length-map, drop_of_length-le}
use lib.Seq.{take-length}
use lib.IntN.{ℤ}
use Rattle.arith.specs.Sums.{Each}
use Rattle.refusal.specs.Refused.{gives, told}
use Rattle.limits.specs.Limits.{most_records, most_total_mass}
use Rattle.particle.specs.declared.Particle.{Particle}
use Rattle.apic.specs.Step.{moved}
use Rattle.apic.specs.Totals.{total_mass}
use Rattle.apic.specs.Limits.{ParticleLimits, SetLimits, Rising}
use Rattle.refusal.specs.declared.Refusal.{Refusal}
use Rattle.unpacked.specs.Unpacked.{per_particle, unpacked, Holds}
use Rattle.unpacked.proofs.Laws.{numbers-count}
use Rattle.gathering.specs.Gather.{gathered, move_checks, answer_from, moved_before, moved_into, target_from, GathersFrom}
use Rattle.gathering.proofs.Checks.{Passed, passed}

-- identifiers and masses are kept, by any move
module _ (move : Particle → Particle) (same-identifier : (p : Particle) → (move p).identifier ≡ p.identifier) (same-mass : (p : Particle) → (move p).mass ≡ p.mass) where
  pub rising-kept : (ps : List Particle) → Rising ps → Rising (map move ps)
  rising-kept [] h = tt
  rising-kept (p ∷ []) h = tt
  rising-kept (p ∷ q ∷ ps) h =
      (subst₂ ◌<◌ (sym (same-identifier p)) (sym (same-identifier q)) h.0, rising-kept (q ∷ ps) h.1)

  pub mass-kept : (ps : List Particle) → total_mass (map move ps) ≡ total_mass ps
  mass-kept [] = refl
  mass-kept (p ∷ ps) = ap₂ ◌+◌ (same-mass p) (mass-kept ps)

module _ (w : ℕ → ℕ → ℤ) (nx ny : ℕ) (ux uy : List ℤ) where
  particle-kept : (p : Particle) → ParticleLimits nx ny p → Passed nx ny p (gathered w nx ny ux uy p) → ParticleLimits nx ny (gathered w nx ny ux uy p)
  unfolding moved
  particle-kept p l h =
      record {
        identifier = l.identifier;
        mass-least = l.mass-least;
        mass-most = l.mass-most;
        vx = h.vx;
        vy = h.vy;
        bxx = h.bxx;
        bxy = h.bxy;
        byx = h.byx;
        byy = h.byy;
        x-on = h.x.1;
        y-on = h.y.1;
        marks = l.marks;
      }

  each-kept : (k : ℕ) (ps : List Particle) → Each (ParticleLimits nx ny) ps → move_checks {A = Unit {0}} nx ny (gathered w nx ny ux uy) k ps (gives tt) ≡ gives tt → Each (ParticleLimits nx ny) (map (gathered w nx ny ux uy) ps)
  unfolding move_checks
  each-kept k [] l e = tt
  each-kept k (p ∷ ps) l e =
      let h = passed nx ny p (gathered w nx ny ux uy p) k (move_checks nx ny (gathered w nx ny ux uy) (suc k) ps (gives tt)) e in
      (particle-kept p l.0 h.0, each-kept (suc k) ps l.1 h.1)

  same-identifier : (p : Particle) → (gathered w nx ny ux uy p).identifier ≡ p.identifier
  unfolding moved
  same-identifier p = refl

  same-mass : (p : Particle) → (gathered w nx ny ux uy p).mass ≡ p.mass
  unfolding moved
  same-mass p = refl

  pub set-kept : (k : ℕ) (ps : List Particle) → SetLimits nx ny ps → move_checks {A = Unit {0}} nx ny (gathered w nx ny ux uy) k ps (gives tt) ≡ gives tt → SetLimits nx ny (map (gathered w nx ny ux uy) ps)
  set-kept k ps l e =
      record {
        sizes = l.sizes;
        count = subst (λ n. n ≤ most_records) (sym (length-map ps (gathered w nx ny ux uy))) l.count;
        each = each-kept k ps l.each e;
        rising = rising-kept (gathered w nx ny ux uy) same-identifier same-mass ps l.rising;
        mass = subst (λ n. n ≤ most_total_mass) (sym (mass-kept (gathered w nx ny ux uy) same-identifier same-mass ps)) l.mass;
      }

-- ---- the target of a call that is not refused

module _ {w : ℕ → ℕ → ℤ} {first nx ny : ℕ} {source ux uy target target' : List ℤ} {ps : List Particle} {r : Result Unit Refusal} (s : Holds nx ny source ps) (room : length target ≡ length source) (g : GathersFrom w first nx ny ps ux uy target target' r) (done : told r ≡ gives tt) where
  passes : answer_from w first nx ny ux uy ps ≡ gives tt
  passes = sym g.answer ∙ done

  pub all_moved : target' ≡ unpacked (map (gathered w nx ny ux uy) ps)
  unfolding target_from
  all_moved =
      g.target_is
      ∙ ap (λ a. moved_into (gathered w nx ny ux uy) (moved_before a first (length ps)) ps target) passes
      ∙ ap₂ (λ qs l. unpacked (map (gathered w nx ny ux uy) qs) ++ l) (take-length ps) (drop_of_length-le target {i = per_particle * length ps} (omega (arith, room, numbers-count s)))
      ∙ append-nil (unpacked (map (gathered w nx ny ux uy) ps))
