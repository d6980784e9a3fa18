-- Particle sets on their way in.
--     particles_in-accepted           the records of an accepted set hold its particles
--     count-in, in-at, part-is       the particles in records, one by one
--     narrow                         a record's mass and place are numbers of 16 bits with sign
--     unpacked-accepted              an accepted set, unpacked, is an array that holds it
--     set-length                     its records are not too many
-- Assumes nothing.
use mathlib.Core.Path.{◌≡◌, refl, sym, ap, ap₂, ◌∙◌, subst}
use mathlib.Core.List.{List, ◌∷◌, map}
use Prim.Native.Nat.{ℕ, zero, suc, ◌+◌, ◌-◌, ◌*◌, ◌<◌, ◌≤◌}
use native.Mathlib.Nat.{zero-add}
use native.Mathlib.Omega.{arith}
use lib.ListN.{length, get_or, take, drop}
use Rattle.refusal.specs.Refused.{gives}
use Rattle.refusal.proofs.Answers.{same-result}
use Rattle.arith.specs.Sums.{from}
use Rattle.particle.specs.declared.Particle.{Particle}
use Rattle.particle.specs.Layout.{record_length}
use Rattle.particle.specs.Layout as field
use Rattle.particle.specs.Record.{particle_of}
use Rattle.particle.proofs.RoundTrip.{fields-hold, read_held}
use Rattle.particles.specs.Set.{set_length, record_at, record_count, set_from, set_answer, particle_in, particles_in}
use Rattle.particles.proofs.Checks.{taken, entered, length-limits}
use Rattle.particles.proofs.Accepted.{accepted-limits}
use Rattle.unpacked.specs.Unpacked.{unpacked, Holds}
use Rattle.arith.specs.Lists.{get_or-tabulated, length-tabulated}
use Rattle.limits.specs.declared.Caller.TheVariants.{Bench}
use Rattle.unpacking.specs.Internal.{Narrow}

module _ (nx ny : ℕ) (bytes : List ℕ) where
  walk-particles : (left k least mass : ℕ) {ps : List Particle} → set_from nx ny 0 bytes left k least mass ≡ gives ps → map (λ j. particle_in bytes j) (from k left) ≡ ps
  unfolding set_from
  walk-particles zero k least mass e = same-result e
  walk-particles (suc left) k least mass e =
      let t = taken nx ny 0 bytes left k least mass e in
      ap (λ p. p ∷ map (λ j. particle_in bytes j) (from (suc k) left)) (read_held k (record_at 0 bytes k) t.head t.read).holds
      ∙ ap (λ ps. t.head ∷ ps) (walk-particles left (suc k) (suc t.head.identifier) (mass + t.head.mass) t.rest)
      ∙ t.is

  pub particles_in-accepted : {ps : List Particle} → set_answer Bench nx ny bytes ≡ gives ps → particles_in bytes ≡ ps
  unfolding particles_in
  particles_in-accepted e = walk-particles (record_count bytes) 0 0 0 (entered Bench nx ny bytes e).set

module _ (bytes : List ℕ) where
  pub count-in : length (particles_in bytes) ≡ record_count bytes
  unfolding particles_in
  count-in = length-tabulated (λ k. particle_in bytes k) (record_count bytes)

  pub in-at : (k : ℕ) (d : Particle) → k < record_count bytes → get_or (particles_in bytes) k d ≡ particle_in bytes k
  unfolding particles_in
  in-at k d h = get_or-tabulated (λ k. particle_in bytes k) (record_count bytes) k d h

-- the part that is lent is the record
pub part-is : (k : ℕ) (bytes : List ℕ) → take (record_length * k + record_length - record_length * k) (drop (record_length * k) bytes) ≡ record_at 0 bytes k
part-is k bytes = ap₂ (λ n at. take n (drop at bytes)) (room (record_length * k)) (sym (zero-add (record_length * k)))
  where
    room : (a : ℕ) → a + record_length - a ≡ record_length
    room a = omega arith

pub narrow : (bytes : List ℕ) → Narrow (particle_of bytes)
unfolding particle_of
narrow bytes =
    let holds = fields-hold bytes in
    record { mass = omega (arith, holds field.mass); x = omega (arith, holds field.x); y = omega (arith, holds field.y) }

module _ (nx ny : ℕ) (bytes : List ℕ) {ps : List Particle} (e : set_answer Bench nx ny bytes ≡ gives ps) where
  pub unpacked-accepted : Holds nx ny (unpacked (particles_in bytes)) (particles_in bytes)
  unpacked-accepted =
      subst (λ qs. Holds nx ny (unpacked qs) qs) (sym (particles_in-accepted nx ny bytes e))
      (record { is = refl; limits = accepted-limits nx ny bytes e })

  pub set-length : length bytes ≤ set_length
  set-length =
      let l = length-limits (length bytes) (entered Bench nx ny bytes e).whole in
      omega (arith, l.whole, l.count)
