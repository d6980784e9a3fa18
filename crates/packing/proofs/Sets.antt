-- Particle sets on their way out.
--     relabelled                     a particle with another label has the same numbers, and is as valid
--     packable-at                    the particles of an array, one by one
--     Packed, packed_start, packed-next, packed-end
--                                    the loop of `pack_set`: the first k records are written, and the others as they were
-- Assumes nothing.
use mathlib.Core.Path.{◌≡◌, refl, sym, ap, ◌∙◌, subst}
use mathlib.Core.List.{List}
use Prim.Native.Nat.{ℕ, ◌+◌, ◌*◌, ◌/◌, ◌<◌, ◌≤◌}
use native.Mathlib.Nat.{zero-add}
use native.Mathlib.Omega.{arith}
use lib.ListN.{length, get_or, take, drop, get_or-map}
use lib.Seq.{drop-drop}
use lib.IntN.{ℤ}
use Rattle.particle.specs.declared.Particle.{Particle}
use Rattle.particle.specs.Layout.{record_length}
use Rattle.particle.specs.Record.{label, particle_of, record_of, Valid}
use Rattle.particles.specs.Set.{record_count, records_of, particle_in, particles_in}
use Rattle.particles.proofs.Accepted.{particle-valid}
use Rattle.unpacked.specs.Unpacked.{per_particle, unpacked, NumbersAt}
use Rattle.arith.specs.Lists.{placed, placed-length}
use Rattle.unpacked.proofs.Laws.{length-unpacked, numbers-at, some_at, nobody}
use Rattle.packing.specs.Packing.{Packable, Packs, labels}
use Rattle.packing.specs.Internal.{PackableAt, PacksAt}
use Rattle.unpacking.proofs.Filling.{Filled, record-parts, part-fits, part-behind, filled-start, filled_next, filled-end}
use Rattle.unpacking.proofs.Sets.{in-at}

-- the particle with another label
abbrev pub relabelled : ℕ × ℕ → Particle → Particle
relabelled l p =
    record {
      identifier = l.0;
      mass = p.mass;
      x = p.x;
      y = p.y;
      vx = p.vx;
      vy = p.vy;
      bxx = p.bxx;
      bxy = p.bxy;
      byx = p.byx;
      byy = p.byy;
      marks = l.1;
    }

module _ (other : ℕ × ℕ) where
  pub relabelled-at : {l : List ℤ} {k : ℕ} {p : Particle} → NumbersAt l k p → NumbersAt l k (relabelled other p)
  relabelled-at n =
      record {
        mass = n.mass;
        x = n.x;
        y = n.y;
        vx = n.vx;
        vy = n.vy;
        bxx = n.bxx;
        bxy = n.bxy;
        byx = n.byx;
        byy = n.byy;
      }

  pub relabelled-valid : {p : Particle} → Valid p → Valid (relabelled other p)
  relabelled-valid v =
      record {
        mass-from = v.mass-from;
        mass-to = v.mass-to;
        vx-to = v.vx-to;
        vy-to = v.vy-to;
        bxx-to = v.bxx-to;
        bxy-to = v.bxy-to;
        byx-to = v.byx-to;
        byy-to = v.byy-to;
        x-to = v.x-to;
        y-to = v.y-to;
      }

pub packable-at : {l : List ℤ} → Packable l → (k : ℕ) → k < length l / per_particle → PackableAt l k
packable-at p k h =
    let s = some_at p.set k h in
    record {
      readable = record { particle = s.particle; inside = s.holds.inside; numbers = s.holds.numbers };
      valid = particle-valid p.nx p.ny s.particle s.holds.sizes s.holds.limits;
    }

pub record Packed (l : List ℤ) (records₀ records : List ℕ) (k : ℕ) : Type 0 where
  pub long : length records ≡ length records₀
  pub behind : drop (record_length * k) records ≡ drop (record_length * k) records₀
  pub done : (ps : List Particle) → l ≡ unpacked ps → labels ps ≡ labels (particles_in records₀) → Filled record_length records_of ps records k

count-unpacked : (l : List ℤ) (ps : List Particle) → l ≡ unpacked ps → length l / per_particle ≡ length ps
count-unpacked l ps is = omega (arith, ap length is ∙ length-unpacked ps)

pub packed_start : {l : List ℤ} {records : List ℕ} → length records ≡ record_length * (length l / per_particle) → Packed l records records 0
packed_start {l} whole =
    record {
      long = refl;
      behind = refl;
      done = λ ps is same. filled-start record-parts (whole ∙ ap (λ n. record_length * n) (count-unpacked l ps is));
    }

module _ {l : List ℤ} {records₀ records : List ℕ} {k : ℕ} (w : Packed l records₀ records k) where
  -- the record that comes next is as it was
  next-in : particle_in records k ≡ particle_in records₀ k
  next-in = ap (λ r. particle_of (take record_length r)) (at records ∙ w.behind ∙ sym (at records₀))
    where
      at : (r : List ℕ) → drop (0 + record_length * k) r ≡ drop (record_length * k) r
      at r = ap (λ i. drop i r) (zero-add (record_length * k))

  pub packed-next : {records' : List ℕ} → PackableAt l k → record_length * k + record_length ≤ length records → k < length l / per_particle → PacksAt l k records records' → Packed l records₀ records' (k + 1)
  packed-next {records'} at room below packs =
      let q = relabelled (label (particle_in records k)) at.readable.particle in
      let e : records' ≡ placed records (record_length * k) (record_of q) = packs q (relabelled-at (label (particle_in records k)) at.readable.numbers) refl in
      record {
        long = ap length e ∙ placed-length records (record_length * k) (record_of q) (part-fits record-parts k records q room) ∙ w.long;
        behind = ap (drop (record_length * (k + 1))) e ∙ part-behind record-parts k records q room ∙ further w.behind;
        done = λ ps is same.
            let here = subst (λ n. k < n) (count-unpacked l ps is) below in
            let p = get_or ps k nobody in
            filled_next record-parts (w.done ps is same) nobody here refl
            (packs p (subst (λ m. NumbersAt m k p) (sym is) (numbers-at ps k nobody here)) (same-label ps same));
      }
    where
      next : record_length * (k + 1) ≡ record_length * k + record_length
      next = omega arith

      further : drop (record_length * k) records ≡ drop (record_length * k) records₀ → drop (record_length * (k + 1)) records ≡ drop (record_length * (k + 1)) records₀
      further h =
          ap (λ i. drop i records) next
          ∙ sym (drop-drop record_length (record_length * k) records)
          ∙ ap (drop record_length) h
          ∙ drop-drop record_length (record_length * k) records₀
          ∙ ap (λ i. drop i records₀) (sym next)

      inside : k < record_count records₀
      inside = omega (arith, w.long)

      same-label : (ps : List Particle) → labels ps ≡ labels (particles_in records₀) → label (get_or ps k nobody) ≡ label (particle_in records k)
      same-label ps same =
          sym (get_or-map label ps k nobody)
          ∙ ap (λ l. get_or l k (label nobody)) same
          ∙ get_or-map label (particles_in records₀) k nobody
          ∙ ap label (in-at records₀ k nobody inside ∙ sym next-in)

  pub packed-end : length l / per_particle ≤ k → Packs l records₀ records
  packed-end h ps is same = filled-end record-parts (w.done ps is same) (subst (λ n. n ≤ k) (count-unpacked l ps is) h)
