-- Gather: some records of a set by the core, and part after part.
--     gatherable, moved-part        what the core asks of some records, and what it leaves
--     Walk, start, part-ready, part_room, turn, stop, last
--                                   the loop over the parts of a set: k records are moved, and the answer is that of the others
-- Assumes nothing.
use Rattle.std.proofs.Common.{Result, Err}
use mathlib.Core.Path.{◌≡◌, refl, sym, ap, ap₂, ◌∙◌, subst}
use mathlib.Core.List.{List, ◌++◌, map, map-append, append_assoc}
use Prim.Native.Nat.{ℕ, ◌+◌, ◌-◌, ◌*◌, ◌≤◌, zero-le}
use native.Mathlib.Omega.{arith}
use lib.ListN.{length, take, drop, length-append, length-drop, take-append-drop}
use lib.Seq.{length-take-le, take_all, take-add, take_at, drop-drop, drop-length}
use lib.IntN.{ℤ}
use Rattle.refusal.specs.Refused.{Answer, gives, refused, told}
use Rattle.refusal.specs.declared.Refusal.{Refusal}
use Rattle.refusal.proofs.Answers.{not-result}
use Rattle.particle.specs.declared.Particle.{Particle}
use Rattle.particle.specs.Layout.{record_length}
use Rattle.apic.specs.Limits.{SetLimits}
use Rattle.particles.specs.Set.{record_count, particles_in}
use Rattle.unpacked.specs.Unpacked.{per_particle, unpacked, Holds}
use Rattle.unpacked.proofs.Laws.{unpacked-append, numbers-count}
use Rattle.unpacking.proofs.Parts.{count-part, particles-part}
use Rattle.unpacking.proofs.Sets.{count-in}
use Rattle.scatter_core.proofs.Parts.{limits-part}
use Rattle.gathering.specs.Gather.{gathered, move_checks, answer_from, Gatherable, Gathers}
use Rattle.gathering.proofs.Checks.{follow, checks-follow, checks-append}
use Rattle.gathering.proofs.Kept.{all_moved}
use Rattle.transfer.specs.Internal.{MoveReady, PartRoom, MovedFrom}

-- ---- some records, by the core

module _ {nx ny : ℕ} (records : List ℕ) {ux uy source : List ℤ} (ready : MoveReady nx ny records ux uy) (e : source ≡ unpacked (particles_in records)) where
  source-holds : Holds nx ny source (particles_in records)
  source-holds = record { is = e; limits = ready.limits }

  as_many : {n : ℕ} → n ≡ per_particle * record_count records → n ≡ length source
  as_many h = h ∙ sym (numbers-count source-holds ∙ ap (λ n. per_particle * n) (count-in records))

  pub gatherable : {target : List ℤ} → length target ≡ per_particle * record_count records → Gatherable nx ny source ux uy target
  gatherable h =
      record {
        particles = record { particles = particles_in records; holds = source-holds };
        x-velocities = ready.x-velocities;
        y-velocities = ready.y-velocities;
        room = as_many h;
      }

  pub moved-part : {w : ℕ → ℕ → ℤ} {first : ℕ} {held target : List ℤ} {r : Result Unit Refusal} → length held ≡ per_particle * record_count records → Gathers w first nx ny source ux uy held target r → MovedFrom w first nx ny records ux uy target r
  moved-part room g =
      let f = g (particles_in records) source-holds in
      record { answer = f.answer; target_is = λ done. all_moved source-holds (as_many room) f done }

-- ---- part after part

pub record Walk (w : ℕ → ℕ → ℤ) (nx ny : ℕ) (records : List ℕ) (ux uy target : List ℤ) (k : ℕ) : Type 0 where
  pub within : k ≤ record_count records
  pub room : length target ≡ per_particle * record_count records
  pub taken : take (per_particle * k) target ≡ unpacked (map (gathered w nx ny ux uy) (take k (particles_in records)))
  pub answer : answer_from w 0 nx ny ux uy (particles_in records) ≡ answer_from w k nx ny ux uy (drop k (particles_in records))

pub start : (w : ℕ → ℕ → ℤ) (nx ny : ℕ) (records : List ℕ) (ux uy target : List ℤ) → length target ≡ per_particle * record_count records → Walk w nx ny records ux uy target 0
unfolding unpacked
start w nx ny records ux uy target e = record { within = zero-le; room = e; taken = refl; answer = refl }

-- n records more, of m bytes
module _ {w : ℕ → ℕ → ℤ} {nx ny : ℕ} {records : List ℕ} {ux uy : List ℤ} (ready : MoveReady nx ny records ux uy) {target : List ℤ} {k : ℕ} (before : Walk w nx ny records ux uy target k) (n m : ℕ) (size : m ≡ record_length * n) (inside : k + n ≤ record_count records) where
  abbrev these : List ℕ
  these = take m (drop (record_length * k) records)

  these-are : particles_in these ≡ take n (drop k (particles_in records))
  these-are = particles-part records k n m size inside

  pub part-ready : MoveReady nx ny these ux uy
  part-ready =
      record {
        limits = subst (SetLimits nx ny) (sym these-are) (limits-part (particles_in records) ready.limits k n);
        x-velocities = ready.x-velocities;
        y-velocities = ready.y-velocities;
      }

  -- the numbers that the part is moved to
  module _ (i : ℕ) (numbers : i ≡ per_particle * n) where
    long : length (take i (drop (per_particle * k) target)) ≡ per_particle * n
    long = length-take-le i (drop (per_particle * k) target) (omega (arith, length-drop (per_particle * k) target, before.room)) ∙ numbers

    pub part_room : {source : List ℤ} → length source ≡ per_particle * n → PartRoom k these source (take i (drop (per_particle * k) target))
    part_room e =
        let count = sym (count-part records k n m size inside) in
        record {
          index = omega (arith, count-in records, ready.limits.count);
          source-numbers = e ∙ ap (λ j. per_particle * j) count;
          target-numbers = long ∙ ap (λ j. per_particle * j) count;
        }

    module _ {ys : List ℤ} {r : Result Unit Refusal} (p : MovedFrom w k nx ny these ux uy ys r) (kept : length ys ≡ length (take i (drop (per_particle * k) target))) where
      abbrev after : List ℤ
      after = take (per_particle * k) target ++ (ys ++ drop i (drop (per_particle * k) target))

      before-it : length (take (per_particle * k) target) ≡ per_particle * k
      before-it = length-take-le (per_particle * k) target (omega (arith, before.room))

      as_long : length after ≡ length target
      as_long =
          length-append (take (per_particle * k) target) (ys ++ drop i (drop (per_particle * k) target))
          ∙ ap₂ ◌+◌ before-it (length-append ys (drop i (drop (per_particle * k) target)) ∙ ap₂ ◌+◌ (kept ∙ long) (length-drop i (drop (per_particle * k) target) ∙ ap (λ l. l - i) (length-drop (per_particle * k) target)))
          ∙ omega (arith, before.room)

      -- the answer of the part and of those behind it
      from-here : answer_from w 0 nx ny ux uy (particles_in records) ≡ follow (told r) (answer_from w (k + n) nx ny ux uy (drop (k + n) (particles_in records)))
      from-here =
          before.answer
          ∙ ap (answer_from w k nx ny ux uy) (sym (take-append-drop n rest))
          ∙ checks-append nx ny (gathered w nx ny ux uy) k (take n rest) (drop n rest) (gives tt)
          ∙ checks-follow nx ny (gathered w nx ny ux uy) k (take n rest) (answer_from w (k + length (take n rest)) nx ny ux uy (drop n rest))
          ∙ ap₂ follow (ap (answer_from w k nx ny ux uy) (sym these-are) ∙ sym p.answer) (ap₂ (λ j l. answer_from w (k + j) nx ny ux uy l) many (drop-drop n k (particles_in records)))
        where
          rest : List Particle
          rest = drop k (particles_in records)

          many : length (take n (drop k (particles_in records))) ≡ n
          many = length-take-le n (drop k (particles_in records)) (omega (arith, length-drop k (particles_in records), count-in records))

      pub stop : {f : Refusal} → r ≡ Err f → MovedFrom w 0 nx ny records ux uy after (Err f)
      stop h =
          record {
            answer = sym (from-here ∙ ap (λ a. follow (told a) (answer_from w (k + n) nx ny ux uy (drop (k + n) (particles_in records)))) h);
            target_is = λ no. not-result no;
          }

      pub turn : told r ≡ gives tt → Walk w nx ny records ux uy after (k + n)
      turn h =
          record {
            within = inside;
            room = as_long ∙ before.room;
            taken =
                ap (take (per_particle * (k + n))) (sym (append_assoc (take (per_particle * k) target) ys (drop i (drop (per_particle * k) target))))
                ∙ take_at (take (per_particle * k) target ++ ys) (drop i (drop (per_particle * k) target)) (per_particle * (k + n)) (length-append (take (per_particle * k) target) ys ∙ ap₂ ◌+◌ before-it (kept ∙ long) ∙ omega arith)
                ∙ ap₂ ◌++◌ before.taken (p.target_is h ∙ ap (λ ps. unpacked (map (gathered w nx ny ux uy) ps)) these-are)
                ∙ sym (unpacked-append (map (gathered w nx ny ux uy) (take k (particles_in records))) (map (gathered w nx ny ux uy) (take n (drop k (particles_in records)))))
                ∙ ap unpacked (sym (map-append (gathered w nx ny ux uy) (take k (particles_in records)) (take n (drop k (particles_in records)))))
                ∙ ap (λ ps. unpacked (map (gathered w nx ny ux uy) ps)) (sym (take-add k n (particles_in records)));
            answer = from-here ∙ ap (λ a. follow a (answer_from w (k + n) nx ny ux uy (drop (k + n) (particles_in records)))) h;
          }

      -- no record is behind the part
      pub last : record_count records ≤ k + n → MovedFrom w 0 nx ny records ux uy after r
      unfolding move_checks
      last h =
          record {
            answer =
                sym (from-here ∙ ap (λ ps. follow (told r) (answer_from w (k + n) nx ny ux uy ps)) (ap (λ j. drop j (particles_in records)) all ∙ drop-length (particles_in records)) ∙ only (told r));
            target_is = λ done.
                let v = turn done in
                sym (take_all (per_particle * (k + n)) after (omega (arith, v.room)))
                ∙ v.taken
                ∙ ap (λ ps. unpacked (map (gathered w nx ny ux uy) ps)) (take_all (k + n) (particles_in records) (omega (arith, count-in records)));
          }
        where
          all : k + n ≡ length (particles_in records)
          all = omega (arith, count-in records)

          only : (a : Answer (Unit {0})) → follow a (gives tt) ≡ a
          only (gives u) = refl
          only (refused j k) = refl
