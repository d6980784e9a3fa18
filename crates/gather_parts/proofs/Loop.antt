-- The loop of `gather_parts` over the parts of a set, by the walk over its records.
--     begin                      no part is moved
--     some-ready, some-room      what part p asks, up to record `end`
--     stop, turn                 it is refused, or moved
--     finish                     all are moved
-- Assumes nothing.
use Rattle.std.proofs.Common.{Result, Ok, Err}
use Rattle.std.specs.Int.{div_ceil}
use mathlib.Core.Path.{◌≡◌, refl, sym, ap, subst, ◌∙◌}
use mathlib.Core.List.{List, ◌++◌, map}
use Prim.Native.Nat.{ℕ, ◌+◌, ◌-◌, ◌*◌, ◌<◌, ◌≤◌, min}
use native.Mathlib.Omega.{arith}
use lib.ListN.{length, take, drop, length-append, length-drop}
use lib.Seq.{length-take-le, take_all, drop-length}
use lib.IntN.{ℤ}
use Rattle.refusal.specs.declared.Refusal.{Refusal}
use Rattle.particle.specs.Layout.{record_length}
use Rattle.particles.specs.Set.{record_count, particles_in}
use Rattle.unpacked.specs.Unpacked.{per_particle, unpacked}
use Rattle.unpacking.proofs.Sets.{count-in}
use Rattle.gathering.specs.Gather.{gathered, move_checks, answer_from}
use Rattle.transfer.specs.Internal.{part, MoveReady, PartRoom, MovedFrom}
use Rattle.transfer.proofs.Moving.{Walk}
use Rattle.transfer.proofs.Moving as moving

-- as many numbers as before
pub put-back : (i : ℕ) (numbers l : List ℤ) → length numbers ≡ length (take i l) → i ≤ length l → length (numbers ++ drop i l) ≡ length l
put-back i numbers l kept h =
    length-append numbers (drop i l) ∙ omega (arith, kept, h, length-take-le i l h, length-drop i l)

module _ {w : ℕ → ℕ → ℤ} {nx ny : ℕ} {records : List ℕ} {ux uy : List ℤ} (ready : MoveReady nx ny records ux uy) {target : List ℤ} where
  pub begin : length target ≡ per_particle * record_count records → Walk w nx ny records ux uy target (min (record_count records) (part * 0))
  begin room = subst (Walk w nx ny records ux uy target) none (moving.start w nx ny records ux uy target room)
    where
      none : 0 ≡ min (record_count records) (part * 0)
      none = omega arith

  module _ {p : ℕ} (so_far : Walk w nx ny records ux uy target (min (record_count records) (part * p))) where
    pub finish : div_ceil (record_count records) part ≤ p → MovedFrom w 0 nx ny records ux uy target (Ok tt)
    unfolding move_checks
    finish h =
        record {
          answer = sym (so_far.answer ∙ ap (answer_from w (min (record_count records) (part * p)) nx ny ux uy) (ap (λ j. drop j (particles_in records)) all ∙ drop-length (particles_in records)));
          target_is = λ done.
              sym (take_all (per_particle * min (record_count records) (part * p)) target (omega (arith, so_far.room, all, count-in records)))
              ∙ so_far.taken
              ∙ ap (λ ps. unpacked (map (gathered w nx ny ux uy) ps)) (take_all (min (record_count records) (part * p)) (particles_in records) (omega (arith, all)));
        }
      where
        all : min (record_count records) (part * p) ≡ length (particles_in records)
        all = omega (arith, h, count-in records)

    module _ {end : ℕ} (below : p < div_ceil (record_count records) part) (is-end : end ≡ min (record_count records) (part * p + part)) where
      before : Walk w nx ny records ux uy target (part * p)
      before = subst (Walk w nx ny records ux uy target) here so_far
        where
          here : min (record_count records) (part * p) ≡ part * p
          here = omega (arith, below)

      size : record_length * end - record_length * (part * p) ≡ record_length * (end - part * p)
      size = omega arith

      inside : part * p + (end - part * p) ≤ record_count records
      inside = omega (arith, below, is-end)

      numbers : per_particle * end - per_particle * (part * p) ≡ per_particle * (end - part * p)
      numbers = omega arith

      pub some-ready : MoveReady nx ny (take (record_length * end - record_length * (part * p)) (drop (record_length * (part * p)) records)) ux uy
      some-ready = moving.part-ready ready before (end - part * p) (record_length * end - record_length * (part * p)) size inside

      -- at most the numbers of a whole part
      pub few : (array : List ℤ) → length array ≡ part * per_particle → per_particle * (end - part * p) ≤ length array
      few array e = omega (arith, is-end, e)

      pub some-room : (array : List ℤ) → length array ≡ part * per_particle → PartRoom (part * p) (take (record_length * end - record_length * (part * p)) (drop (record_length * (part * p)) records)) (take (per_particle * (end - part * p)) array) (take (per_particle * end - per_particle * (part * p)) (drop (per_particle * (part * p)) target))
      some-room array e =
          moving.part_room ready before (end - part * p) (record_length * end - record_length * (part * p)) size inside (per_particle * end - per_particle * (part * p)) numbers
          (length-take-le (per_particle * (end - part * p)) array (few array e))

      abbrev after : List ℤ → List ℤ
      after ys =
          take (per_particle * (part * p)) target ++ (ys ++ drop (per_particle * end - per_particle * (part * p)) (drop (per_particle * (part * p)) target))

      module _ {ys : List ℤ} (kept : length ys ≡ length (take (per_particle * end - per_particle * (part * p)) (drop (per_particle * (part * p)) target))) where
        -- r is what is returned then
        pub stop : {e f : Refusal} {r : Result Unit Refusal} → r ≡ Err e → e ≡ f → MovedFrom w (part * p) nx ny (take (record_length * end - record_length * (part * p)) (drop (record_length * (part * p)) records)) ux uy ys (Err f) → MovedFrom w 0 nx ny records ux uy (after ys) r
        stop is same m =
            rw (is, same)
            (moving.stop ready before (end - part * p) (record_length * end - record_length * (part * p)) size inside (per_particle * end - per_particle * (part * p)) numbers m kept refl)

        pub turn : MovedFrom w (part * p) nx ny (take (record_length * end - record_length * (part * p)) (drop (record_length * (part * p)) records)) ux uy ys (Ok tt) → Walk w nx ny records ux uy (after ys) (min (record_count records) (part * (p + 1)))
        turn m =
            subst (Walk w nx ny records ux uy (after ys)) next
            (moving.turn ready before (end - part * p) (record_length * end - record_length * (part * p)) size inside (per_particle * end - per_particle * (part * p)) numbers m kept refl)
          where
            next : part * p + (end - part * p) ≡ min (record_count records) (part * (p + 1))
            next = omega (arith, below, is-end)
