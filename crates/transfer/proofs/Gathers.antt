-- Gather: from the accepted set to the moved records.
--     move-ready, built-in-moved    what the loop over the parts asks of an accepted set, and leaves with the spline's table
--     refused-moves, pack-ready, done-moves
--                                   what is left after its answer
--     bad-entry, by-velocities      the checks before any particle moves, by their parts
--     stopped, set-accepted, gather-set, moved_on
--                                       the operation, by those checks
-- Assumes nothing.
use Rattle.std.proofs.Common.{Result}
use mathlib.Core.Path.{◌≡◌, refl, sym, ap, ◌∙◌, subst}
use mathlib.Core.List.{List, map}
use Prim.Native.Nat.{ℕ, ◌*◌, ◌/◌}
use native.Mathlib.Omega.{arith}
use lib.Dec.{eqb}
use lib.ListN.{length, length-map}
use lib.IntN.{ℤ}
use borrow.Author.Tests.{eqb-true}
use Rattle.refusal.specs.Refused.{Answer, gives, refused, and_then, done, told_of, told}
use Rattle.refusal.proofs.Answers.{went_on, refused-leaves, done-leaves}
use Rattle.arith.specs.Rounding.{rounded}
use Rattle.limits.specs.declared.Caller.{Caller}
use Rattle.limits.specs.declared.Caller.TheVariants.{Bench}
use Rattle.refusal.specs.declared.Refusal.{Refusal}
use Rattle.spline.specs.Spline.{axis_weight}
use Rattle.spline.specs.Kernel.{weight_in, BuiltIn}
use Rattle.spline.proofs.Spline.{built-in-weights}
use Rattle.particle.specs.declared.Particle.{Particle}
use Rattle.particle.specs.Layout.{record_length}
use Rattle.apic.specs.Step.{node}
use Rattle.apic.specs.Limits.{SetLimits}
use Rattle.apic.proofs.Gather.{gather-labels}
use Rattle.particles.specs.Set.{record_count, set_answer, particles_in}
use Rattle.unpacked.specs.Unpacked.{per_particle}
use Rattle.unpacked.proofs.Laws.{length-unpacked}
use Rattle.packing.specs.Packing.{Packable, Packs}
use Rattle.unpacking.proofs.Sets.{count-in, particles_in-accepted, set-length}
use Rattle.gathering.specs.Gather.{gathered}
use Rattle.gathering.proofs.Checks.{follow, checks-follow}
use Rattle.gathering.proofs.Kept.{set-kept}
use Rattle.settings.specs.Settings.{still}
use Rattle.entry.specs.declared.Buffers.TheVariants.{Two}
use Rattle.entry.specs.Entry.{entry_answer}
use Rattle.transfer.specs.Transfer.{velocity_checks, checked_set, move_answer, gather_answer, Moves}
use Rattle.transfer.specs.Internal.{GatherSet, MoveReady, MovedFrom}
use Rattle.entry.proofs.Entry.{and-true, accepted}
use Rattle.transfer.proofs.Sets.{accepted-set}
use Rattle.transfer.proofs.Velocities.{node-velocities}

-- ---- the accepted set, by its parts

pub move-ready : {nx ny : ℕ} {records : List ℕ} {ux uy : List ℤ} → GatherSet nx ny records ux uy → MoveReady nx ny records ux uy
move-ready {nx} {ny} {records} s =
    record { limits = accepted-set nx ny records s.set; x-velocities = s.x-velocities; y-velocities = s.y-velocities }

-- with the weights of the spline's table
pub built-in-moved : {nx ny : ℕ} {records : List ℕ} {table : List (List ℕ)} {d : ℕ} {ux uy target : List ℤ} {r : Result Unit Refusal} → BuiltIn table d → MovedFrom (weight_in table) 0 nx ny records ux uy target r → MovedFrom axis_weight 0 nx ny records ux uy target r
built-in-moved {nx} {ny} {records} {ux = ux} {uy = uy} {target = target} {r = r} t m =
    subst (λ w. MovedFrom w 0 nx ny records ux uy target r) (built-in-weights t) m

module _ {nx ny : ℕ} {records : List ℕ} {ux uy target : List ℤ} {r : Result Unit Refusal} (m : MovedFrom axis_weight 0 nx ny records ux uy target r) where
  -- the particles after the gather
  abbrev after : List Particle
  after = map (gathered axis_weight nx ny ux uy) (particles_in records)

  moved_answer : move_answer nx ny ux uy (particles_in records) ≡ follow (told r) (gives after)
  moved_answer =
      checks-follow nx ny (gathered axis_weight nx ny ux uy) 0 (particles_in records) (gives after)
      ∙ ap (λ a. follow a (gives after)) (sym m.answer)

  pub refused-moves : {n k : ℕ} → told r ≡ refused n k → Moves (move_answer nx ny ux uy (particles_in records)) records (refused n k) records
  refused-moves h = refused-leaves (moved_answer ∙ ap (λ a. follow a (gives after)) h)

  module _ (done-it : told r ≡ done) where
    pub pack-ready : SetLimits nx ny (particles_in records) → record_length * record_count records ≡ length records → Packable target × (length records ≡ record_length * (length target / per_particle))
    pack-ready limits whole =
        let kept = set-kept axis_weight nx ny ux uy 0 (particles_in records) limits (sym m.answer ∙ done-it) in (
          record { nx = nx; ny = ny; set = record { particles = after; holds = record { is = m.target_is done-it; limits = kept } } },
          sym whole ∙ ap (λ n. record_length * n) (count (record_count records) (length target) numbers),
        )
      where
        numbers : length target ≡ per_particle * record_count records
        numbers =
            ap length (m.target_is done-it)
            ∙ length-unpacked after
            ∙ ap (λ n. per_particle * n) (length-map (particles_in records) (gathered axis_weight nx ny ux uy) ∙ count-in records)

        count : (n l : ℕ) → l ≡ per_particle * n → n ≡ l / per_particle
        count n l b = omega arith

    pub done-moves : {records' : List ℕ} → Packs target records records' → Moves (move_answer nx ny ux uy (particles_in records)) records done records'
    done-moves packed =
        done-leaves (moved_answer ∙ ap (λ a. follow a (gives after)) done-it)
        (packed after (m.target_is done-it) (gather-labels rounded axis_weight nx ny (node nx ux) (node nx uy) (particles_in records)))

-- ---- the checks before any particle moves

module _ (caller : Caller) (nx ny : ℕ) (records : List ℕ) (ux uy : List ℤ) where
  -- the answer at entry
  abbrev entry : Answer (List Particle)
  entry = entry_answer caller (still nx ny) (Two (length ux) (length uy)) 0 records

  lengths-of : {ps : List Particle} → entry ≡ gives ps → (length ux ≡ nx * ny) × (length uy ≡ nx * ny)
  lengths-of e =
      let b = and-true (eqb (length ux) (nx * ny)) (eqb (length uy) (nx * ny)) (accepted caller _ _ 0 records e).long in
      (eqb-true (length ux) (nx * ny) b.0, eqb-true (length uy) (nx * ny) b.1)

  pub bad-entry : {n k : ℕ} → entry ≡ refused n k → checked_set caller nx ny records ux uy ≡ refused n k
  unfolding checked_set
  bad-entry e = ap (λ a. and_then a (λ ps. and_then (velocity_checks (nx * ny) ux uy) (λ _. gives ps))) e

  module _ {ps : List Particle} (e : entry ≡ gives ps) where
    pub same_count : length uy ≡ length ux
    same_count = let l = lengths-of e in l.1 ∙ sym l.0

    pub by-velocities : told_of (checked_set caller nx ny records ux uy) ≡ velocity_checks (length ux) ux uy
    unfolding checked_set
    by-velocities =
        ap (λ a. told_of (and_then a (λ ps. and_then (velocity_checks (nx * ny) ux uy) (λ _. gives ps)))) e
        ∙ plain (velocity_checks (nx * ny) ux uy)
        ∙ ap (λ n. velocity_checks n ux uy) (sym (lengths-of e).0)
      where
        plain : (a : Answer Unit) → told_of (and_then a (λ _. gives ps)) ≡ a
        plain (gives u) = refl
        plain (refused n k) = refl

  -- ---- the operation, by those checks

  pub stopped : {n k : ℕ} → checked_set caller nx ny records ux uy ≡ refused n k → Moves (gather_answer caller nx ny records ux uy) records (refused n k) records
  stopped e = refused-leaves (ap (λ a. and_then a (λ ps. move_answer nx ny ux uy ps)) e)

  module _ {ps : List Particle} (e : checked_set caller nx ny records ux uy ≡ gives ps) where
    pub set-accepted : set_answer Bench nx ny records ≡ gives ps
    unfolding checked_set
    set-accepted =
        let a = went_on entry _ e in
        (accepted caller _ _ 0 records a.1).set ∙ (went_on (velocity_checks (nx * ny) ux uy) _ a.2).2

    pub gather-set : GatherSet nx ny records ux uy
    unfolding checked_set
    gather-set =
        let a = went_on entry _ e in
        let b = went_on (velocity_checks (nx * ny) ux uy) _ a.2 in
        let l = lengths-of a.1 in
        let v = node-velocities nx ny ux uy l.0 l.1 b.1 in
        record {
          particles = ps;
          set = set-accepted;
          most = set-length nx ny records set-accepted;
          x-velocities = v.0;
          y-velocities = v.1;
        }

    pub moved_on : {t : Answer Unit} {records' : List ℕ} → Moves (move_answer nx ny ux uy (particles_in records)) records t records' → Moves (gather_answer caller nx ny records ux uy) records t records'
    unfolding gather-set
    moved_on {t} {records'} m =
        subst (λ b. Moves b records t records')
        (ap (move_answer nx ny ux uy) (particles_in-accepted nx ny records gather-set.set) ∙ sym (ap (λ b. and_then b (λ qs. move_answer nx ny ux uy qs)) e))
        m
