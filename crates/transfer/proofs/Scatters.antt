-- Scatter: from the accepted set to the grids.
--     array-set, set-ready          some records: what the core asks of them unpacked
--     SoFar, begin, part-ready, turn, finish
--                                   the loop over the parts of a set: what is added after k records
--     add-ready, built-in-scattered what the loop asks of an accepted set and cleared grids, and leaves with the spline's table
--     scatter-set, done-fills       the contract, by the answer at entry
-- Assumes nothing.
use mathlib.Core.Path.{◌≡◌, sym, ap, ◌∙◌, subst, subst₂}
use mathlib.Core.List.{List}
use Prim.Native.Nat.{ℕ, ◌+◌, ◌*◌, ◌≤◌, zero-le}
use native.Mathlib.Omega.{arith}
use lib.ListN.{length, take, drop, replicate}
use lib.Seq.{take_all}
use lib.IntN.{ℤ, pos}
use Rattle.refusal.specs.Refused.{gives, done}
use Rattle.refusal.proofs.Answers.{done-leaves}
use Rattle.limits.specs.declared.Caller.{Caller}
use Rattle.spline.specs.Spline.{axis_weight, D}
use Rattle.spline.specs.Kernel.{weight_in, BuiltIn}
use Rattle.spline.proofs.Spline.{built-in-kernel, built-in-weights}
use Rattle.particle.specs.declared.Particle.{Particle}
use Rattle.particle.specs.Layout.{record_length}
use Rattle.apic.specs.Step.{grids_of}
use Rattle.apic.specs.Totals.{total_mass}
use Rattle.apic.specs.Limits.{SetLimits}
use Rattle.particles.specs.Set.{record_count, particles_in}
use Rattle.unpacked.specs.Unpacked.{unpacked, UnpackedSet}
use Rattle.unpacking.proofs.Parts.{particles-part}
use Rattle.unpacking.proofs.Sets.{count-in, particles_in-accepted}
use Rattle.scatter_block.specs.Lines.{Held}
use Rattle.scatter_particle.specs.Added.{Added}
use Rattle.scatter_core.specs.Scatter.{Room, most_share, SetReady, ScatteredGrids}
use Rattle.scatter_core.proofs.Parts.{limits-part, parts_added, parts-room}
use Rattle.scatter_core.proofs.Sets.{added_none, cleared-held}
use Rattle.transfer.specs.Transfer.{scatter_answer, Fills}
use Rattle.transfer.specs.Internal.{ScatterSet, AddReady, PartReady}
use Rattle.settings.specs.Settings.{still}
use Rattle.entry.specs.declared.Buffers.TheVariants.{Three}
use Rattle.entry.proofs.Entry.{accepted, long-three}
use Rattle.transfer.proofs.Sets.{accepted-set}

-- ---- some records of a set

abbrev pub array-set : {nx ny : ℕ} {array : List ℤ} {ps : List Particle} → array ≡ unpacked ps → SetLimits nx ny ps → UnpackedSet nx ny array
array-set {ps} e limits = record { particles = ps; holds = record { is = e; limits = limits } }

pub set-ready : {nx ny : ℕ} (records : List ℕ) {table : List (List ℕ)} {D : ℕ} {mass : List ℕ} {px py array : List ℤ} → array ≡ unpacked (particles_in records) → PartReady nx ny records table D mass px py → SetReady nx ny array table D mass px py
set-ready records e ready =
    record { set = array-set e ready.limits; kernel = ready.kernel; already = ready.already; room = ready.room }

-- ---- part after part

-- the particles of the first k records are added
pub record SoFar (w : ℕ → ℕ → ℤ) (D nx ny : ℕ) (records mass : List ℕ) (px py : List ℤ) (mass' : List ℕ) (px' py' : List ℤ) (k : ℕ) : Type 0 where
  pub within : k ≤ record_count records
  pub added : Added w D nx ny (take k (particles_in records)) mass px py mass' px' py'

module _ {nx ny : ℕ} {records : List ℕ} {table : List (List ℕ)} {D : ℕ} {mass : List ℕ} {px py : List ℤ} (ready : AddReady nx ny records table D mass px py) where
  pub begin : SoFar (weight_in table) D nx ny records mass px py mass px py 0
  begin = record { within = zero-le; added = added_none ready.kernel nx ny ready.cleared }

  module _ {mass' : List ℕ} {px' py' : List ℤ} {k : ℕ} (so_far : SoFar (weight_in table) D nx ny records mass px py mass' px' py' k) where
    pub held-so-far : Held (total_mass (take k (particles_in records)) * most_share) (nx * ny) mass' px' py'
    held-so-far = (parts-room (particles_in records) ready.limits k 0 ready.kernel so_far.added ready.cleared).held

    pub finish : record_count records ≤ k → Added (weight_in table) D nx ny (particles_in records) mass px py mass' px' py'
    finish h =
        subst (λ ps. Added (weight_in table) D nx ny ps mass px py mass' px' py') (take_all k (particles_in records) (omega (arith, h, count-in records))) so_far.added

    -- n records more, of m bytes
    module _ (n m : ℕ) (size : m ≡ record_length * n) (inside : k + n ≤ record_count records) where
      these-are : particles_in (take m (drop (record_length * k) records)) ≡ take n (drop k (particles_in records))
      these-are = particles-part records k n m size inside

      room : Room (total_mass (take k (particles_in records))) nx ny (take n (drop k (particles_in records))) mass' px' py'
      room = parts-room (particles_in records) ready.limits k n ready.kernel so_far.added ready.cleared

      pub part-ready : PartReady nx ny (take m (drop (record_length * k) records)) table D mass' px' py'
      part-ready =
          record {
            limits = subst (SetLimits nx ny) (sym these-are) (limits-part (particles_in records) ready.limits k n);
            kernel = ready.kernel;
            already = total_mass (take k (particles_in records));
            room = subst (λ ps. Room (total_mass (take k (particles_in records))) nx ny ps mass' px' py') (sym these-are) room;
          }

      pub turn : {mass'' : List ℕ} {px'' py'' : List ℤ} → Added (weight_in table) D nx ny (particles_in (take m (drop (record_length * k) records))) mass' px' py' mass'' px'' py'' → SoFar (weight_in table) D nx ny records mass px py mass'' px'' py'' (k + n)
      turn {mass''} {px''} {py''} a =
          record {
            within = inside;
            added =
                parts_added (particles_in records) ready.limits k n ready.kernel so_far.added
                (subst (λ ps. Added (weight_in table) D nx ny ps mass' px' py' mass'' px'' py'') these-are a);
          }

-- ---- the whole set

module _ {nx ny : ℕ} {records mass : List ℕ} {px py : List ℤ} (s : ScatterSet nx ny records mass px py) where
  pub add-ready : {table : List (List ℕ)} {D : ℕ} {mass' : List ℕ} {px' py' : List ℤ} → BuiltIn table D → mass' ≡ replicate (length mass) 0 → px' ≡ replicate (length px) (pos 0) → py' ≡ replicate (length py) (pos 0) → AddReady nx ny records table D mass' px' py'
  add-ready t of-mass of-px of-py =
      record {
        limits = accepted-set nx ny records s.set;
        kernel = built-in-kernel t;
        cleared = cleared-held mass px py of-mass of-px of-py 0 s.mass-long s.px-long s.py-long;
      }

-- with the weights and D of the spline
pub built-in-scattered : {nx ny : ℕ} {ps : List Particle} {table : List (List ℕ)} {d : ℕ} {mass : List ℕ} {px py : List ℤ} → BuiltIn table d → ScatteredGrids (weight_in table) d nx ny ps mass px py → ScatteredGrids axis_weight D nx ny ps mass px py
built-in-scattered {nx} {ny} {ps} {mass = mass} {px = px} {py = py} t h =
    subst₂ (λ w d. ScatteredGrids w d nx ny ps mass px py) (built-in-weights t) t.D-is h

-- ---- the operation

module _ (caller : Caller) (nx ny : ℕ) (mass : List ℕ) (px py : List ℤ) where
  module _ (records : List ℕ) {ps : List Particle} (e : scatter_answer caller nx ny records (length mass) (length px) (length py) ≡ gives ps) where
    pub scatter-set : ScatterSet nx ny records mass px py
    scatter-set =
        let a = accepted caller (still nx ny) (Three (length mass) (length px) (length py)) 0 records e in
        let l = long-three (nx * ny) (length mass) (length px) (length py) a.long in
        record { particles = ps; set = a.set; mass-long = l.mass-is; px-long = l.x-is; py-long = l.y-is }

    pub done-fills : {mass' : List ℕ} {px' py' : List ℤ} → ScatteredGrids axis_weight D nx ny (particles_in records) mass' px' py' → Fills nx ny (scatter_answer caller nx ny records (length mass) (length px) (length py)) mass px py done mass' px' py'
    unfolding scatter-set
    done-fills h =
        done-leaves (e ∙ ap gives (sym (particles_in-accepted nx ny records scatter-set.set)))
        (λ i. grids_of (h.of-mass i) (h.of-px i) (h.of-py i))
