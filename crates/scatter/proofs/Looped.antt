-- The loop of `scatter_parts`: the particles of the records before those that are left are added, and the array has its room.
--     some-ready, array-room    what a part asks
--     begin, turn, finish       the loop
-- Assumes nothing.
use mathlib.Core.Path.{◌≡◌, refl, sym, ap, subst, ◌∙◌}
use mathlib.Core.List.{List, ◌++◌}
use Prim.Native.Nat.{ℕ, ◌+◌, ◌-◌, ◌*◌, ◌/◌, ◌≤◌, min}
use native.Mathlib.Omega.{arith}
use lib.ListN.{length, take, drop, length-append, length-drop, take-append-drop}
use lib.Seq.{take_at, drop_at, drop-drop, length-take-le}
use lib.IntN.{ℤ}
use Rattle.spline.specs.Kernel.{weight_in}
use Rattle.particle.specs.Layout.{record_length}
use Rattle.particles.specs.Set.{record_count, particles_in}
use Rattle.unpacked.specs.Unpacked.{per_particle}
use Rattle.scatter_particle.specs.Added.{Added}
use Rattle.transfer.specs.Internal.{part, PartsReady, PartReady}
use Rattle.transfer.proofs.Scatters as scatters

-- `left` are the bytes of the records that are left
pub record Looped (w : ℕ → ℕ → ℤ) (d nx ny : ℕ) (records left mass₀ : List ℕ) (px₀ py₀ array : List ℤ) (mass : List ℕ) (px py : List ℤ) : Type 0 where
  pub k : ℕ
  pub left-are : left ≡ drop (record_length * k) records
  pub added : scatters.SoFar w d nx ny records mass₀ px₀ py₀ mass px py k
  pub room : length array ≡ part * per_particle

module _ {nx ny : ℕ} {records : List ℕ} {array₀ : List ℤ} {table : List (List ℕ)} {d : ℕ} {mass₀ : List ℕ} {px₀ py₀ : List ℤ} (ready : PartsReady nx ny records array₀ table d mass₀ px₀ py₀) where
  pub begin : {left : List ℕ} → left ≡ records → Looped (weight_in table) d nx ny records left mass₀ px₀ py₀ array₀ mass₀ px₀ py₀
  begin e = record { k = 0; left-are = e; added = scatters.begin ready.ready; room = ready.room }

  module _ {left : List ℕ} {array : List ℤ} {mass : List ℕ} {px py : List ℤ} (looped : Looped (weight_in table) d nx ny records left mass₀ px₀ py₀ array mass px py) where
    long : length left ≡ length records - record_length * looped.k
    long = ap length looped.left-are ∙ length-drop (record_length * looped.k) records

    pub finish : length left ≡ 0 → Added (weight_in table) d nx ny (particles_in records) mass₀ px₀ py₀ mass px py
    finish none = scatters.finish ready.ready looped.added (omega (arith, long, none, ready.whole))

    -- a part, and those that are left behind it
    module _ (these behind : List ℕ) (cut : left ≡ these ++ behind) (size : length these ≡ min (part * record_length) (length left)) where
      n : ℕ
      n = length these / record_length

      bytes : length these ≡ record_length * n
      unfolding n
      bytes = omega (arith, size, long, ready.whole)

      inside : looped.k + n ≤ record_count records
      unfolding n
      inside = omega (arith, size, long, ready.whole, looped.added.within)

      these-are : take (length these) (drop (record_length * looped.k) records) ≡ these
      these-are = ap (take (length these)) (sym looped.left-are ∙ cut) ∙ take_at these behind (length these) refl

      behind-are : behind ≡ drop (record_length * (looped.k + n)) records
      behind-are =
          sym (drop_at these behind (length these) refl)
          ∙ ap (drop (length these)) (sym cut ∙ looped.left-are)
          ∙ drop-drop (length these) (record_length * looped.k) records
          ∙ ap (λ i. drop i records) (omega (arith, bytes))

      pub some-ready : PartReady nx ny these table d mass px py
      some-ready =
          subst (λ l. PartReady nx ny l table d mass px py) these-are
          (scatters.part-ready ready.ready looped.added n (length these) bytes inside)

      pub array-room : length (take (length these / record_length * per_particle) array) ≡ per_particle * record_count these
      array-room =
          length-take-le (length these / record_length * per_particle) array (omega (arith, size, looped.room)) ∙ omega arith

      pub turn : (i : ℕ) (numbers : List ℤ) {mass' : List ℕ} {px' py' : List ℤ} → length numbers ≡ length (take i array) → Added (weight_in table) d nx ny (particles_in these) mass px py mass' px' py' → Looped (weight_in table) d nx ny records behind mass₀ px₀ py₀ (numbers ++ drop i array) mass' px' py'
      turn i numbers {mass'} {px'} {py'} kept a =
          record {
            k = looped.k + n;
            left-are = behind-are;
            added =
                scatters.turn ready.ready looped.added n (length these) bytes inside
                (subst (λ l. Added (weight_in table) d nx ny (particles_in l) mass px py mass' px' py') (sym these-are) a);
            room =
                length-append numbers (drop i array)
                ∙ ap (λ l. l + length (drop i array)) kept
                ∙ sym (length-append (take i array) (drop i array))
                ∙ ap length (take-append-drop i array)
                ∙ looped.room;
          }
