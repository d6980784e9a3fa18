-- n records from record k on, which have m bytes.
--     count-part, particles-part     how many they are, and the particles in them
-- Assumes nothing.
use mathlib.Core.Path.{◌≡◌, sym, ap, ap₂, subst, ◌∙◌}
use mathlib.Core.List.{List}
use Prim.Native.Nat.{ℕ, ◌+◌, ◌-◌, ◌*◌, ◌/◌, ◌<◌, ◌≤◌}
use native.Mathlib.Omega.{arith}
use lib.ListN.{length, get_or, take, drop, length-drop}
use lib.Seq.{take-take, drop-drop, get_or-take, get_or-drop, ext_get_or}
use Rattle.arith.specs.Lists.{drop-take, length_part}
use Rattle.particle.specs.Layout.{record_length}
use Rattle.particle.specs.Record.{particle_of}
use Rattle.particles.specs.Set.{record_at, record_count, particle_in, particles_in}
use Rattle.unpacking.proofs.Sets.{count-in, in-at}

module _ (bytes : List ℕ) (k n m : ℕ) (size : m ≡ record_length * n) (inside : k + n ≤ record_count bytes) where
  abbrev part : List ℕ
  part = take m (drop (record_length * k) bytes)

  pub count-part : record_count part ≡ n
  count-part = ap (λ l. l / record_length) (length_part (record_length * k) m bytes (omega arith)) ∙ omega arith

  record-in : (i : ℕ) → i < n → record_at 0 part i ≡ record_at 0 bytes (k + i)
  record-in i b =
      ap₂ (λ a l. take record_length (drop a (take l (drop (record_length * k) bytes)))) at all
      ∙ ap (take record_length) (drop-take (record_length * i) (m - record_length * i) (drop (record_length * k) bytes) (omega (arith, length-drop (record_length * k) bytes)))
      ∙ take-take record_length (m - record_length * i) (drop (record_length * i) (drop (record_length * k) bytes)) (omega arith)
      ∙ ap (take record_length) (drop-drop (record_length * i) (record_length * k) bytes ∙ ap (λ a. drop a bytes) place)
    where
      at : 0 + record_length * i ≡ record_length * i
      at = omega arith

      all : m ≡ record_length * i + (m - record_length * i)
      all = omega arith

      place : record_length * k + record_length * i ≡ 0 + record_length * (k + i)
      place = omega arith

  pub particles-part : particles_in part ≡ take n (drop k (particles_in bytes))
  particles-part =
      ext_get_or (particle_in bytes 0) (particles_in part) (take n (drop k (particles_in bytes))) (many ∙ sym there) each
    where
      many : length (particles_in part) ≡ n
      many = count-in part ∙ count-part

      there : length (take n (drop k (particles_in bytes))) ≡ n
      there = length_part k n (particles_in bytes) (omega (arith, count-in bytes))

      each : (i : ℕ) → i < length (particles_in part) → get_or (particles_in part) i (particle_in bytes 0) ≡ get_or (take n (drop k (particles_in bytes))) i (particle_in bytes 0)
      each i b =
          let c = subst (λ l. i < l) many b in
          in-at part i (particle_in bytes 0) (subst (λ l. i < l) (sym count-part) c)
          ∙ ap particle_of (record-in i c)
          ∙ sym (get_or-take n (drop k (particles_in bytes)) i (particle_in bytes 0) c
          ∙ get_or-drop k (particles_in bytes) i (particle_in bytes 0)
          ∙ in-at bytes (k + i) (particle_in bytes 0) (omega arith))
