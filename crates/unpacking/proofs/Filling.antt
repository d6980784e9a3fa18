-- A list that is filled part by part, all parts of one length: the loops of `unpack_set` and `pack_set`.
--     Parts           `whole` joins the parts of particles, n elements each; number-parts and record-parts are the two cases
--     part-fits, part_end, part-behind
--                     a part in its place: it fits, its end, and what is behind
--     Filled          the loop's invariant: the first k parts are in their places; a law for its start, a turn and its end
-- Assumes nothing.
use mathlib.Core.Path.{◌≡◌, refl, sym, ap, ap₂, ◌∙◌, subst}
use mathlib.Core.List.{List, [], ◌∷◌, ◌++◌, append_assoc, append-nil}
use Prim.Native.Nat.{ℕ, ◌+◌, ◌*◌, ◌<◌, ◌≤◌}
use native.Mathlib.Nat.{add-zero, mul-zero, mul-suc, mul-le-mul_left}
use native.Mathlib.Numerals.{add-one}
use native.Mathlib.Omega.{arith}
use lib.ListN.{length, get_or, take, drop}
use lib.Seq.{take_all, take-suc}
use Rattle.arith.specs.Lists.{placed, placed-length, placed-take, placed-drop}
use Rattle.particle.specs.declared.Particle.{Particle}
use Rattle.particle.specs.Layout.{record_length}
use Rattle.particle.specs.Record.{record_of}
use Rattle.particle.proofs.RoundTrip.{record-length}
use Rattle.particles.specs.Set.{records_of}
use Rattle.unpacked.specs.Unpacked.{per_particle, numbers, unpacked}

pub record Parts {A : Type 0} (n : ℕ) (part : Particle → List A) (whole : List Particle → List A) : Type 0 where
  pub long : (p : Particle) → length (part p) ≡ n
  pub none : whole [] ≡ []
  pub next : (p : Particle) (ps : List Particle) → whole (p ∷ ps) ≡ part p ++ whole ps

pub number-parts : Parts per_particle numbers unpacked
unfolding unpacked
number-parts = record { long = λ p. refl; none = refl; next = λ p ps. refl }

pub record-parts : Parts record_length record_of records_of
unfolding records_of
record-parts = record { long = record-length; none = refl; next = λ p ps. refl }

-- the part of q at place k, in a list that has room for it
module _ {A : Type 0} {n : ℕ} {part : Particle → List A} {whole : List Particle → List A} (parts : Parts n part whole) (k : ℕ) (l : List A) (q : Particle) (room : n * k + n ≤ length l) where
  pub part-fits : n * k + length (part q) ≤ length l
  part-fits = subst (λ i. n * k + i ≤ length l) (sym (parts.long q)) room

  pub part_end : n * (k + 1) ≡ n * k + length (part q)
  part_end = ap (λ i. n * i) (add-one k) ∙ mul-suc n k ∙ ap (λ i. n * k + i) (sym (parts.long q))

  pub part-behind : drop (n * (k + 1)) (placed l (n * k) (part q)) ≡ drop (n * (k + 1)) l
  part-behind =
      ap (λ i. drop i (placed l (n * k) (part q))) end ∙ placed-drop l (n * k) (part q) part-fits 0 ∙ ap (λ i. drop i l) (sym end)
    where
      end : n * (k + 1) ≡ n * k + length (part q) + 0
      end = part_end ∙ sym (add-zero (n * k + length (part q)))

pub record Filled {A : Type 0} (n : ℕ) (whole : List Particle → List A) (ps : List Particle) (l : List A) (k : ℕ) : Type 0 where
  pub within : k ≤ length ps
  pub long : length l ≡ n * length ps
  pub done : take (n * k) l ≡ whole (take k ps)

module _ {A : Type 0} {n : ℕ} {part : Particle → List A} {whole : List Particle → List A} (parts : Parts n part whole) where
  one_more : (qs : List Particle) (q : Particle) → whole (qs ++ q ∷ []) ≡ whole qs ++ part q
  one_more [] q =
      parts.next q [] ∙ ap (λ l. part q ++ l) parts.none ∙ append-nil (part q) ∙ sym (ap (λ l. l ++ part q) parts.none)
  one_more (p ∷ qs) q =
      parts.next p (qs ++ q ∷ [])
      ∙ ap (λ l. part p ++ l) (one_more qs q)
      ∙ sym (append_assoc (part p) (whole qs) (part q))
      ∙ sym (ap (λ l. l ++ part q) (parts.next p qs))

  module _ {ps : List Particle} {l : List A} where
    pub filled-start : length l ≡ n * length ps → Filled n whole ps l 0
    filled-start e =
        record { within = omega arith; long = e; done = ap (λ i. take i l) (mul-zero n) ∙ sym parts.none }

    module _ {k : ℕ} (f : Filled n whole ps l k) where
      pub filled-room : k < length ps → n * k + n ≤ length l
      filled-room h =
          subst (λ i. n * k + n ≤ i) (sym f.long) (subst (λ i. i ≤ n * length ps) (mul-suc n k) (mul-le-mul_left n h))

      pub filled_next : {m : List A} {q : Particle} (d : Particle) → k < length ps → get_or ps k d ≡ q → m ≡ placed l (n * k) (part q) → Filled n whole ps m (k + 1)
      filled_next {q = q} d h at e =
          record {
            within = omega arith;
            long = ap length e ∙ placed-length l (n * k) (part q) (part-fits parts k l q (filled-room h)) ∙ f.long;
            done =
                ap₂ take (part_end parts k l q (filled-room h)) e
                ∙ placed-take l (n * k) (part q) (part-fits parts k l q (filled-room h))
                ∙ ap (λ t. t ++ part q) f.done
                ∙ sym (one_more (take k ps) q)
                ∙ ap whole
                (ap (λ x. take k ps ++ x ∷ []) (sym at) ∙ sym (take-suc ps k d h) ∙ ap (λ i. take i ps) (sym (add-one k)));
          }

      pub filled-end : length ps ≤ k → l ≡ whole ps
      filled-end h =
          sym (take_all (n * k) l (subst (λ i. i ≤ n * k) (sym f.long) (mul-le-mul_left n h)))
          ∙ f.done
          ∙ ap whole (take_all k ps h)
