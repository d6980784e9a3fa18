-- A refused set: the refusal names the first record that breaks a limit, and the first limit that it breaks.
--     refused-means      of the records alone
--     refused-set        of the operation: 2, 1, 3, or a record's limit
-- Assumes nothing.
use mathlib.Core.Path.{◌≡◌, refl, sym, ap, ◌∙◌, subst}
use mathlib.Core.Bool.{Bool, true, false, not}
use mathlib.Core.List.{List, [], ◌∷◌}
use mathlib.Core.Logic.{inl, inr}
use Prim.Native.Nat.{ℕ, zero, suc, ◌+◌, ◌*◌, ◌/◌, ◌≤◌, ◌<◌}
use native.Mathlib.Nat.{add_assoc, add-zero, zero-add}
use native.Mathlib.Omega.{arith}
use lib.Dec.{eqb}
use lib.ListN.{length}
use borrow.Author.Tests.{ltb-true}
use Rattle.refusal.specs.Refused.{Answer, gives, refused, refuse_if, and_then}
use Rattle.refusal.proofs.Answers.{same-result, not-result, not-refused}
use Rattle.limits.specs.declared.Caller.{Caller}
use Rattle.limits.specs.Limits.{most_side_of, most_records_of}
use Rattle.particle.specs.declared.Particle.{Particle}
use Rattle.particle.specs.Layout.{record_length}
use Rattle.particle.specs.Record.{particle_of, lowest_velocity, lowest_affine, read_particle, read_answer}
use Rattle.apic.specs.Totals.{total_mass}
use Rattle.particles.specs.Set.{valid_size, valid_length, record_at, record_count, checked_particle, set_from, set_of, too_many, set_answer}
use Rattle.particles.specs.Meaning.{least_after, limits_on, FirstBroken, here, later, Broken, Refuses}
use Rattle.particles.proofs.Checks.{length-limits, record-long, read-long}

-- ---- a list of checks at one place

checks : {A : Type 0} → List (ℕ × Bool) → ℕ → Answer A → Answer A
checks [] k rest = rest
checks (c ∷ cs) k rest = refuse_if c.1 c.0 k (checks cs k rest)

same_place : {A : Type 0} {m n j k : ℕ} → ◌≡◌ {A = Answer A} (refused m j) (refused n k) → k ≡ j
same_place e = cc

same_number : {A : Type 0} {m n j k : ℕ} → ◌≡◌ {A = Answer A} (refused m j) (refused n k) → m ≡ n
same_number e = cc

-- where a list of checks refuses, it tells its place and the first that is broken
first-fails : {A : Type 0} {cs : List (ℕ × Bool)} {k n j : ℕ} (t : Bool) (m : ℕ) (rest : Answer A) → (rest ≡ refused n j → (j ≡ k) × FirstBroken n cs) → refuse_if t m k rest ≡ refused n j → (j ≡ k) × FirstBroken n ((m, t) ∷ cs)
first-fails {cs = cs} true m rest h e = (same_place e, subst (λ x. FirstBroken x ((m, true) ∷ cs)) (same_number e) here)
first-fails false m rest h e = ((h e).0, later (h e).1)

checks-fail : {A : Type 0} (cs : List (ℕ × Bool)) {k n j : ℕ} (a : A) → checks cs k (gives a) ≡ refused n j → (j ≡ k) × FirstBroken n cs
unfolding checks
checks-fail [] a e = not-refused e
checks-fail (c ∷ cs) {k} a e = first-fails c.1 c.0 (checks cs k (gives a)) (λ h. checks-fail cs a h) e

passes : {A : Type 0} (t : Bool) (m k : ℕ) (rest : Answer A) {b : A} → refuse_if t m k rest ≡ gives b → rest ≡ gives b
passes true m k rest e = not-result e
passes false m k rest e = e

checks-pass : {A : Type 0} (cs : List (ℕ × Bool)) (k : ℕ) (a : A) {b : A} → checks cs k (gives a) ≡ gives b → a ≡ b
unfolding checks
checks-pass [] k a e = same-result e
checks-pass (c ∷ cs) k a e = checks-pass cs k a (passes c.1 c.0 k (checks cs k (gives a)) e)

-- ---- one record

module _ (nx ny start : ℕ) (bytes : List ℕ) where
  abbrev particle_in : ℕ → Particle
  particle_in k = particle_of (record_at start bytes k)

  abbrev all_checks : ℕ → ℕ → ℕ → Answer Particle
  all_checks k least mass = checks (limits_on nx ny least mass (particle_in k)) k (gives (particle_in k))

  -- the reader's checks and the set's are one list
  one_list : {B : Type 0} (k least mass : ℕ) (next : Particle → Answer B) → start + record_length * k + record_length ≤ length bytes → and_then (read_answer k (record_at start bytes k)) (λ p. and_then (checked_particle nx ny k least mass p) next) ≡ and_then (all_checks k least mass) next
  unfolding read_particle checked_particle checks
  one_list k least mass next h =
      rw (read-long k (record_at start bytes k) (record-long start bytes k h))
      (joined
      (eqb (particle_in k).mass 0)
      (lowest_velocity (particle_in k))
      (lowest_affine (particle_in k)))
    where
      joined : (a b c : Bool) → and_then (refuse_if a 4 k (refuse_if b 5 k (refuse_if c 6 k (gives (particle_in k))))) (λ p. and_then (checked_particle nx ny k least mass p) next) ≡ and_then (refuse_if a 4 k (refuse_if b 5 k (refuse_if c 6 k (checked_particle nx ny k least mass (particle_in k))))) next
      joined true b c = refl
      joined false true c = refl
      joined false false true = refl
      joined false false false = refl

  -- ---- the walk

  record FromHere (left k least mass n j : ℕ) : Type 0 where
    passed : ℕ
    before : List Particle
    at : j ≡ k + passed
    inside : passed < left
    set : set_from nx ny start bytes passed k least mass ≡ gives before
    first : FirstBroken n (limits_on nx ny (least_after least before) (mass + total_mass before) (particle_in j))

  abbrev further : ℕ → ℕ → ℕ → Particle → Answer (List Particle)
  further left k mass q = and_then (set_from nx ny start bytes left (suc k) (suc q.identifier) (mass + q.mass)) (λ ps. gives (q ∷ ps))

  opened : (left k least mass : ℕ) → start + record_length * k + record_length ≤ length bytes → set_from nx ny start bytes (suc left) k least mass ≡ and_then (all_checks k least mass) (further left k mass)
  unfolding set_from
  opened left k least mass h = one_list k least mass (further left k mass) h

  further-refused : {n j : ℕ} (a : Answer (List Particle)) (q : Particle) → and_then a (λ ps. gives (q ∷ ps)) ≡ refused n j → a ≡ refused n j
  further-refused (gives ps) q e = not-refused e
  further-refused (refused n j) q e = cc

  walk_refused : (left k least mass : ℕ) {n j : ℕ} → start + record_length * (k + left) ≤ length bytes → set_from nx ny start bytes left k least mass ≡ refused n j → FromHere left k least mass n j
  unfolding set_from
  walk_refused zero k least mass h e = not-refused e
  walk_refused (suc left) k least mass {n} {j} h e =
      turn (all_checks k least mass) refl (sym (opened left k least mass room) ∙ e)
      (λ g. walk_refused left (suc k) (suc (particle_in k).identifier) (mass + (particle_in k).mass) rest g)
    where
      room : start + record_length * k + record_length ≤ length bytes
      room = omega arith

      rest : start + record_length * (suc k + left) ≤ length bytes
      rest = omega arith

      moved : FromHere left (suc k) (suc (particle_in k).identifier) (mass + (particle_in k).mass) n j → all_checks k least mass ≡ gives (particle_in k) → FromHere (suc left) k least mass n j
      moved f g =
          record {
            passed = suc f.passed;
            before = particle_in k ∷ f.before;
            at = shift f.passed f.at;
            inside = inside-more f.passed f.inside;
            set =
                opened f.passed k least mass room
                ∙ ap (λ a. and_then a (further f.passed k mass)) g
                ∙ ap (λ a. and_then a (λ ps. gives (particle_in k ∷ ps))) f.set;
            first =
                subst (λ m. FirstBroken n (limits_on nx ny (least_after (suc (particle_in k).identifier) f.before) m (particle_in j)))
                (add_assoc mass (particle_in k).mass (total_mass f.before))
                f.first;
          }
        where
          shift : (m : ℕ) → j ≡ suc k + m → j ≡ k + suc m
          shift m h = omega arith

          inside-more : (m : ℕ) → m < left → suc m < suc left
          inside-more m h = omega arith

      turn : (a : Answer Particle) → all_checks k least mass ≡ a → and_then a (further left k mass) ≡ refused n j → (set_from nx ny start bytes left (suc k) (suc (particle_in k).identifier) (mass + (particle_in k).mass) ≡ refused n j → FromHere left (suc k) (suc (particle_in k).identifier) (mass + (particle_in k).mass) n j) → FromHere (suc left) k least mass n j
      turn (refused m i) g e again =
          let f = checks-fail (limits_on nx ny least mass (particle_in k)) (particle_in k) (g ∙ told e) in
          record {
            passed = 0;
            before = [];
            at = f.0 ∙ sym (add-zero k);
            inside = omega arith;
            set = refl;
            first =
                subst (λ m. FirstBroken n (limits_on nx ny least m (particle_in j))) (sym (add-zero mass))
                (subst (λ i. FirstBroken n (limits_on nx ny least mass (particle_in i))) (sym f.0) f.1);
          }
        where
          told : ◌≡◌ {A = Answer (List Particle)} (refused m i) (refused n j) → ◌≡◌ {A = Answer Particle} (refused m i) (refused n j)
          told e = cc
      turn (gives q) g e again =
          let same : particle_in k ≡ q = checks-pass (limits_on nx ny least mass (particle_in k)) k (particle_in k) g in
          let e' = subst (λ p. further left k mass p ≡ refused n j) (sym same) e in
          moved (again (further-refused _ (particle_in k) e')) (g ∙ ap gives (sym same))

  pub refused-means : (count n k : ℕ) → start + record_length * count ≤ length bytes → set_of nx ny start bytes count ≡ refused n k → Broken nx ny start bytes count n k
  refused-means count n k h e =
      let f = walk_refused count 0 0 0 (rw (zero-add count) h) e in
      record {
        before = f.before;
        inside = rw (f.at, zero-add f.passed) f.inside;
        set = ap (λ m. set_from nx ny start bytes m 0 0 0) (f.at ∙ zero-add f.passed) ∙ f.set;
        first = subst (λ m. FirstBroken n (limits_on nx ny (least_after 0 f.before) m (particle_in k))) (zero-add (total_mass f.before)) f.first;
      }

-- ---- the operation

pub refused-set : (caller : Caller) (nx ny : ℕ) (bytes : List ℕ) {n k : ℕ} → set_answer caller nx ny bytes ≡ refused n k → Refuses caller nx ny bytes n k
refused-set caller nx ny bytes {n} {k} e = size (valid_size (most_side_of caller) nx ny) refl e
  where
    walk : Answer (List Particle)
    walk = set_of nx ny 0 bytes (record_count bytes)

    all : valid_length (length bytes) ≡ true → 0 + record_length * (length bytes / record_length) ≤ length bytes
    all h = room (length-limits (length bytes) h).whole
      where
        room : record_length * (length bytes / record_length) ≡ length bytes → 0 + record_length * (length bytes / record_length) ≤ length bytes
        room g = omega arith

    few : valid_size (most_side_of caller) nx ny ≡ true → valid_length (length bytes) ≡ true → (b : Bool) → too_many caller (length bytes) ≡ b → refuse_if b 3 0 walk ≡ refused n k → Refuses caller nx ny bytes n k
    few s h true g e = inr (inr (inl (sym (same_number e), same_place e, s, h, ltb-true (most_records_of caller) (record_count bytes) g)))
    few s h false g e = inr (inr (inr (refused-means nx ny 0 bytes (record_count bytes) n k (all h) e)))

    whole : valid_size (most_side_of caller) nx ny ≡ true → (b : Bool) → valid_length (length bytes) ≡ b → refuse_if (not b) 1 0 (refuse_if (too_many caller (length bytes)) 3 0 walk) ≡ refused n k → Refuses caller nx ny bytes n k
    whole s false g e = inr (inl (sym (same_number e), same_place e, s, g))
    whole s true g e = few s g (too_many caller (length bytes)) refl e

    size : (b : Bool) → valid_size (most_side_of caller) nx ny ≡ b → refuse_if (not b) 2 0 (refuse_if (not (valid_length (length bytes))) 1 0 (refuse_if (too_many caller (length bytes)) 3 0 walk)) ≡ refused n k → Refuses caller nx ny bytes n k
    size false g e = inl (sym (same_number e), same_place e, g)
    size true g e = whole g (valid_length (length bytes)) refl e
