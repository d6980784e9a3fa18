-- A loop over the records of a set, turn by turn, and the check as such a loop.
--     part-is                the part that the reader is handed
--     found, not_found       one record, by the record reader's answer
--     Carried                what a loop carries along
--     folded                 the same after some particles
--     rest                   what is left from here on
--     rest-none, rest-next, rest-refused      its laws: no record left, one checked_particle, one refused
--     Left                   that this is the whole, in a loop's invariant, with a law for each way on
--     light-passed           the mass after a particle that passes is a set's
--     Checking               the invariant of the check's loop, with the same laws
-- Assumes nothing.
use mathlib.Core.Path.{◌≡◌, refl, sym, ap, ◌∙◌, subst}
use mathlib.Core.List.{List, [], ◌∷◌}
use Prim.Native.Nat.{ℕ, zero, suc, ◌+◌, ◌-◌, ◌*◌, ◌≤◌, ◌<◌}
use native.Mathlib.Nat.{sub-zero}
use native.Mathlib.Numerals.{add-one}
use lib.Dec.{lit≤}
use native.Mathlib.Omega.{arith}
use lib.ListN.{length, take, drop}
use Rattle.std.specs.Prelude.{Result, Ok, Err}
use Rattle.refusal.specs.Refused.{Answer, gives, refused, refused_by, told, and_then}
use Rattle.refusal.specs.declared.Refusal.{Refusal}
use Rattle.refusal.proofs.Answers.{same-result, not-refused, not-result, same-refusal, went_on}
use Rattle.limits.specs.Limits.{most_total_mass}
use Rattle.particle.specs.declared.Particle.{Particle}
use Rattle.particle.specs.Layout.{record_length}
use Rattle.particle.specs.Record.{read_answer}
use Rattle.particles.specs.declared.Entry.{Entry}
use Rattle.particles.specs.Set.{record_at, checked_particle, set_from, set_of}
use Rattle.particles.specs.Walk.{followed, check_particle, check_record, counted}
use Rattle.particles.proofs.Checks.{checked-facts, counted as all-counted}

-- the part that the reader is handed is the record
pub part-is : (at : ℕ) (bytes : List ℕ) → take (at + record_length - at) (drop at bytes) ≡ take record_length (drop at bytes)
part-is at bytes = ap (λ n. take n (drop at bytes)) room
  where
    room : at + record_length - at ≡ record_length
    room = omega arith

module _ {S : Type 0} (start k : ℕ) (bytes : List ℕ) (next : Particle → Answer S) (r : Result Particle Refusal) (answer : told r ≡ read_answer k (take (start + record_length * k + record_length - (start + record_length * k)) (drop (start + record_length * k) bytes))) where
  is-record : told r ≡ read_answer k (record_at start bytes k)
  is-record = answer ∙ ap (read_answer k) (part-is (start + record_length * k) bytes)

  pub found : {q : Particle} {a : Answer S} → r ≡ Ok q → a ≡ next q → a ≡ and_then (read_answer k (record_at start bytes k)) next
  found e h = h ∙ ap (λ b. and_then b next) (ap told (sym e) ∙ is-record)

  pub not_found : (e : Refusal) → r ≡ Err e → refused_by e ≡ and_then (read_answer k (record_at start bytes k)) next
  not_found e h = ap (λ b. and_then b next) (ap told (sym h) ∙ is-record)

-- ---- what is left of a loop over the records

more : {k count : ℕ} → k < count → count - k ≡ suc (count - (k + 1))
more h = omega arith

-- what such a loop carries along, of which the set's checks see an entry, and what it gives in the end
pub record Carried (S B : Type 0) : Type 0 where
  pub entry : S → Entry
  pub add : S → Particle → S
  pub close : S → B
  pub kept : (s : S) (q : Particle) → followed (entry s) q ≡ entry (add s q)

module _ {S B : Type 0} (w : Carried S B) where
  unfoldable pub folded : S → List Particle → S
  folded s [] = s
  folded s (q ∷ qs) = folded (w.add s q) qs

  module _ (nx ny start : ℕ) (bytes : List ℕ) where
    abbrev set_at : ℕ → ℕ → Entry → Answer (List Particle)
    set_at left k e = set_from nx ny start bytes left k e.least e.mass

    unfoldable pub rest : ℕ → ℕ → S → Answer B
    rest left k s = and_then (set_at left k (w.entry s)) (λ ps. gives (w.close (folded s ps)))

    pub rest-none : (k : ℕ) (s : S) → rest zero k s ≡ gives (w.close s)
    unfolding rest set_from folded
    rest-none k s = refl

    -- one turn, with the answers of the reader and of the set's checks as they come
    module _ (left k : ℕ) (s : S) where
      abbrev further : Particle → Answer (List Particle)
      further q = and_then (set_at left (suc k) (followed (w.entry s) q)) (λ ps. gives (q ∷ ps))

      abbrev through : Answer Particle → Answer B
      through a = and_then (and_then a further) (λ ps. gives (w.close (folded s ps)))

      abbrev turn : Answer Particle → Answer S
      turn a = and_then a (λ q. gives (w.add s q))

      abbrev checks : Particle → Answer Particle
      checks p = checked_particle nx ny k (w.entry s).least (w.entry s).mass p

      one_more : (q : Particle) → through (gives q) ≡ rest left (suc k) (w.add s q)
      unfolding rest folded
      one_more q =
          go (set_at left (suc k) (followed (w.entry s) q))
          ∙ ap (λ e. and_then (set_at left (suc k) e) (λ ps. gives (w.close (folded (w.add s q) ps)))) (w.kept s q)
        where
          go : (a : Answer (List Particle)) → and_then (and_then a (λ ps. gives (q ∷ ps))) (λ ps. gives (w.close (folded s ps))) ≡ and_then a (λ ps. gives (w.close (folded (w.add s q) ps)))
          go (gives ps) = refl
          go (refused n j) = refl

      next-checked_particle : (a : Answer Particle) {t : S} → turn a ≡ gives t → through a ≡ rest left (suc k) t
      next-checked_particle (gives q) e = one_more q ∙ ap (rest left (suc k)) (same-result e)
      next-checked_particle (refused n j) e = not-result e

      next-refused : (a : Answer Particle) {n j : ℕ} → turn a ≡ refused n j → through a ≡ refused n j
      next-refused (gives q) e = not-refused e
      next-refused (refused n' j') e = same-refusal e

      -- the same with the reader's answer in front
      abbrev all-through : Answer Particle → Answer B
      all-through a = and_then (and_then a (λ p. and_then (checks p) further)) (λ ps. gives (w.close (folded s ps)))

      opened : rest (suc left) k s ≡ all-through (read_answer k (record_at start bytes k))
      unfolding rest set_from
      opened = refl

      record-checked_particle : (a : Answer Particle) {t : S} → and_then a (λ p. turn (checks p)) ≡ gives t → all-through a ≡ rest left (suc k) t
      record-checked_particle (gives p) e = next-checked_particle (checks p) e
      record-checked_particle (refused n j) e = not-result e

      record-refused : (a : Answer Particle) {n j : ℕ} → and_then a (λ p. turn (checks p)) ≡ refused n j → all-through a ≡ refused n j
      record-refused (gives p) e = next-refused (checks p) e
      record-refused (refused n' j') e = same-refusal e

      pub rest-next : {t : S} → and_then (read_answer k (record_at start bytes k)) (λ p. turn (checks p)) ≡ gives t → rest (suc left) k s ≡ rest left (suc k) t
      rest-next e = opened ∙ record-checked_particle (read_answer k (record_at start bytes k)) e

      pub rest-refused : {n j : ℕ} → and_then (read_answer k (record_at start bytes k)) (λ p. turn (checks p)) ≡ refused n j → rest (suc left) k s ≡ refused n j
      rest-refused e = opened ∙ record-refused (read_answer k (record_at start bytes k)) e

    -- ---- in a loop that has come to record k of `count`

    pub record Left (count : ℕ) (whole : Answer B) (s : S) (k : ℕ) : Type 0 where
      pub within : k ≤ count
      pub leaves : rest (count - k) k s ≡ whole

    abbrev turn_at : ℕ → S → Answer S
    turn_at k s = and_then (read_answer k (record_at start bytes k)) (λ p. and_then (checked_particle nx ny k (w.entry s).least (w.entry s).mass p) (λ q. gives (w.add s q)))

    module _ (count : ℕ) (whole : Answer B) where
      pub left-start : (s : S) → rest count 0 s ≡ whole → Left count whole s 0
      left-start s e = record { within = omega arith; leaves = ap (λ n. rest n 0 s) (sub-zero count) ∙ e }

      pub left-next : (s : S) (k : ℕ) (t : S) → Left count whole s k → k < count → turn_at k s ≡ gives t → Left count whole t (k + 1)
      left-next s k t l h e =
          record {
            within = omega arith;
            leaves =
                ap (λ n. rest (count - (k + 1)) n t) (add-one k)
                ∙ sym (rest-next (count - (k + 1)) k s e)
                ∙ ap (λ n. rest n k s) (sym (more h))
                ∙ l.leaves;
          }

      pub left-refused : (s : S) (k : ℕ) {n j : ℕ} → Left count whole s k → k < count → turn_at k s ≡ refused n j → refused n j ≡ whole
      left-refused s k l h e = sym (rest-refused (count - (k + 1)) k s e) ∙ ap (λ n. rest n k s) (sym (more h)) ∙ l.leaves

      pub left_end : (s : S) (k : ℕ) → Left count whole s k → count ≤ k → gives (w.close s) ≡ whole
      left_end s k l h = sym (rest-none k s) ∙ ap (λ n. rest n k s) (sym (done h)) ∙ l.leaves
        where
          done : count ≤ k → count - k ≡ 0
          done h = omega arith

-- ---- the check

-- it gives the number of records that it was to check
abbrev checking : ℕ → Carried Entry ℕ
checking count = record { entry = λ e. e; add = followed; close = λ e. count; kept = λ e q. refl }

abbrev start-of-check : Entry
start-of-check = record { least = 0; mass = 0 }

pub record Checking (nx ny start : ℕ) (bytes : List ℕ) (count : ℕ) (e : Entry) (k : ℕ) : Type 0 where
  pub light : e.mass ≤ most_total_mass
  pub left : Left (checking count) nx ny start bytes count (counted nx ny start bytes count) e k

-- the mass after a particle that passes
pub light-passed : (nx ny k : ℕ) (e : Entry) (p : Particle) {t : Entry} → check_particle nx ny k e p ≡ gives t → t.mass ≤ most_total_mass
light-passed nx ny k e p h =
    let b = went_on (checked_particle nx ny k e.least e.mass p) (λ q. gives (followed e q)) h in
    let facts = checked-facts nx ny k e.least e.mass p b.1 in
    subst (λ x. x.mass ≤ most_total_mass) (same-result b.2) (subst (λ q. e.mass + q.mass ≤ most_total_mass) facts.0 facts.1.light)

module _ (nx ny start : ℕ) (bytes : List ℕ) where
  -- the mass after a record that is checked_particle
  light-after : (k : ℕ) (e : Entry) {t : Entry} → check_record nx ny start bytes k e ≡ gives t → t.mass ≤ most_total_mass
  light-after k e h =
      let a = went_on (read_answer k (record_at start bytes k)) (λ p. check_particle nx ny k e p) h in
      light-passed nx ny k e a.0 a.2

  checks-all : (count : ℕ) → rest (checking count) nx ny start bytes count 0 start-of-check ≡ counted nx ny start bytes count
  unfolding rest
  checks-all count = go (set_of nx ny start bytes count) refl
    where
      go : (a : Answer (List Particle)) → set_of nx ny start bytes count ≡ a → and_then a (λ ps. gives count) ≡ and_then a (λ ps. gives (length ps))
      go (gives ps) e = ap gives (sym (all-counted nx ny start bytes count 0 0 0 e))
      go (refused n j) e = refl

module _ {nx ny start : ℕ} {bytes : List ℕ} {count : ℕ} where
  pub checking-start : Checking nx ny start bytes count start-of-check 0
  checking-start =
      record { light = lit≤ tt; left = left-start (checking count) nx ny start bytes count (counted nx ny start bytes count) start-of-check (checks-all nx ny start bytes count) }

  pub checking-next : {e : Entry} {k : ℕ} (t : Entry) → Checking nx ny start bytes count e k → k < count → gives t ≡ check_record nx ny start bytes k e → Checking nx ny start bytes count t (k + 1)
  checking-next {e} {k} t w h answer =
      record {
        light = light-after nx ny start bytes k e (sym answer);
        left = left-next (checking count) nx ny start bytes count (counted nx ny start bytes count) e k t w.left h (sym answer);
      }

  pub checking-refused : {e : Entry} {k : ℕ} (f : Refusal) → Checking nx ny start bytes count e k → k < count → refused_by f ≡ check_record nx ny start bytes k e → refused_by f ≡ counted nx ny start bytes count
  checking-refused {e} {k} f w h answer =
      left-refused (checking count) nx ny start bytes count (counted nx ny start bytes count) e k w.left h (sym answer)

  pub checking-end : {e : Entry} {k : ℕ} → Checking nx ny start bytes count e k → count ≤ k → gives count ≡ counted nx ny start bytes count
  checking-end {e} {k} w h = left_end (checking count) nx ny start bytes count (counted nx ny start bytes count) e k w.left h
