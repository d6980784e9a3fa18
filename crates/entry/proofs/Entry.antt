-- The checks at entry, and what is known where they pass.
--     kept-refusal                an answer whose value is changed is refused as the answer is
--     and-true, within_both, both-within, Long, long-three     the tests as facts
--     count_fits                  the number of nodes is a machine number
--     bad-gravity .. good-forces, passed-forces, forces-pass, forces-first
--                                 gravity, edge and drag, by their tests
--     bad-size .. too_many_steps, begins     the answer before the set, by its tests; bad-count is the caller's 3
--     Passed, passed-checks       what is known where it is done
--     Accepted, accepted          what is known where the set is accepted too
--     enters                      and what is enough for it
--     set-entry, set-begun        of an operation that is given a size and a set alone
-- Assumes nothing.
use mathlib.Core.Path.{◌≡◌, refl, sym, ap, ap₂, ◌∙◌}
use mathlib.Core.Bool.{Bool, true, false, not, ◌&&◌, true≢false}
use mathlib.Core.List.{List}
use Prim.Native.Nat.{ℕ, ◌*◌, ◌/◌, ◌≤◌, ◌<◌}
use native.Mathlib.Nat.{mul-le-mul, lt_of_le_of_lt}
use lib.Dec.{leb, ltb, eqb, lit<}
use lib.ListN.{length}
use lib.IntN.{ℤ, nat_abs}
use mir.Syntax.{w64}
use mir.Val.{Fits}
use borrow.Author.Tests.{eqb-true, eq-eqb, le-leb, leb-true, lt-ltb, le-ltb, ltb-false, not-false}
use Rattle.refusal.specs.Refused.{Answer, gives, refused, refuse_if, and_then, done}
use Rattle.refusal.proofs.Answers.{not-refused, same-refusal, passed, went_on}
use Rattle.particle.specs.declared.Particle.{Particle}
use Rattle.particle.specs.Layout.{record_length}
use Rattle.limits.specs.declared.Caller.{Caller}
use Rattle.limits.specs.declared.Caller.TheVariants.{Bench}
use Rattle.limits.specs.Limits.{most_gravity, most_drag, most_steps, most_side_of, most_records_of}
use Rattle.particles.specs.Set.{valid_size, valid_length, record_count, too_many, set_of, set_answer}
use Rattle.particles.proofs.Checks.{size-limits, good-entry, entered, bench-accepts}
use Rattle.settings.specs.declared.Settings.{Settings}
use Rattle.settings.specs.Settings.{valid_edge, ForceLimits, still}
use Rattle.entry.specs.declared.Buffers.{Buffers}
use Rattle.entry.specs.declared.Buffers.TheVariants.{None, Three}
use Rattle.entry.specs.Checks.{are_long, both_within}
use Rattle.entry.specs.Entry.{checked_forces, begin_answer, entry_answer}

-- ---- answers

pub kept-refusal : {A B : Type 0} (a : Answer A) (f : A → B) {n k : ℕ} → and_then a (λ x. gives (f x)) ≡ refused n k → a ≡ refused n k
kept-refusal (gives x) f e = not-refused e
kept-refusal (refused n k) f e = same-refusal e

-- ---- tests as facts

pub and-true : (a b : Bool) → a && b ≡ true → (a ≡ true) × (b ≡ true)
and-true true b e = (refl, e)
and-true false b e = absurd (true≢false (sym e))

pub within_both : (n : ℕ) (x y : ℤ) → both_within n x y ≡ true → (nat_abs x ≤ n) × (nat_abs y ≤ n)
within_both n x y e =
    let b = and-true (leb (nat_abs x) n) (leb (nat_abs y) n) e in
    (leb-true (nat_abs x) n b.0, leb-true (nat_abs y) n b.1)

pub both-within : (n : ℕ) (x y : ℤ) → nat_abs x ≤ n → nat_abs y ≤ n → both_within n x y ≡ true
both-within n x y h k = ap₂ ◌&&◌ (le-leb (nat_abs x) n h) (le-leb (nat_abs y) n k)

pub record Long (n mass x y : ℕ) : Type 0 where
  pub mass-is : mass ≡ n
  pub x-is : x ≡ n
  pub y-is : y ≡ n

pub long-three : (n mass x y : ℕ) → are_long n (Three mass x y) ≡ true → Long n mass x y
long-three n mass x y e =
    let a = and-true (eqb mass n) (eqb x n && eqb y n) e in
    let b = and-true (eqb x n) (eqb y n) a.1 in
    record { mass-is = eqb-true mass n a.0; x-is = eqb-true x n b.0; y-is = eqb-true y n b.1 }

pub three-long : {n mass x y : ℕ} → Long n mass x y → are_long n (Three mass x y) ≡ true
three-long {n} {mass} {x} {y} l = ap₂ ◌&&◌ (eq-eqb mass n l.mass-is) (ap₂ ◌&&◌ (eq-eqb x n l.x-is) (eq-eqb y n l.y-is))

pub count_fits : (c : Caller) (nx ny : ℕ) → valid_size (most_side_of c) nx ny ≡ true → Fits w64 (nx * ny)
count_fits c nx ny e =
    let s = size-limits c nx ny e in
    record { fits = lt_of_le_of_lt (mul-le-mul s.x-most s.y-most) (lit< tt) }

-- ---- gravity, edge and drag

module _ (s : Settings) where
  by-force : {a b c : Bool} (rest : Answer Unit) → both_within most_gravity s.gx s.gy ≡ a → valid_edge s.edge ≡ b → ltb most_drag s.drag ≡ c → checked_forces s rest ≡ refuse_if (not a) 10 0 (refuse_if (not b) 18 0 (refuse_if c 19 0 rest))
  unfolding checked_forces
  by-force rest p q r = rw (p, q, r)

  pub bad-gravity : (rest : Answer Unit) → both_within most_gravity s.gx s.gy ≡ false → checked_forces s rest ≡ refused 10 0
  bad-gravity rest p = by-force rest p refl refl

  pub bad-edge : (rest : Answer Unit) → both_within most_gravity s.gx s.gy ≡ true → valid_edge s.edge ≡ false → checked_forces s rest ≡ refused 18 0
  bad-edge rest p q = by-force rest p q refl

  pub bad-drag : (rest : Answer Unit) → both_within most_gravity s.gx s.gy ≡ true → valid_edge s.edge ≡ true → most_drag < s.drag → checked_forces s rest ≡ refused 19 0
  bad-drag rest p q r = by-force rest p q (lt-ltb most_drag s.drag r)

  pub good-forces : (rest : Answer Unit) → both_within most_gravity s.gx s.gy ≡ true → valid_edge s.edge ≡ true → s.drag ≤ most_drag → checked_forces s rest ≡ rest
  good-forces rest p q r = by-force rest p q (le-ltb most_drag s.drag r)

  passed-forces : (rest : Answer Unit) {t : Unit} → checked_forces s rest ≡ gives t → ForceLimits s × (rest ≡ gives t)
  unfolding checked_forces
  passed-forces rest e =
      let light = passed (not (both_within most_gravity s.gx s.gy)) 10 0 _ e in
      let edge = passed (not (valid_edge s.edge)) 18 0 _ light.1 in
      let slow = passed (ltb most_drag s.drag) 19 0 rest edge.1 in
      let g = within_both most_gravity s.gx s.gy (not-false (both_within most_gravity s.gx s.gy) light.0) in (
        record {
          gravity-x = g.0;
          gravity-y = g.1;
          edge = not-false (valid_edge s.edge) edge.0;
          drag = ltb-false most_drag s.drag slow.0;
        },
        slow.1,
      )

  pub forces-pass : ForceLimits s → (rest : Answer Unit) → checked_forces s rest ≡ rest
  forces-pass f rest =
      good-forces rest (both-within most_gravity s.gx s.gy f.gravity-x f.gravity-y) f.edge f.drag

  -- the checks alone decide, whatever comes after them
  forces-first : (rest : Answer Unit) → checked_forces s rest ≡ and_then (checked_forces s done) (λ _. rest)
  unfolding checked_forces
  forces-first rest = go (not (both_within most_gravity s.gx s.gy)) (not (valid_edge s.edge)) (ltb most_drag s.drag)
    where
      go : (a b c : Bool) → refuse_if a 10 0 (refuse_if b 18 0 (refuse_if c 19 0 rest)) ≡ and_then (refuse_if a 10 0 (refuse_if b 18 0 (refuse_if c 19 0 done))) (λ _. rest)
      go true b c = refl
      go false true c = refl
      go false false true = refl
      go false false false = refl

-- ---- before the set

module _ (caller : Caller) (s : Settings) (buffers : Buffers) (steps bytes : ℕ) where
  -- the checks after the lengths and the number of records
  abbrev pub further : Answer Unit
  further = checked_forces s (refuse_if (ltb most_steps steps) 17 0 done)

  by_tests : {a b c d : Bool} → valid_size (most_side_of caller) s.nx s.ny ≡ a → valid_length bytes ≡ b → are_long (s.nx * s.ny) buffers ≡ c → too_many caller bytes ≡ d → begin_answer caller s buffers steps bytes ≡ refuse_if (not a) 2 0 (refuse_if (not b) 1 0 (refuse_if (not c) 1 0 (refuse_if d 3 0 further)))
  unfolding begin_answer
  by_tests p q r t = rw (p, q, r, t)

  pub bad-size : valid_size (most_side_of caller) s.nx s.ny ≡ false → begin_answer caller s buffers steps bytes ≡ refused 2 0
  bad-size p = by_tests p refl refl refl

  pub bad-length : valid_size (most_side_of caller) s.nx s.ny ≡ true → valid_length bytes ≡ false → begin_answer caller s buffers steps bytes ≡ refused 1 0
  bad-length p q = by_tests p q refl refl

  pub bad-lengths : valid_size (most_side_of caller) s.nx s.ny ≡ true → valid_length bytes ≡ true → are_long (s.nx * s.ny) buffers ≡ false → begin_answer caller s buffers steps bytes ≡ refused 1 0
  bad-lengths p q r = by_tests p q r refl

  pub bad-count : valid_size (most_side_of caller) s.nx s.ny ≡ true → valid_length bytes ≡ true → are_long (s.nx * s.ny) buffers ≡ true → most_records_of caller < bytes / record_length → begin_answer caller s buffers steps bytes ≡ refused 3 0
  bad-count p q r t = by_tests p q r (lt-ltb (most_records_of caller) (bytes / record_length) t)

  -- the sizes and lengths are right, and there are not too many records
  pub record Passed : Type 0 where
    pub size : valid_size (most_side_of caller) s.nx s.ny ≡ true
    pub whole : valid_length bytes ≡ true
    pub long : are_long (s.nx * s.ny) buffers ≡ true
    pub few : too_many caller bytes ≡ false

  pub bad-forces : Passed → {n k : ℕ} → checked_forces s done ≡ refused n k → begin_answer caller s buffers steps bytes ≡ refused n k
  bad-forces h e = by_tests h.size h.whole h.long h.few ∙ forces-first s _ ∙ ap (λ a. and_then a (λ _. refuse_if (ltb most_steps steps) 17 0 done)) e

  by-steps : {b : Bool} → Passed → checked_forces s done ≡ done → ltb most_steps steps ≡ b → begin_answer caller s buffers steps bytes ≡ refuse_if b 17 0 done
  by-steps h f e =
      by_tests h.size h.whole h.long h.few ∙ forces-first s _
      ∙ ap₂ (λ a b. and_then a (λ _. refuse_if b 17 0 done)) f e

  pub too_many_steps : Passed → checked_forces s done ≡ done → most_steps < steps → begin_answer caller s buffers steps bytes ≡ refused 17 0
  too_many_steps h f e = by-steps h f (lt-ltb most_steps steps e)

  pub begins : Passed → checked_forces s done ≡ done → steps ≤ most_steps → begin_answer caller s buffers steps bytes ≡ done
  begins h f e = by-steps h f (le-ltb most_steps steps e)

  pub passed-checks : {t : Unit} → begin_answer caller s buffers steps bytes ≡ gives t → Passed × ForceLimits s × (steps ≤ most_steps)
  unfolding begin_answer
  passed-checks e =
      let size = passed (not (valid_size (most_side_of caller) s.nx s.ny)) 2 0 _ e in
      let whole = passed (not (valid_length bytes)) 1 0 _ size.1 in
      let long = passed (not (are_long (s.nx * s.ny) buffers)) 1 0 _ whole.1 in
      let few = passed (too_many caller bytes) 3 0 _ long.1 in
      let forces = passed-forces s (refuse_if (ltb most_steps steps) 17 0 done) few.1 in
      let repeated = passed (ltb most_steps steps) 17 0 done forces.1 in (
        record {
          size = not-false (valid_size (most_side_of caller) s.nx s.ny) size.0;
          whole = not-false (valid_length bytes) whole.0;
          long = not-false (are_long (s.nx * s.ny) buffers) long.0;
          few = few.0;
        },
        forces.0,
        ltb-false most_steps steps repeated.0,
      )

-- ---- and the set

-- the caller's check of the set accepts it, and so the bench's does
pub record Accepted (caller : Caller) (s : Settings) (buffers : Buffers) (steps : ℕ) (records : List ℕ) (ps : List Particle) : Type 0 where
  pub own : set_answer caller s.nx s.ny records ≡ gives ps
  pub set : set_answer Bench s.nx s.ny records ≡ gives ps
  pub long : are_long (s.nx * s.ny) buffers ≡ true
  pub forces : ForceLimits s
  pub few : steps ≤ most_steps

module _ (caller : Caller) (s : Settings) (buffers : Buffers) (steps : ℕ) (records : List ℕ) where
  pub begun : {a : Answer Unit} → begin_answer caller s buffers steps (length records) ≡ a → entry_answer caller s buffers steps records ≡ and_then a (λ _. set_of s.nx s.ny 0 records (record_count records))
  unfolding entry_answer
  begun e = ap (λ a. and_then a (λ _. set_of s.nx s.ny 0 records (record_count records))) e

  pub accepted : {ps : List Particle} → entry_answer caller s buffers steps records ≡ gives ps → Accepted caller s buffers steps records ps
  unfolding entry_answer
  accepted e =
      let w = went_on (begin_answer caller s buffers steps (length records)) _ e in
      let checks = passed-checks caller s buffers steps (length records) w.1 in
      let p = checks.0 in
      let own = good-entry caller s.nx s.ny records p.size p.whole p.few ∙ w.2 in
      record {
        own = own;
        set = bench-accepts caller s.nx s.ny records own;
        long = p.long;
        forces = checks.1;
        few = checks.2;
      }

  pub enters : {ps : List Particle} → set_answer caller s.nx s.ny records ≡ gives ps → are_long (s.nx * s.ny) buffers ≡ true → ForceLimits s → steps ≤ most_steps → entry_answer caller s buffers steps records ≡ gives ps
  enters own long forces few =
      let w = entered caller s.nx s.ny records own in
      begun
      (begins caller s buffers steps (length records)
      (record {
        size = w.size;
        whole = w.whole;
        long = long;
        few = w.few;
      })
      (forces-pass s forces done)
      few)
      ∙ w.set

-- ---- a size and a set alone

module _ (caller : Caller) (nx ny : ℕ) (records : List ℕ) where
  pub set-entry : entry_answer caller (still nx ny) None 0 records ≡ set_answer caller nx ny records
  unfolding entry_answer begin_answer checked_forces
  set-entry = go (not (valid_size (most_side_of caller) nx ny)) (not (valid_length (length records))) (too_many caller (length records))
    where
      walk : Answer (List Particle)
      walk = set_of nx ny 0 records (record_count records)

      go : (a b c : Bool) → and_then (refuse_if a 2 0 (refuse_if b 1 0 (refuse_if c 3 0 done))) (λ _. walk) ≡ refuse_if a 2 0 (refuse_if b 1 0 (refuse_if c 3 0 walk))
      go true b c = refl
      go false true c = refl
      go false false true = refl
      go false false false = refl

  -- what is made of it, by the checks before the records
  pub set-begun : {A : Type 0} {a : Answer Unit} (next : List Particle → Answer A) → begin_answer caller (still nx ny) None 0 (length records) ≡ a → and_then (set_answer caller nx ny records) next ≡ and_then (and_then a (λ _. set_of nx ny 0 records (record_count records))) next
  set-begun next e = ap (λ a. and_then a next) (sym set-entry ∙ begun caller (still nx ny) None 0 records e)
