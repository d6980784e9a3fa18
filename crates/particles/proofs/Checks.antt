-- The checks as facts: of sizes and lengths, of a record's length, and of an accepted set, record by record; what a caller is let in
-- with, the bench is too. Assumes nothing.
use mathlib.Core.Path.{◌≡◌, sym, ap, ap₂, ◌∙◌, subst}
use mathlib.Core.Bool.{Bool, true, false, not, ◌&&◌}
use mathlib.Core.List.{List, ◌∷◌}
use Prim.Native.Nat.{ℕ, zero, suc, ◌+◌, ◌*◌, ◌/◌, ◌%◌, ◌≤◌}
use native.Mathlib.Nat.{le_trans}
use native.Mathlib.Omega.{arith}
use lib.Dec.{T, leb, ltb, eqb, leb→le, eqb→eq}
use lib.ListN.{length, drop, length-drop}
use lib.Seq.{length-take-le}
use mir.Facts.{and_yes}
use borrow.Author.Tests.{not-false, ltb-false, le-leb, le-ltb}
use Rattle.refusal.specs.Refused.{gives}
use Rattle.refusal.proofs.Answers.{same-result, passed, right-length, went_on}
use Rattle.limits.specs.declared.Caller.{Caller}
use Rattle.limits.specs.declared.Caller.TheVariants.{Bench}
use Rattle.limits.specs.Limits.{least_side, most_records, most_total_mass, most_side_of}
use Rattle.limits.proofs.Callers.{side-most, same-side}
use Rattle.particle.specs.declared.Particle.{Particle}
use Rattle.particle.specs.Layout.{record_length}
use Rattle.particle.specs.Record.{particle_of, read_particle, read_answer}
use Rattle.spline.specs.Spline.{on_axis}
use Rattle.apic.specs.Limits.{SizeLimits}
use Rattle.particles.specs.Set.{valid_size, set_length, valid_length, record_at, record_count, on_grid, checked_particle, set_from, set_of, too_many, set_answer}

holds : {b : Bool} → b ≡ true → T b
holds e = subst T (sym e) tt

-- sizes from the least to a limit
pub record Sides (most nx ny : ℕ) : Type 0 where
  pub x-least : least_side ≤ nx
  pub x-most : nx ≤ most
  pub y-least : least_side ≤ ny
  pub y-most : ny ≤ most

pub sides : (most nx ny : ℕ) → valid_size most nx ny ≡ true → Sides most nx ny
sides most nx ny e =
    let xy = and_yes (leb least_side nx && leb nx most) (leb least_side ny && leb ny most) (holds e) in
    let x = and_yes (leb least_side nx) (leb nx most) xy.0 in
    let y = and_yes (leb least_side ny) (leb ny most) xy.1 in
    record {
      x-least = leb→le least_side nx x.0;
      x-most = leb→le nx most x.1;
      y-least = leb→le least_side ny y.0;
      y-most = leb→le ny most y.1;
    }

pub sides-valid : {most nx ny : ℕ} → Sides most nx ny → valid_size most nx ny ≡ true
sides-valid {most} {nx} {ny} s =
    rw (
      le-leb least_side nx s.x-least,
      le-leb nx most s.x-most,
      le-leb least_side ny s.y-least,
      le-leb ny most s.y-most,
    )

-- a caller's sizes are the engine's
pub size-limits : (c : Caller) (nx ny : ℕ) → valid_size (most_side_of c) nx ny ≡ true → SizeLimits nx ny
size-limits c nx ny e =
    let s = sides (most_side_of c) nx ny e in
    record {
      x-least = s.x-least;
      x-most = le_trans s.x-most (side-most c);
      y-least = s.y-least;
      y-most = le_trans s.y-most (side-most c);
    }

pub record LengthLimits (n : ℕ) : Type 0 where
  pub count : n / record_length ≤ most_records
  pub whole : record_length * (n / record_length) ≡ n

pub length-limits : (n : ℕ) → valid_length n ≡ true → LengthLimits n
length-limits n e =
    let both = and_yes (eqb (n % record_length) 0) (leb n set_length) (holds e) in
    facts (eqb→eq (n % record_length) 0 both.0) (leb→le n set_length both.1)
  where
    facts : n % record_length ≡ 0 → n ≤ set_length → LengthLimits n
    facts a b = record { count = omega arith; whole = omega arith }

-- ---- a record that is there

pub record-long : (start : ℕ) (bytes : List ℕ) (k : ℕ) → start + record_length * k + record_length ≤ length bytes → length (record_at start bytes k) ≡ record_length
record-long start bytes k h = length-take-le record_length (drop (start + record_length * k) bytes) (rw (length-drop (start + record_length * k) bytes) (omega arith))

pub read-long : (k : ℕ) (bytes : List ℕ) → length bytes ≡ record_length → read_answer k bytes ≡ read_particle k (particle_of bytes)
unfolding read_answer
read-long k bytes h = right-length (length bytes) record_length _ h

-- ---- an accepted set, record by record

-- what the checks of one record say of it
pub record ParticlePasses (nx ny least mass : ℕ) (p : Particle) : Type 0 where
  pub on-x : T (on_axis nx p.x)
  pub on-y : T (on_axis ny p.y)
  pub above : least ≤ p.identifier
  pub light : mass + p.mass ≤ most_total_mass

pub checked-facts : (nx ny k least mass : ℕ) (p : Particle) {q : Particle} → checked_particle nx ny k least mass p ≡ gives q → (p ≡ q) × ParticlePasses nx ny least mass p
unfolding checked_particle
checked-facts nx ny k least mass p e =
    let a = passed (not (on_grid nx ny p)) 7 k _ e in
    let b = passed (ltb p.identifier least) 8 k _ a.1 in
    let c = passed (ltb most_total_mass (mass + p.mass)) 9 k _ b.1 in
    let on = and_yes (on_axis nx p.x) (on_axis ny p.y) (holds (not-false (on_grid nx ny p) a.0)) in (
      same-result c.1,
      record {
        on-x = on.0;
        on-y = on.1;
        above = ltb-false p.identifier least b.0;
        light = ltb-false most_total_mass (mass + p.mass) c.0;
      },
    )

-- an accepted set begins with an accepted record, and the others are accepted after it
pub record Taken (nx ny start : ℕ) (bytes : List ℕ) (left k least mass : ℕ) (ps : List Particle) : Type 0 where
  pub head : Particle
  pub tail : List Particle
  pub is : head ∷ tail ≡ ps
  pub read : read_answer k (record_at start bytes k) ≡ gives head
  pub particle-passes : ParticlePasses nx ny least mass head
  pub rest : set_from nx ny start bytes left (suc k) (suc head.identifier) (mass + head.mass) ≡ gives tail

pub taken : (nx ny start : ℕ) (bytes : List ℕ) (left k least mass : ℕ) {ps : List Particle} → set_from nx ny start bytes (suc left) k least mass ≡ gives ps → Taken nx ny start bytes left k least mass ps
unfolding set_from
taken nx ny start bytes left k least mass {ps} e =
    let a = went_on (read_answer k (record_at start bytes k)) _ e in
    let b = went_on (checked_particle nx ny k least mass a.0) _ a.2 in
    let c = went_on (set_from nx ny start bytes left (suc k) (suc b.0.identifier) (mass + b.0.mass)) _ b.2 in
    let facts = checked-facts nx ny k least mass a.0 b.1 in
    record {
      head = b.0;
      tail = c.0;
      is = same-result c.2;
      read = a.1 ∙ ap gives facts.0;
      particle-passes = subst (ParticlePasses nx ny least mass) facts.0 facts.1;
      rest = c.1;
    }

pub counted : (nx ny start : ℕ) (bytes : List ℕ) (left k least mass : ℕ) {ps : List Particle} → set_from nx ny start bytes left k least mass ≡ gives ps → length ps ≡ left
unfolding set_from
counted nx ny start bytes zero k least mass e = ap length (sym (same-result e))
counted nx ny start bytes (suc left) k least mass e =
    let t = taken nx ny start bytes left k least mass e in
    ap length (sym t.is) ∙ ap suc (counted nx ny start bytes left (suc k) (suc t.head.identifier) (mass + t.head.mass) t.rest)

-- ---- the operations' answers

module _ (caller : Caller) (nx ny : ℕ) (bytes : List ℕ) where
  pub good-entry : valid_size (most_side_of caller) nx ny ≡ true → valid_length (length bytes) ≡ true → too_many caller (length bytes) ≡ false → set_answer caller nx ny bytes ≡ set_of nx ny 0 bytes (record_count bytes)
  good-entry e f g = rw (e, f, g)

  -- an accepted set passed the checks at entry
  pub record Entered (ps : List Particle) : Type 0 where
    pub size : valid_size (most_side_of caller) nx ny ≡ true
    pub whole : valid_length (length bytes) ≡ true
    pub few : too_many caller (length bytes) ≡ false
    pub set : set_of nx ny 0 bytes (record_count bytes) ≡ gives ps

  pub entered : {ps : List Particle} → set_answer caller nx ny bytes ≡ gives ps → Entered ps
  entered e =
      let a = passed (not (valid_size (most_side_of caller) nx ny)) 2 0 _ e in
      let b = passed (not (valid_length (length bytes))) 1 0 _ a.1 in
      let c = passed (too_many caller (length bytes)) 3 0 _ b.1 in
      record {
        size = not-false (valid_size (most_side_of caller) nx ny) a.0;
        whole = not-false (valid_length (length bytes)) b.0;
        few = c.0;
        set = c.1;
      }

-- at the bench no length that passes 1 is too many records
pub bench-few : (n : ℕ) → valid_length n ≡ true → too_many Bench n ≡ false
bench-few n e = le-ltb most_records (n / record_length) (length-limits n e).count

-- what a caller is let in with, the bench is too
pub bench-size : (c : Caller) (nx ny : ℕ) → valid_size (most_side_of c) nx ny ≡ true → valid_size (most_side_of Bench) nx ny ≡ true
bench-size c nx ny e =
    let s = size-limits c nx ny e in
    sides-valid (record { x-least = s.x-least; x-most = s.x-most; y-least = s.y-least; y-most = s.y-most })

-- within the caller's limits, sizes pass both tests or neither
pub same_size : (c : Caller) (nx ny : ℕ) → nx ≤ most_side_of c → ny ≤ most_side_of c → valid_size (most_side_of c) nx ny ≡ valid_size (most_side_of Bench) nx ny
same_size c nx ny x y = ap₂ (λ a b. (leb least_side nx && a) && (leb least_side ny && b)) (same-side c nx x) (same-side c ny y)

pub bench-accepts : (c : Caller) (nx ny : ℕ) (bytes : List ℕ) {ps : List Particle} → set_answer c nx ny bytes ≡ gives ps → set_answer Bench nx ny bytes ≡ gives ps
bench-accepts c nx ny bytes e =
    let n = entered c nx ny bytes e in
    good-entry Bench nx ny bytes (bench-size c nx ny n.size) n.whole (bench-few (length bytes) n.whole) ∙ n.set
