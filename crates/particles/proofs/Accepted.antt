-- What it means that a set is accepted, for those who doubt the walk: it breaks no limit, and its bytes are its particles'
-- records.
--     accepted-limits      an accepted set breaks no limit
--     accepted-within      nor any of its caller's
--     accepted-records     writing its particles back gives the set
--     within-accepted, limits-accepted     the records of particles that break no limit are accepted, as those particles
-- Assumes nothing.
use mathlib.Core.Path.{◌≡◌, refl, sym, ap, ap₂, ◌∙◌, subst}
use mathlib.Core.Bool.{true, false}
use mathlib.Core.List.{List, [], ◌∷◌, ◌++◌, append_assoc}
use Prim.Native.Nat.{ℕ, zero, suc, ◌+◌, ◌*◌, ◌-◌, ◌/◌, ◌%◌, ◌≤◌, ◌<◌, zero-le}
use native.Mathlib.Nat.{zero-add}
use native.Mathlib.Omega.{arith}
use lib.Dec.{T, leb, leb→le}
use lib.ListN.{length, take, drop, get_or, length-append, take-append-drop, drop_of_length-le}
use lib.Seq.{drop-drop, drop_at, take_at}
use mir.Facts.{and_yes}
use borrow.Author.Tests.{le-leb, le-ltb, eq-eqb, ltb-false}
use Rattle.refusal.specs.Refused.{gives, and_then}
use Rattle.refusal.proofs.Answers.{same-result}
use Rattle.arith.specs.Order.{is_true}
use Rattle.arith.specs.Sums.{Each}
use Rattle.spline.specs.Spline.{on_axis}
use Rattle.limits.specs.declared.Caller.{Caller}
use Rattle.limits.specs.declared.Caller.TheVariants.{Bench}
use Rattle.limits.specs.Limits.{most_side, most_position, most_records, most_total_mass, most_side_of, most_records_of, CallerLimits}
use Rattle.bits.proofs.Bytes.{small-part}
use Rattle.particle.specs.declared.Particle.{Particle}
use Rattle.particle.specs.Layout.{record_length}
use Rattle.particle.specs.Record.{read_answer, record_of, Valid}
use Rattle.particle.proofs.RoundTrip.{read_held, record-of-read, read-of-valid, record-length}
use Rattle.apic.specs.Totals.{total_mass}
use Rattle.apic.specs.Limits.{SizeLimits, ParticleLimits, Rising, SetLimits}
use Rattle.particles.specs.Set.{set_length, valid_length, record_at, record_count, records_of, checked_particle, set_from, too_many, set_answer}
use Rattle.particles.proofs.Checks.{ParticlePasses, taken, counted, entered, sides, sides-valid, size-limits, length-limits}

-- ---- no limit is broken

-- identifiers rise strictly, from `least` on
RisingFrom : ℕ → List Particle → Type 0
RisingFrom least [] = Unit {0}
RisingFrom least (p ∷ ps) = (least ≤ p.identifier) × RisingFrom (suc p.identifier) ps

rising : (least : ℕ) (ps : List Particle) → RisingFrom least ps → Rising ps
unfolding RisingFrom
rising least [] r = tt
rising least (p ∷ []) r = tt
rising least (p ∷ q ∷ ps) r = (r.1.0, rising (suc p.identifier) (q ∷ ps) r.1)

particle-limits : (nx ny least mass : ℕ) (p : Particle) → Valid p → p.identifier < 65536 → p.marks < 256 → ParticlePasses nx ny least mass p → ParticleLimits nx ny p
particle-limits nx ny least mass p v identified marked a =
    record {
      identifier = identified;
      mass-least = v.mass-from;
      mass-most = v.mass-to;
      vx = v.vx-to;
      vy = v.vy-to;
      bxx = v.bxx-to;
      bxy = v.bxy-to;
      byx = v.byx-to;
      byy = v.byy-to;
      x-on = a.on-x;
      y-on = a.on-y;
      marks = marked;
    }

record Within (nx ny least mass : ℕ) (ps : List Particle) : Type 0 where
  each : Each (ParticleLimits nx ny) ps
  rises : RisingFrom least ps
  light : mass + total_mass ps ≤ most_total_mass

module _ (nx ny start : ℕ) (bytes : List ℕ) where
  walk-within : (left k least mass : ℕ) {ps : List Particle} → mass ≤ most_total_mass → set_from nx ny start bytes left k least mass ≡ gives ps → Within nx ny least mass ps
  unfolding set_from RisingFrom
  walk-within zero k least mass m e =
      subst (Within nx ny least mass) (same-result e) (record { each = tt; rises = tt; light = omega arith })
  walk-within (suc left) k least mass m e =
      let t = taken nx ny start bytes left k least mass e in
      let h = read_held k (record_at start bytes k) t.head t.read in
      let w = walk-within left (suc k) (suc t.head.identifier) (mass + t.head.mass) t.particle-passes.light t.rest in
      subst (Within nx ny least mass) t.is
      (record {
        each = (particle-limits nx ny least mass t.head h.valid h.identifier-below h.marks-below t.particle-passes, w.each);
        rises = (t.particle-passes.above, w.rises);
        light = regroup mass t.head.mass (total_mass t.tail) w.light;
      })
    where
      regroup : (a b c : ℕ) → a + b + c ≤ most_total_mass → a + (b + c) ≤ most_total_mass
      regroup a b c h = omega arith

pub accepted-limits : (nx ny : ℕ) (bytes : List ℕ) {ps : List Particle} → set_answer Bench nx ny bytes ≡ gives ps → SetLimits nx ny ps
accepted-limits nx ny bytes {ps} e =
    let n = entered Bench nx ny bytes e in
    let w = walk-within nx ny 0 bytes (record_count bytes) 0 0 0 (omega arith) n.set in
    let c = counted nx ny 0 bytes (record_count bytes) 0 0 0 n.set in
    let l = length-limits (length bytes) n.whole in
    record {
      sizes = size-limits Bench nx ny n.size;
      count = rw c l.count;
      each = w.each;
      rising = rising 0 ps w.rises;
      mass = rw (zero-add (total_mass ps)) at w.light;
    }

pub accepted-within : (c : Caller) (nx ny : ℕ) (bytes : List ℕ) {ps : List Particle} → set_answer c nx ny bytes ≡ gives ps → CallerLimits c nx ny (length ps)
accepted-within c nx ny bytes {ps} e =
    let n = entered c nx ny bytes e in
    let s = sides (most_side_of c) nx ny n.size in
    record {
      x-within = s.x-most;
      y-within = s.y-most;
      records-within = rw (counted nx ny 0 bytes (record_count bytes) 0 0 0 n.set) (ltb-false (most_records_of c) (record_count bytes) n.few);
    }

-- ---- the bytes are the records

module _ (nx ny start : ℕ) (bytes : List ℕ) (small : (i : ℕ) → get_or bytes i 0 < 256) where
  walk-records : (left k least mass : ℕ) {ps : List Particle} → start + record_length * (k + left) ≡ length bytes → set_from nx ny start bytes left k least mass ≡ gives ps → drop (start + record_length * k) bytes ≡ records_of ps
  unfolding set_from records_of
  walk-records zero k least mass n e =
      let h : length bytes ≤ start + record_length * k = omega arith in
      drop_of_length-le bytes h ∙ ap records_of (same-result e)
  walk-records (suc left) k least mass n e =
      let t = taken nx ny start bytes left k least mass e in
      let h : record_of t.head ≡ record_at start bytes k = record-of-read k (record_at start bytes k) t.head (small-part bytes record_length (start + record_length * k) small) t.read in
      let w = walk-records left (suc k) (suc t.head.identifier) (mass + t.head.mass) (omega arith) t.rest in
      sym (take-append-drop record_length (drop (start + record_length * k) bytes))
      ∙ ap₂ ◌++◌ (sym h) (drop-drop record_length (start + record_length * k) bytes ∙ ap (λ m. drop m bytes) (next k) ∙ w)
      ∙ ap records_of t.is
    where
      next : (k : ℕ) → start + record_length * k + record_length ≡ start + record_length * suc k
      next k = omega arith

pub accepted-records : (nx ny : ℕ) (bytes : List ℕ) {ps : List Particle} → ((i : ℕ) → get_or bytes i 0 < 256) → set_answer Bench nx ny bytes ≡ gives ps → bytes ≡ records_of ps
accepted-records nx ny bytes small e =
    let n = entered Bench nx ny bytes e in
    walk-records nx ny 0 bytes small (record_count bytes) 0 0 0 (all (length-limits (length bytes) n.whole).whole) n.set
  where
    all : record_length * (length bytes / record_length) ≡ length bytes → 0 + record_length * (0 + length bytes / record_length) ≡ length bytes
    all h = omega arith

-- ---- and back

pub records-length : (ps : List Particle) → length (records_of ps) ≡ record_length * length ps
unfolding records_of
records-length [] = refl
records-length (p ∷ ps) = length-append (record_of p) (records_of ps) ∙ count (length (record_of p)) (length (records_of ps)) (length ps) (record-length p) (records-length ps)
  where
    count : (a b n : ℕ) → a ≡ record_length → b ≡ record_length * n → a + b ≡ record_length * suc n
    count a b n h g = omega arith

module _ (nx ny : ℕ) where
  particle-passes : (k least mass : ℕ) (p : Particle) → ParticleLimits nx ny p → least ≤ p.identifier → mass + p.mass ≤ most_total_mass → checked_particle nx ny k least mass p ≡ gives p
  unfolding checked_particle
  particle-passes k least mass p l h m =
      rw (
        is_true (on_axis nx p.x) l.x-on,
        is_true (on_axis ny p.y) l.y-on,
        le-ltb p.identifier least h,
        le-ltb most_total_mass (mass + p.mass) m,
      )

  -- a coordinate on an axis of at most most_side nodes fits its field
  on-axis-most : (n x : ℕ) → n ≤ most_side → T (on_axis n x) → x ≤ most_position
  unfolding on_axis
  on-axis-most n x h t =
      let l = leb→le x (64 * (n - 1) - 33) (and_yes (leb 32 x) (leb x (64 * (n - 1) - 33)) t).1 in
      omega arith

  pub particle-valid : (p : Particle) → SizeLimits nx ny → ParticleLimits nx ny p → Valid p
  particle-valid p sizes l =
      record {
        mass-from = l.mass-least;
        mass-to = l.mass-most;
        vx-to = l.vx;
        vy-to = l.vy;
        bxx-to = l.bxx;
        bxy-to = l.bxy;
        byx-to = l.byx;
        byy-to = l.byy;
        x-to = on-axis-most nx p.x sizes.x-most l.x-on;
        y-to = on-axis-most ny p.y sizes.y-most l.y-on;
      }

  first-record : (pre : List ℕ) (p : Particle) (rest : List ℕ) (start k : ℕ) → length pre ≡ start + record_length * k → record_at start (pre ++ (record_of p ++ rest)) k ≡ record_of p
  first-record pre p rest start k n =
      ap (take record_length) (drop_at pre (record_of p ++ rest) (start + record_length * k) n) ∙ take_at (record_of p) rest record_length (record-length p)

  walk-back : SizeLimits nx ny → (pre : List ℕ) (ps : List Particle) (start k least mass : ℕ) → length pre ≡ start + record_length * k → Within nx ny least mass ps → set_from nx ny start (pre ++ records_of ps) (length ps) k least mass ≡ gives ps
  unfolding set_from records_of RisingFrom
  walk-back sizes pre [] start k least mass n w = refl
  walk-back sizes pre (p ∷ ps) start k least mass n w =
      let further = walk-back sizes (pre ++ record_of p) ps start (suc k) (suc p.identifier) (mass + p.mass) longer (record { each = w.each.1; rises = w.rises.1; light = regroup mass p.mass (total_mass ps) w.light }) in
      rw (
        ap (read_answer k) (first-record pre p (records_of ps) start k n) ∙ read-of-valid p w.each.0.identifier w.each.0.marks (particle-valid p sizes w.each.0) k,
        particle-passes k least mass p w.each.0 w.rises.0 (first mass p.mass (total_mass ps) w.light),
      )
      (ap (λ a. and_then a (λ qs. gives (p ∷ qs))) (rw (append_assoc pre (record_of p) (records_of ps)) at further))
    where
      first : (a b c : ℕ) → a + (b + c) ≤ most_total_mass → a + b ≤ most_total_mass
      first a b c h = omega arith

      regroup : (a b c : ℕ) → a + (b + c) ≤ most_total_mass → a + b + c ≤ most_total_mass
      regroup a b c h = omega arith

      longer : length (pre ++ record_of p) ≡ start + record_length * suc k
      longer = length-append pre (record_of p) ∙ count (length pre) (length (record_of p)) n (record-length p)
        where
          count : (a b : ℕ) → a ≡ start + record_length * k → b ≡ record_length → a + b ≡ start + record_length * suc k
          count a b h g = omega arith

rising-from : (least : ℕ) (p : Particle) (ps : List Particle) → least ≤ p.identifier → Rising (p ∷ ps) → RisingFrom least (p ∷ ps)
unfolding RisingFrom
rising-from least p [] h r = (h, tt)
rising-from least p (q ∷ ps) h r = (h, rising-from (suc p.identifier) q ps r.0 r.1)

from_zero : (ps : List Particle) → Rising ps → RisingFrom 0 ps
unfolding RisingFrom
from_zero [] r = tt
from_zero (p ∷ ps) r = rising-from 0 p ps zero-le r

pub within-accepted : (c : Caller) (nx ny : ℕ) (ps : List Particle) → SetLimits nx ny ps → CallerLimits c nx ny (length ps) → set_answer c nx ny (records_of ps) ≡ gives ps
within-accepted c nx ny ps l w =
    let n = records-length ps in
    rw (
      sides-valid (record { x-least = l.sizes.x-least; x-most = w.x-within; y-least = l.sizes.y-least; y-most = w.y-within }),
      is_whole (length (records_of ps)) (length ps) n l.count,
      is-few (length (records_of ps)) (length ps) n w.records-within,
      counts (length (records_of ps)) (length ps) n,
    )
    (walk-back nx ny l.sizes [] ps 0 0 0 0 refl
    (record { each = l.each; rises = from_zero ps l.rising; light = rw (zero-add (total_mass ps)) l.mass }))
  where
    is_whole : (b n : ℕ) → b ≡ record_length * n → n ≤ most_records → valid_length b ≡ true
    is_whole b n e h = rw (eq-eqb (b % record_length) 0 (omega arith), le-leb b set_length (omega arith))

    counts : (b n : ℕ) → b ≡ record_length * n → b / record_length ≡ n
    counts b n e = omega arith

    is-few : (b n : ℕ) → b ≡ record_length * n → n ≤ most_records_of c → too_many c b ≡ false
    is-few b n e h = le-ltb (most_records_of c) (b / record_length) (rw (counts b n e) h)

pub limits-accepted : (nx ny : ℕ) (ps : List Particle) → SetLimits nx ny ps → set_answer Bench nx ny (records_of ps) ≡ gives ps
limits-accepted nx ny ps l =
    within-accepted Bench nx ny ps l
    (record { x-within = l.sizes.x-most; y-within = l.sizes.y-most; records-within = l.count })
