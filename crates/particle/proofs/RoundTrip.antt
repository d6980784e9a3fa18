-- Records read and write back bit for bit (demand 2).
--     read_held         what a read that is not refused says of the bytes and of the particle
--     fields-hold       what a field of a record holds it can hold
--     record-of-read    the record of what was read is the bytes
--     read-write        what was read can be written, and any buffer of the length then holds the bytes
--     read-of-record    the record of a particle that can be written reads as the particle; `read-of-valid` says so of a valid one
--     write_read        after a write that is not refused, the buffer reads as the particle
--     record-length, record-small    a record has `record_length` elements, each below 256
-- Assumes nothing.
use Prim.Native.Nat.{ℕ, ◌<◌}
use native.Mathlib.Omega.{arith}
use mathlib.Core.Path.{◌≡◌, refl, sym, ap, subst, ◌∙◌}
use mathlib.Core.Bool.{Bool, true, false, ◌||◌}
use mathlib.Core.List.{List}
use borrow.Author.Tests.{eq-eqb, ne_eqb, eqb-false}
use lib.Dec.{eqb}
use lib.IntN.{pos, neg_ℤ, nat_abs}
use lib.ListN.{length, get_or, replicate}
use Rattle.refusal.specs.Refused.{gives}
use Rattle.refusal.proofs.Answers.{same-result, passed, length-passed}
use Rattle.limits.specs.Limits.{isℤ}
use Rattle.limits.proofs.Within.{above-lowest, size}
use Rattle.bits.specs.Internal.{Below}
use Rattle.bits.specs.Layout.{byte_widths, parts_of}
use Rattle.bits.proofs.Layouts.{CanHold, Proper, field_of, filled-length, filled-small, held-holds, packed-held, held-packed}
use Rattle.bits.proofs.Parts.{bytes_below}
use Rattle.bits.proofs.TwosComplement.{mag-le}
use Rattle.particle.specs.declared.Particle.{Particle}
use Rattle.particle.specs.Layout.{Name, identifier, mass, x, y, vx, vy, Bxx, Bxy, Byx, Byy, marks, layout, record_length, held}
use Rattle.particle.specs.Record.{particle_of, value_in, record_of, lowest_velocity, lowest_affine, read_particle, read_answer, write_particle, write_answer, written, Valid}
use Rattle.particle.proofs.Valid.{write-valid, valid-write}
use Rattle.particle.proofs.Writing.{after, judged, allowed}

-- ---- a record's length and bytes

pub record-length : (p : Particle) → length (record_of p) ≡ record_length
unfolding record_of
record-length p = filled-length layout (parts_of layout (value_in p))

pub record-small : (p : Particle) (k : ℕ) → get_or (record_of p) k 0 < 256
unfolding record_of
record-small p k = filled-small layout (parts_of layout (value_in p)) k

-- ---- reading

proper : Proper layout
proper = record { whole = refl; distinct-names = tt; each-named = named }
  where
    named : (a : Name) → (field_of layout a).name ≡ a
    named identifier = refl
    named mass = refl
    named x = refl
    named y = refl
    named vx = refl
    named vy = refl
    named Bxx = refl
    named Bxy = refl
    named Byx = refl
    named Byy = refl
    named marks = refl

neither : (a b : Bool) → (a || b) ≡ false → (a ≡ false) × (b ≡ false)
neither false b e = (refl, e)
neither true b e = absurd (let z : ◌≡◌ {A = Bool} true false = e in let o : ◌≡◌ {A = ℕ} 0 1 = cc in omega arith)

-- what each field of a record can hold
pub fields-hold : (bytes : List ℕ) (a : Name) → CanHold layout a (held a bytes)
fields-hold = held-holds proper

pub record Held (bytes : List ℕ) (p : Particle) : Type 0 where
  pub long : length bytes ≡ record_length
  pub holds : particle_of bytes ≡ p
  pub valid : Valid p
  pub identifier-below : p.identifier < 65536
  pub marks-below : p.marks < 256

pub read_held : (k : ℕ) (bytes : List ℕ) (p : Particle) → read_answer k bytes ≡ gives p → Held bytes p
unfolding read_answer read_particle particle_of
read_held k bytes p e =
    let q = particle_of bytes in
    let first : Bool = isℤ (neg_ℤ (pos 2048)) q.bxx || isℤ (neg_ℤ (pos 2048)) q.bxy in
    let second : Bool = isℤ (neg_ℤ (pos 2048)) q.byx || isℤ (neg_ℤ (pos 2048)) q.byy in
    let long = length-passed (length bytes) record_length _ e in
    let massive = passed (eqb q.mass 0) 4 k _ long.1 in
    let slow = passed (lowest_velocity q) 5 k _ massive.1 in
    let flat = passed (lowest_affine q) 6 k _ slow.1 in
    let same : q ≡ p = same-result flat.1 in
    let v = neither (isℤ (neg_ℤ (pos 64)) q.vx) (isℤ (neg_ℤ (pos 64)) q.vy) slow.0 in
    let b = neither first second flat.0 in
    let b₁ = neither (isℤ (neg_ℤ (pos 2048)) q.bxx) (isℤ (neg_ℤ (pos 2048)) q.bxy) b.0 in
    let b₂ = neither (isℤ (neg_ℤ (pos 2048)) q.byx) (isℤ (neg_ℤ (pos 2048)) q.byy) b.1 in
    let d = fields-hold bytes in
    let valid : Valid q =
    record {
      mass-from = omega (arith, eqb-false q.mass 0 massive.0);
      mass-to = omega (arith, d mass);
      vx-to = omega (arith, size 64 q.vx (d vx) v.0);
      vy-to = omega (arith, size 64 q.vy (d vy) v.1);
      bxx-to = omega (arith, size 2048 q.bxx (d Bxx) b₁.0);
      bxy-to = omega (arith, size 2048 q.bxy (d Bxy) b₁.1);
      byx-to = omega (arith, size 2048 q.byx (d Byx) b₂.0);
      byy-to = omega (arith, size 2048 q.byy (d Byy) b₂.1);
      x-to = omega (arith, d x);
      y-to = omega (arith, d y);
    } in
    record {
      long = long.0;
      holds = same;
      valid = subst Valid same valid;
      identifier-below = subst (λ r. r.identifier < 65536) same (d identifier);
      marks-below = subst (λ r. r.marks < 256) same (d marks);
    }

-- ---- read, then write

record-of-held : (bytes : List ℕ) → Below (byte_widths layout) bytes → record_of (particle_of bytes) ≡ bytes
unfolding record_of particle_of
record-of-held bytes b = packed-held proper bytes (value_in (particle_of bytes)) b same
  where
    same : (a : Name) → value_in (particle_of bytes) a ≡ held a bytes
    same identifier = refl
    same mass = refl
    same x = refl
    same y = refl
    same vx = refl
    same vy = refl
    same Bxx = refl
    same Bxy = refl
    same Byx = refl
    same Byy = refl
    same marks = refl

module _ (k : ℕ) (bytes : List ℕ) (p : Particle) (small : (i : ℕ) → get_or bytes i 0 < 256) (found : read_answer k bytes ≡ gives p) where
  pub record-of-read : record_of p ≡ bytes
  record-of-read =
      let h = read_held k bytes p found in
      ap record_of (sym h.holds)
      ∙ record-of-held bytes (subst (λ n. Below (replicate n 8) bytes) h.long (bytes_below bytes small))

  pub read-write : (buffer : List ℕ) → length buffer ≡ record_length → (write_answer p buffer ≡ gives tt) × (written p buffer ≡ bytes)
  read-write buffer e =
      let done = judged p buffer e ∙ valid-write p (read_held k bytes p found).valid in
      (done, after p buffer done ∙ record-of-read)

-- ---- write, then read

module _ (p : Particle) (identified : p.identifier < 65536) (marked : p.marks < 256) (valid : Valid p) where
  holds : (a : Name) → CanHold layout a (value_in p a)
  holds identifier = identified
  holds mass = omega (arith, valid.mass-to)
  holds x = omega (arith, valid.x-to)
  holds y = omega (arith, valid.y-to)
  holds vx = omega (arith, mag-le p.vx, valid.vx-to)
  holds vy = omega (arith, mag-le p.vy, valid.vy-to)
  holds Bxx = omega (arith, mag-le p.bxx, valid.bxx-to)
  holds Bxy = omega (arith, mag-le p.bxy, valid.bxy-to)
  holds Byx = omega (arith, mag-le p.byx, valid.byx-to)
  holds Byy = omega (arith, mag-le p.byy, valid.byy-to)
  holds marks = marked

  pub particle-of-record : particle_of (record_of p) ≡ p
  unfolding particle_of record_of
  particle-of-record =
      let again : (a : Name) → held a (record_of p) ≡ value_in p a = held-packed proper (value_in p) holds in
      λ i.
      record {
        identifier = nat_abs (again identifier i);
        mass = nat_abs (again mass i);
        x = nat_abs (again x i);
        y = nat_abs (again y i);
        vx = again vx i;
        vy = again vy i;
        bxx = again Bxx i;
        bxy = again Bxy i;
        byx = again Byx i;
        byy = again Byy i;
        marks = nat_abs (again marks i);
      }

  accepted : (k : ℕ) → read_particle k p ≡ gives p
  unfolding read_particle
  accepted k =
      simp (
        ne_eqb p.mass 0 (omega (arith, valid.mass-from)),
        above-lowest 64 p.vx (omega (arith, valid.vx-to)),
        above-lowest 64 p.vy (omega (arith, valid.vy-to)),
        above-lowest 2048 p.bxx (omega (arith, valid.bxx-to)),
        above-lowest 2048 p.bxy (omega (arith, valid.bxy-to)),
        above-lowest 2048 p.byx (omega (arith, valid.byx-to)),
        above-lowest 2048 p.byy (omega (arith, valid.byy-to)),
      )

  pub read-of-valid : (k : ℕ) → read_answer k (record_of p) ≡ gives p
  unfolding read_answer
  read-of-valid k =
      simp (eq-eqb (length (record_of p)) record_length (record-length p)) (ap (read_particle k) particle-of-record ∙ accepted k)

pub read-of-record : (k : ℕ) (p : Particle) → p.identifier < 65536 → p.marks < 256 → write_particle p ≡ gives tt → read_answer k (record_of p) ≡ gives p
read-of-record k p identified marked e = read-of-valid p identified marked (write-valid p e) k

pub write_read : (k : ℕ) (p : Particle) (buffer : List ℕ) → p.identifier < 65536 → p.marks < 256 → write_answer p buffer ≡ gives tt → read_answer k (written p buffer) ≡ gives p
write_read k p buffer identified marked done = ap (read_answer k) (after p buffer done) ∙ read-of-record k p identified marked (allowed p buffer done).1
