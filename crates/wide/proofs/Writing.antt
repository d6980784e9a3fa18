-- A particle or a header whose numbers are cut to 16 bits is written as it would be with the numbers themselves.
-- Assumes nothing.
use mathlib.Core.Path.{◌≡◌, refl, sym, ap, ap₂, ◌∙◌}
use mathlib.Core.Bool.{not, ◌&&◌}
use mathlib.Core.List.{List}
use Prim.Native.Nat.{ℕ}
use native.Mathlib.Omega.{arith}
use lib.Dec.{lit<, lit≤, eqb}
use lib.IntN.{ℤ}
use lib.ListN.{length}
use Rattle.refusal.specs.Refused.{Answer, gives, refused, refuse_if, kept_unless}
use Rattle.refusal.proofs.Answers.{length-passed}
use Rattle.limits.specs.Limits.{least_mass, most_mass, most_velocity, most_affine, most_gravity, valid_mass, valid_position, valid_velocity, valid_affine, valid_gravity}
use Rattle.limits.specs.declared.Caller.TheVariants.{Bench}
use Rattle.particle.specs.declared.Particle.{Particle}
use Rattle.particle.specs.Layout.{record_length}
use Rattle.particle.specs.Record.{record_of, write_particle, write_answer, written}
use Rattle.particle.proofs.Valid.{write-valid}
use Rattle.bath_file.specs.declared.Header.{Header}
use Rattle.bath_file.specs.Layout.{header_length}
use Rattle.bath_file.specs.File.{checked_header, header_of}
use Rattle.bath_file.specs.File as file
use Rattle.bath_file.proofs.Checks.{header-checked, valid}
use Rattle.wide.specs.Internal.{capped, clamped, SameRecord, SameHeader}
use Rattle.wide.proofs.Narrowing.{same-most, same-least, kept, same-within, within-kept}

-- two values with the same answer, and the same value where it is a result, leave the same buffer
module _ {A : Type 0} (bytes_of : A → List ℕ) {p q : A} (old : List ℕ) where
  same_kept : (a : Answer Unit) → (a ≡ gives tt → p ≡ q) → kept_unless a (bytes_of p) old ≡ kept_unless a (bytes_of q) old
  same_kept (gives r) h = ap bytes_of (h refl)
  same_kept (refused n k) h = refl

  same-buffer : {a b : Answer Unit} → a ≡ b → (b ≡ gives tt → p ≡ q) → kept_unless a (bytes_of p) old ≡ kept_unless b (bytes_of q) old
  same-buffer {b = b} e same = ap (λ c. kept_unless c (bytes_of p) old) e ∙ same_kept b same

-- ---- a particle

abbrev pub narrowed : Particle → Particle
narrowed p =
    record {
      identifier = p.identifier;
      mass = capped 65535 p.mass;
      x = capped 65535 p.x;
      y = capped 65535 p.y;
      vx = clamped p.vx;
      vy = clamped p.vy;
      bxx = clamped p.bxx;
      bxy = clamped p.bxy;
      byx = clamped p.byx;
      byy = clamped p.byy;
      marks = p.marks;
    }

-- each field passes the same test
mass : (m : ℕ) → valid_mass (capped 65535 m) ≡ valid_mass m
mass m = ap₂ ◌&&◌ (same-least 65535 m {k = least_mass} (lit≤ tt)) (same-most 65535 m {k = most_mass} (lit< tt))

position : (a : ℕ) → valid_position (capped 65535 a) ≡ valid_position a
position a = same-most 65535 a (lit< tt)

velocity : (v : ℤ) → valid_velocity (clamped v) ≡ valid_velocity v
velocity = same-within most_velocity (lit< tt)

affine : (b : ℤ) → valid_affine (clamped b) ≡ valid_affine b
affine = same-within most_affine (lit< tt)

module _ (p : Particle) where
  same-judged : write_particle (narrowed p) ≡ write_particle p
  unfolding write_particle
  same-judged =
      λ i.
      refuse_if (not (mass p.mass i)) 4 0
      (refuse_if (not (velocity p.vx i && velocity p.vy i)) 5 0
      (refuse_if (not ((affine p.bxx i && affine p.bxy i) && (affine p.byx i && affine p.byy i))) 6 0
      (refuse_if (not (position p.x i && position p.y i)) 7 0
      (gives tt))))

  same-particle : write_particle p ≡ gives tt → narrowed p ≡ p
  same-particle e =
      let v = write-valid p e in
      λ i.
      record {
        identifier = p.identifier;
        mass = kept 65535 p.mass (omega (arith, v.mass-to)) i;
        x = kept 65535 p.x (omega (arith, v.x-to)) i;
        y = kept 65535 p.y (omega (arith, v.y-to)) i;
        vx = within-kept p.vx v.vx-to (lit< tt) i;
        vy = within-kept p.vy v.vy-to (lit< tt) i;
        bxx = within-kept p.bxx v.bxx-to (lit< tt) i;
        bxy = within-kept p.bxy v.bxy-to (lit< tt) i;
        byx = within-kept p.byx v.byx-to (lit< tt) i;
        byy = within-kept p.byy v.byy-to (lit< tt) i;
        marks = p.marks;
      }

  pub same-record : SameRecord (narrowed p) p
  unfolding write_answer written
  same-record =
      record {
        answer = same_answer;
        buffer = λ bytes.
            same-buffer record_of bytes (same_answer bytes)
            (λ e. same-particle (length-passed (length bytes) record_length (write_particle p) e).1);
      }
    where
      same_answer : (bytes : List ℕ) → write_answer (narrowed p) bytes ≡ write_answer p bytes
      same_answer bytes = ap (refuse_if (not (eqb (length bytes) record_length)) 1 0) same-judged

-- ---- a header

abbrev pub narrowed_header : Header → Header
narrowed_header h =
    record {
      nx = h.nx;
      ny = h.ny;
      gx = clamped h.gx;
      gy = clamped h.gy;
      count = h.count;
      steps = h.steps;
      kind = h.kind;
      width = h.width;
      drag = h.drag;
    }

gravity : (g : ℤ) → valid_gravity (clamped g) ≡ valid_gravity g
gravity = same-within most_gravity (lit< tt)

module _ (h : Header) where
  same-checked : checked_header {A = Unit} Bench (narrowed_header h) (gives tt) ≡ checked_header Bench h (gives tt)
  same-checked =
      header-checked Bench (narrowed_header h) (gives tt) refl (ap₂ ◌&&◌ (gravity h.gx) (gravity h.gy)) refl refl refl refl
      ∙ sym (header-checked Bench h (gives tt) refl refl refl refl refl refl)

  same-values : checked_header {A = Unit} Bench h (gives tt) ≡ gives tt → narrowed_header h ≡ h
  same-values e =
      let v = (valid Bench h (gives tt) e).0 in
      λ i.
      record {
        nx = h.nx;
        ny = h.ny;
        gx = within-kept h.gx v.gx-to (lit< tt) i;
        gy = within-kept h.gy v.gy-to (lit< tt) i;
        count = h.count;
        steps = h.steps;
        kind = h.kind;
        width = h.width;
        drag = h.drag;
      }

  pub same-header : SameHeader (narrowed_header h) h
  unfolding file.write_answer file.written
  same-header =
      record {
        answer = same_answer;
        buffer = λ bytes.
            same-buffer header_of bytes (same_answer bytes)
            (λ e. same-values (length-passed (length bytes) header_length (checked_header Bench h (gives tt)) e).1);
      }
    where
      same_answer : (bytes : List ℕ) → file.write_answer (narrowed_header h) bytes ≡ file.write_answer h bytes
      same_answer bytes = ap (refuse_if (not (eqb (length bytes) header_length)) 1 0) same-checked
