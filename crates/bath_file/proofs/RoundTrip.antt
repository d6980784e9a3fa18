-- Headers read and write back bit for bit, and a file of a header and a set that break no limit is accepted.
--     header-of-read    the header of what was read is the file's first bytes
--     read-write        what was read can be written, and any buffer of the length then holds those bytes
--     read-of-header    bytes that begin with those of a valid header read as that header
--     write_read        after a write that is not refused, the buffer, with anything behind it, reads as the header
-- Assumes nothing.
use Prim.Native.Nat.{ℕ, ◌<◌}
use native.Mathlib.Omega.{arith}
use mathlib.Core.Path.{◌≡◌, refl, sym, ap, subst, ◌∙◌}
use mathlib.Core.Bool.{true, ◌&&◌}
use mathlib.Core.List.{List, ◌++◌}
use borrow.Author.Tests.{eqb-true}
use lib.Dec.{eqb}
use lib.IntN.{pos, nat_abs}
use lib.ListN.{length, get_or, take, replicate, length-append}
use lib.Seq.{length-take-le, take_at}
use Rattle.refusal.specs.Refused.{gives}
use Rattle.bits.specs.Internal.{Below}
use Rattle.bits.specs.Layout.{byte_widths, parts_of}
use Rattle.bits.proofs.Bytes.{small-part}
use Rattle.bits.proofs.Layouts.{CanHold, Proper, field_of, filled-length, packed-held, held-packed}
use Rattle.bits.proofs.Parts.{bytes_below}
use Rattle.bits.proofs.TwosComplement.{mag-le}
use Rattle.limits.specs.declared.Caller.{Caller}
use Rattle.limits.specs.declared.Caller.TheVariants.{Bench}
use Rattle.limits.proofs.Within.{both}
use Rattle.apic.specs.Limits.{SizeLimits}
use Rattle.particles.proofs.Checks.{size-limits}
use Rattle.bath_file.specs.declared.Header.{Header}
use Rattle.bath_file.specs.Layout.{Name, nx, ny, gx, gy, count, steps, spare_after_steps, kind, width, drag, spare_after_drag, layout, header_length, held}
use Rattle.bath_file.specs.File.{header_in, value_in, header_of, spare_is_zero, header_answer, write_answer, written}
use Rattle.bath_file.proofs.Checks.{Valid, bench-valid, EdgeLimits, edge-limits, passes}
use Rattle.bath_file.proofs.Answers.{header-held, header-accepted, after, write-accepted, allowed}

pub header-length : (h : Header) → length (header_of h) ≡ header_length
unfolding header_of
header-length h = filled-length layout (parts_of layout (value_in h))

proper : Proper layout
proper = record { whole = refl; distinct-names = tt; each-named = named }
  where
    named : (a : Name) → (field_of layout a).name ≡ a
    named nx = refl
    named ny = refl
    named gx = refl
    named gy = refl
    named count = refl
    named steps = refl
    named spare_after_steps = refl
    named kind = refl
    named width = refl
    named drag = refl
    named spare_after_drag = refl

-- ---- read, then write

header-of-held : (bytes : List ℕ) → Below (byte_widths layout) bytes → spare_is_zero bytes ≡ true → header_of (header_in bytes) ≡ bytes
unfolding header_of header_in
header-of-held bytes b none = packed-held proper bytes (value_in (header_in bytes)) b same
  where
    size : Name → ℕ
    size a = nat_abs (held a bytes)

    zero : (size spare_after_steps ≡ 0) × (size spare_after_drag ≡ 0)
    zero =
        let t = both (eqb (size spare_after_steps) 0) (eqb (size spare_after_drag) 0) none in
        (eqb-true (size spare_after_steps) 0 t.0, eqb-true (size spare_after_drag) 0 t.1)

    same : (a : Name) → value_in (header_in bytes) a ≡ held a bytes
    same nx = refl
    same ny = refl
    same gx = refl
    same gy = refl
    same count = refl
    same steps = refl
    same spare_after_steps = ap pos (sym zero.0)
    same kind = refl
    same width = refl
    same drag = refl
    same spare_after_drag = ap pos (sym zero.1)

module _ (c : Caller) (bytes : List ℕ) (h : Header) (small : (i : ℕ) → get_or bytes i 0 < 256) (found : header_answer c bytes ≡ gives h) where
  pub header-of-read : header_of h ≡ take header_length bytes
  header-of-read =
      let f = header-held c bytes found in
      let first = take header_length bytes in
      let below = bytes_below first (small-part bytes header_length 0 small) in
      ap header_of (sym f.holds)
      ∙ header-of-held first (subst (λ n. Below (replicate n 8) first) (length-take-le header_length bytes f.long) below) f.spare

  pub read-write : (buffer : List ℕ) → length buffer ≡ header_length → (write_answer h buffer ≡ gives tt) × (written h buffer ≡ take header_length bytes)
  read-write buffer e =
      let done = write-accepted h buffer e (bench-valid c h (header-held c bytes found).valid) in
      (done, after h buffer done ∙ header-of-read)

-- ---- write, then read

module _ (h : Header) (valid : Valid Bench h) where
  sizes : SizeLimits h.nx h.ny
  sizes = size-limits Bench h.nx h.ny valid.size

  edges : EdgeLimits h.kind h.width
  edges = edge-limits h.kind h.width valid.edge

  holds : (a : Name) → CanHold layout a (value_in h a)
  holds nx = omega (arith, sizes.x-most)
  holds ny = omega (arith, sizes.y-most)
  holds gx = omega (arith, mag-le h.gx, valid.gx-to)
  holds gy = omega (arith, mag-le h.gy, valid.gy-to)
  holds count = omega (arith, valid.count-to)
  holds steps = omega (arith, valid.steps-to)
  holds spare_after_steps = omega arith
  holds kind = omega (arith, edges.kind-to)
  holds width = omega (arith, edges.width-to)
  holds drag = omega (arith, valid.drag-to)
  holds spare_after_drag = omega arith

  again : (a : Name) → held a (header_of h) ≡ value_in h a
  unfolding header_of
  again = held-packed proper (value_in h) holds

  header-of-header : header_in (header_of h) ≡ h
  unfolding header_in
  header-of-header =
      λ i.
      record {
        nx = nat_abs (again nx i);
        ny = nat_abs (again ny i);
        gx = again gx i;
        gy = again gy i;
        count = nat_abs (again count i);
        steps = nat_abs (again steps i);
        kind = nat_abs (again kind i);
        width = nat_abs (again width i);
        drag = nat_abs (again drag i);
      }

  pub read-of-header : (rest : List ℕ) → header_answer Bench (header_of h ++ rest) ≡ gives h
  read-of-header rest =
      let bytes = header_of h ++ rest in
      let first : take header_length bytes ≡ header_of h = take_at (header_of h) rest header_length (header-length h) in
      let reads : header_in (take header_length bytes) ≡ h = ap header_in first ∙ header-of-header in
      header-accepted Bench bytes
      (omega (arith, length-append (header_of h) rest, header-length h))
      (passes Bench (header_in (take header_length bytes)) _ (subst (Valid Bench) (sym reads) valid) ∙ ap gives reads)
      (ap spare_is_zero first ∙ λ i. eqb (nat_abs (again spare_after_steps i)) 0 && eqb (nat_abs (again spare_after_drag i)) 0)

pub write_read : (h : Header) (buffer rest : List ℕ) → write_answer h buffer ≡ gives tt → header_answer Bench (written h buffer ++ rest) ≡ gives h
write_read h buffer rest done =
    ap (λ l. header_answer Bench (l ++ rest)) (after h buffer done) ∙ read-of-header h (allowed h buffer done).1 rest
