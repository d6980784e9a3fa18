-- Texts put one after the other into a buffer.
--     put-none            no text
--     put_then            a text behind a text
--     put-first           all that a buffer holds after its first text
--     room-first, room-second   room for two texts: for the first, and then for the second
--     room_as, put_as     the same of an equal text
-- Assumes nothing.
use Prim.Native.Nat.{ℕ, ◌+◌, ◌≤◌}
use native.Mathlib.Nat.{add_assoc, add-zero, zero-add}
use native.Mathlib.Omega.{arith}
use mathlib.Core.Path.{◌≡◌, refl, sym, ap, ap₂, subst, ◌∙◌}
use mathlib.Core.List.{List, [], ◌++◌}
use lib.ListN.{length, take, drop, length-append, take-append-drop}
use Rattle.std.specs.Borrow.{MutBor}
use Rattle.arith.specs.Lists.{placed, placed-length, placed-twice}
use Rattle.text.specs.declared.Text.{Text}
use Rattle.text.specs.Internal.{Begun, Room, Put}

module _ {t : Text} where
  put-length : {s : List ℕ} {t' : Text} → Put t s t' → length t'.buffer.now ≡ length t.buffer.now
  put-length {s} p = ap length p.buffer ∙ placed-length t.buffer.now t.length s p.fits

  pub put-none : t.length ≤ length t.buffer.now → Put t [] t
  put-none h =
      record {
        lent = refl;
        fits = omega arith;
        buffer = sym (ap (λ n. take t.length t.buffer.now ++ drop n t.buffer.now) (add-zero t.length) ∙ take-append-drop t.length t.buffer.now);
        length = sym (add-zero t.length);
      }

  pub put_then : {r s : List ℕ} {one two : Text} → Put t r one → Put one s two → Put t (r ++ s) two
  put_then {r} {s} {one} {two} p q =
      record {
        lent = q.lent ∙ p.lent;
        fits = rw (length-append r s) (omega (arith, put-length p, q.fits, p.length));
        buffer = q.buffer ∙ ap₂ (λ o e. placed o e s) p.buffer p.length ∙ placed-twice t.buffer.now t.length r p.fits s;
        length = q.length ∙ ap (λ n. n + length s) p.length ∙ add_assoc t.length (length r) (length s) ∙ ap (λ n. t.length + n) (sym (length-append r s));
      }

  pub put-first : {buffer : MutBor (List ℕ)} {s : List ℕ} {t' : Text} → Begun buffer t → Put t s t' → (t'.length ≡ length s) × (t'.buffer.now ≡ s ++ drop (length s) buffer.now)
  put-first {buffer} {s} b p =
      let n = zero-add (length s) in (
        p.length ∙ ap (λ k. k + length s) b.empty ∙ n,
        p.buffer ∙ ap₂ (λ o k. placed o k s) b.holds b.empty ∙ ap (λ m. s ++ drop m buffer.now) n,
      )

  pub room-first : (r s : List ℕ) → Room t (r ++ s) → Room t r
  room-first r s h = record { room = omega (arith, h.room, length-append r s) }

  pub room-second : (r s : List ℕ) {one : Text} → Room t (r ++ s) → Put t r one → Room one s
  room-second r s h p = record { room = rw (put-length p, p.length) (omega (arith, h.room, length-append r s)) }

  pub room_as : {r s : List ℕ} → r ≡ s → Room t r → Room t s
  room_as e h = subst (Room t) e h

  pub put_as : {r s : List ℕ} {t' : Text} → r ≡ s → Put t r t' → Put t s t'
  put_as {t' = t'} e p = subst (λ l. Put t l t') e p
