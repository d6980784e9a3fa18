-- Two's complement: a signed number and its bits, the difference of two naturals below zero, and a part read as an integer.
-- Assumes nothing.
use Prim.Native.Nat.{ℕ, zero, suc, ◌+◌, ◌-◌, ◌%◌, ◌^◌, ◌<◌, ◌≤◌}
use native.Mathlib.Nat.{le_refl, add-mod_right, mod-eq_of_lt}
use native.Mathlib.Omega.{arith}
use native.Mathlib.Decide.{dec_lt}
use mathlib.Core.Logic.{◌⊎◌, inl, inr, ⊎_elim}
use mathlib.Core.Path.{◌≡◌, refl, sym, ap, ap₂, ◌∙◌}
use borrow.Author.Tests.{lt-ltb, le-ltb}
use mir.Syntax.{w16}
use mir.Val.{to_z, of_z}
use mir.Facts.{to_z-of_z}
use lib.Signed.{mag}
use lib.IntN.{ℤ, pos, negsuc, nat_abs, ◌+ℤ◌, ◌-ℤ◌}
use Rattle.bits.specs.Bits.{twos_complement, residue}

-- an i16 is what its bits stand for
pub back : (z : ℤ) → mag z < 2 ^ 15 → to_z w16 (of_z w16 z) ≡ z
back z h = to_z-of_z {w = w16} {z = z} (record { sfits = h })

-- a test of two i16s is that of their numbers
pub tested : {A : Type 0} (f : ℤ → ℤ → A) (x y : ℤ) → mag x < 2 ^ 15 → mag y < 2 ^ 15 → {a : A} → a ≡ f (to_z w16 (of_z w16 x)) (to_z w16 (of_z w16 y)) → f x y ≡ a
tested f x y h k e = sym (e ∙ ap₂ f (back x h) (back y k))

pub mag-le : (z : ℤ) → mag z ≤ nat_abs z
mag-le (pos n) = le_refl n
mag-le (negsuc n) = omega arith

below-zero : (a b : ℕ) → a < b → pos a -ℤ pos b ≡ negsuc (b - suc a)
below-zero a zero h = absurd (omega arith)
below-zero a (suc m) h = simp (lt-ltb a (suc m) h)

pub lower-half : (half d : ℕ) → d < half → twos_complement half d ≡ pos d
lower-half half d h = simp (lt-ltb d half h)

pub upper-half : (half d : ℕ) → half ≤ d → d < half + half → twos_complement half d ≡ negsuc (half + half - suc d)
upper-half half d h k = simp (le-ltb d half h) (below-zero d (half + half) k)

-- a signed field that was read: its number is that of the part
pub signed_part : (half : ℕ) {z : ℤ} {d e : ℕ} → mag z < 2 ^ 15 → z ≡ twos_complement half d → d ≡ e → to_z w16 (of_z w16 z) ≡ twos_complement half e
signed_part half {z} h p q = back z h ∙ p ∙ ap (twos_complement half) q

pub residue-lt : (span : ℕ) (z : ℤ) → mag z < span → residue span z < span
residue-lt span (pos n) h = h
residue-lt span (negsuc n) h = omega arith

-- a signed field that is written: what `residue` asks of its number, and what it answers
module _ (span : ℕ) (z : ℤ) (typed : mag z < 2 ^ 15) where
  pub residue-asks : nat_abs z < span → span ≤ 16384 → (mag (to_z w16 (of_z w16 z)) < span) × (span ≤ 16384)
  residue-asks h k = rw (back z typed) (omega (arith, mag-le z), k)

  pub residue-is : {r : ℕ} → (r ≡ residue span (to_z w16 (of_z w16 z))) × (r < span) → r ≡ residue span z
  residue-is e = e.0 ∙ ap (residue span) (back z typed)

-- with the span added a number is not below zero, and its residue is left by a division
abbrev pub raised : ℕ → ℤ → ℕ
raised span (pos n) = n + span
raised span (negsuc n) = span - suc n

pub raised_is : (span : ℕ) (z : ℤ) → mag z < span → z +ℤ pos span ≡ pos (raised span z)
raised_is span (pos n) h = refl
raised_is span (negsuc n) h = simp (le-ltb span (suc n) h)

pub raised_lt : (span : ℕ) (z : ℤ) → mag z < span → raised span z < span + span
raised_lt span (pos n) h = omega arith
raised_lt span (negsuc n) h = omega arith

pub raised-mod : (span : ℕ) (z : ℤ) → mag z < span → raised span z % span ≡ residue span z
raised-mod span (pos n) h = add-mod_right n span ∙ mod-eq_of_lt h
raised-mod span (negsuc n) h = mod-eq_of_lt (residue-lt span (negsuc n) h)

-- ---- two's complement and back

pub decoded-residue : (half : ℕ) (z : ℤ) → mag z < half → twos_complement half (residue (half + half) z) ≡ z
decoded-residue half (pos n) h = lower-half half n h
decoded-residue half (negsuc n) h =
    let d = half + half - suc n in
    upper-half half d (omega arith) (omega arith) ∙ ap negsuc (omega arith)

-- a part in the lower or in the upper half
pub halves : (half d : ℕ) → (d < half) ⊎ (half ≤ d)
halves half d = elim (dec_lt d half) [ yes h ↦ inl h | no h ↦ inr (omega arith) ]

pub residue-decoded : (half d : ℕ) → d < half + half → residue (half + half) (twos_complement half d) ≡ d
residue-decoded half d h =
    ⊎_elim
    (λ low. ap (residue (half + half)) (lower-half half d low))
    (λ up. ap (residue (half + half)) (upper-half half d up h) ∙ omega arith)
    (halves half d)

pub decoded-mag : (half d : ℕ) → d < half + half → mag (twos_complement half d) < half
decoded-mag half d h =
    ⊎_elim
    (λ low. rw (lower-half half d low) low)
    (λ up. rw (upper-half half d up h) (omega arith))
    (halves half d)
