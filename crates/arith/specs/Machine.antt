-- A signed machine number that holds an integer: what reads its bits back gets that integer.
--     same-fits, same_read           a number that equals one that fits
--     read, read-bound               a number within a bound, and that it stays there
--     read-size, read_as             the same from its size, or after an equation
--     read-natural                   an unsigned number within a bound, read as a signed one
--     read_result                    what a call answers
--     fits₂, result₂                 an operation on two numbers that are as meant: its result is as meant where it fits
--     widened, narrowed              through a wider type and back; with `-fits`, that the cast is allowed
--     lowest-bit                     a number's parity, by a mask
-- In one line: `read w64 h tt : to_z w64 (of_z w64 z) ≡ z`, where `h : Bound z 4095`: `tt` compares two numerals.
-- Assumes nothing.
use Rattle.std.specs.Prelude.{◌≡◌, ℕ, suc, ◌-◌, ◌%◌, ◌≤◌, ◌<◌, ◌^◌, T, leb, ltb, ℤ, pos, negsuc, nat_abs}
use Rattle.std.proofs.Common.{sym, ap, ap₂, subst, ◌∙◌, lt_of_le_of_lt, arith, ltb→lt, to_z-of_z}
use Rattle.std.specs.Int.Signed.{mag}
use Rattle.std.specs.Int.Bits.{bit_and}
use Rattle.std.proofs.lemmas.Nat.{and_mask}
use Rattle.std.specs.Int.{Width, w64}
use mir.Val.{SFits, to_z, of_z, hbits}
use Rattle.std.proofs.Math.Facts.{to_z_pos, sfits_widen}
use Rattle.arith.specs.Size.{Bound, bound-equal, size-given, fits}

module _ {w : Width} {y z : ℤ} (e : y ≡ z) (f : SFits w z) where
  pub same-fits : SFits w y
  same-fits = subst (SFits w) (sym e) f

  pub same_read : to_z w (of_z w y) ≡ z
  same_read = ap (λ x. to_z w (of_z w x)) e ∙ to_z-of_z f

-- ---- within a bound

module _ (w : Width) {z : ℤ} {n : ℕ} (h : Bound z n) (t : T (ltb n (2 ^ hbits w))) where
  pub read : to_z w (of_z w z) ≡ z
  read = to_z-of_z (fits (size-given h) t)

  pub read-bound : Bound (to_z w (of_z w z)) n
  read-bound = bound-equal (sym read) h

pub read-size : (w : Width) (z : ℤ) {n : ℕ} → nat_abs z ≤ n → T (ltb n (2 ^ hbits w)) → to_z w (of_z w z) ≡ z
read-size w z h t = read w (record { size = h }) t

pub read_as : (w : Width) {y z : ℤ} {n : ℕ} → y ≡ z → Bound z n → T (ltb n (2 ^ hbits w)) → to_z w (of_z w y) ≡ z
read_as w e h t = same_read e (fits (size-given h) t)

pub read-natural : (w : Width) {m n : ℕ} → m ≤ n → T (ltb n (2 ^ hbits w)) → to_z w m ≡ pos m
read-natural w {m} {n} h t = to_z_pos w (lt_of_le_of_lt h (ltb→lt n (2 ^ hbits w) t))

-- the answer y of a call, its size and what is promised of it
pub read_result : (w : Width) {y z : ℤ} → mag y < 2 ^ hbits w → y ≡ z → to_z w (of_z w y) ≡ z
read_result w h e = to_z-of_z (record { sfits = h }) ∙ e

-- ---- an operation

module _ {w : Width} (op : ℤ → ℤ → ℤ) {a b a' b' : ℤ} (p : a' ≡ a) (q : b' ≡ b) (f : SFits w (op a b)) where
  pub fits₂ : SFits w (op a' b')
  fits₂ = same-fits (ap₂ op p q) f

  pub result₂ : to_z w (of_z w (op a' b')) ≡ op a b
  result₂ = same_read (ap₂ op p q) f

-- ---- two widths

module _ (v w : Width) (t : T (leb (hbits v) (hbits w))) (z : ℤ) (h : mag z < 2 ^ hbits v) where
  narrow : SFits v z
  narrow = record { sfits = h }

  wide : SFits w z
  wide = sfits_widen t narrow

  pub widened-fits : SFits w (to_z v (of_z v z))
  widened-fits = same-fits (to_z-of_z narrow) wide

  pub widened : to_z w (of_z w (to_z v (of_z v z))) ≡ z
  widened = same_read (to_z-of_z narrow) wide

  pub narrowed-fits : SFits v (to_z w (of_z w z))
  narrowed-fits = same-fits (to_z-of_z wide) narrow

  pub narrowed : to_z v (of_z v (to_z w (of_z w z))) ≡ z
  narrowed = same_read (to_z-of_z wide) narrow

-- ---- a mask

pub lowest-bit : (z : ℤ) → SFits w64 z → to_z w64 (bit_and (of_z w64 z) 1) ≡ pos (nat_abs z % 2)
lowest-bit (pos a) f = ap (to_z w64) (and_mask a 1) ∙ to_z_pos w64 (omega arith)
lowest-bit (negsuc a) f = ap (to_z w64) (and_mask (2 ^ 64 - suc a) 1) ∙ to_z_pos w64 {n = (2 ^ 64 - suc a) % 2} (omega arith) ∙ ap pos (omega (arith, f.sfits))
