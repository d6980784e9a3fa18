-- A number cut to what there is room for: it passes the same tests against any limit below that, and within one it is the number itself.
--     same-most, same-least, kept      a natural number
--     same-within, within-kept         an integer
--     field                            the integer in a field of 16 bits
-- Assumes nothing.
use mathlib.Core.Path.{◌≡◌, refl, sym, ap, ap₂, ◌∙◌}
use mathlib.Core.Bool.{Bool, true, false, cond, ◌&&◌}
use Prim.Native.Nat.{ℕ, zero, suc, ◌^◌, ◌≤◌, ◌<◌, zero-le}
use native.Mathlib.Omega.{arith}
use borrow.Author.Tests.{ltb-true, lt-leb, le-leb}
use lib.Dec.{ltb, leb}
use lib.IntN.{ℤ, pos, negsuc, nat_abs}
use lib.Signed.{mag}
use mir.Syntax.{w16, w64}
use mir.Val.{SFits, to_z, of_z, hbits}
use mir.Facts.{to_z-of_z}
use Rattle.arith.specs.Machine.{read_result}
use Rattle.limits.specs.Limits.{within}
use Rattle.wide.specs.Internal.{capped, clamped}

module _ (most n : ℕ) where
  -- what holds of the most where the number is above it, and of the number, holds of the capped number
  cases : (P : ℕ → Type 0) → (most < n → P most) → P n → P (capped most n)
  cases P above below = go (ltb most n) refl
    where
      go : (t : Bool) → ltb most n ≡ t → P (cond t most n)
      go true e = above (ltb-true most n e)
      go false e = below

  pub same-most : {k : ℕ} → k < most → leb (capped most n) k ≡ leb n k
  same-most {k} h = cases (λ m. leb m k ≡ leb n k) (λ a. lt-leb most k h ∙ sym (lt-leb n k (omega arith))) refl

  pub same-least : {k : ℕ} → k ≤ most → leb k (capped most n) ≡ leb k n
  same-least {k} h = cases (λ m. leb k m ≡ leb k n) (λ a. le-leb k most h ∙ sym (le-leb k n (omega arith))) refl

  pub kept : n ≤ most → capped most n ≡ n
  kept h = cases (λ m. m ≡ n) (λ a. absurd (omega arith)) refl

pub same-within : (k : ℕ) → k < 32767 → (z : ℤ) → within k (clamped z) ≡ within k z
same-within zero h (pos n) = ap₂ ◌&&◌ (same-least 32767 n zero-le) (same-most 32767 n h)
same-within zero h (negsuc n) = refl
same-within (suc m) h (pos n) = same-most 32767 n h
same-within (suc m) h (negsuc n) = ap (λ b. b && true) (same-most 32767 n (omega arith))

-- `mag` is n of `pos n` and of `negsuc n`
module _ (z : ℤ) where
  pub keptℤ : mag z ≤ 32767 → clamped z ≡ z
  keptℤ = go z
    where
      go : (y : ℤ) → mag y ≤ 32767 → clamped y ≡ y
      go (pos n) h = ap pos (kept 32767 n h)
      go (negsuc n) h = ap negsuc (kept 32767 n h)

  pub within-kept : {k : ℕ} → nat_abs z ≤ k → k < 32767 → clamped z ≡ z
  within-kept {k} h l = keptℤ (go z h)
    where
      go : (y : ℤ) → nat_abs y ≤ k → mag y ≤ 32767
      go (pos n) h = omega arith
      go (negsuc n) h = omega arith

-- what `narrow::signed` answers for a number that the machine holds, put into a field
pub field : {y z : ℤ} → mag y < 2 ^ hbits w16 → y ≡ clamped (to_z w64 (of_z w64 z)) → SFits w64 z → to_z w16 (of_z w16 y) ≡ clamped z
field size is f = read_result w16 size (is ∙ ap clamped (to_z-of_z f))
