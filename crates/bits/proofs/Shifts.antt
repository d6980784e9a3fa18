-- A shift up and an arithmetic shift back: the low bits of a number, read in two's complement.
--     signed_low      over any number of bits, of 32
--     low_below       that many bits as a number
-- Assumes nothing.
use Prim.Native.Nat.{ℕ, suc, ◌+◌, ◌-◌, ◌*◌, ◌/◌, ◌%◌, ◌^◌, ◌<◌, ◌≤◌}
use native.Mathlib.Nat.{add-zero, add-mul, le_refl, mod-lt, mul-div_cancel, mul-le-mul, mul-lt-mul_of_pos_right, mul-mod_left}
use native.Mathlib.Omega.{arith}
use mathlib.Core.Logic.{⊎_elim}
use mathlib.Core.Path.{◌≡◌, sym, ap, ap₂, ◌∙◌}
use borrow.Author.Tests.{le-ltb}
use mir.Syntax.{w32}
use mir.Val.{to_z, sel}
use mir.Facts.{to_z_pos}
use lib.Arith.{digits_div}
use lib.IntN.{pos, negsuc}
use lib.Pow.{pow-add, pow_pos, mod-pow-add, shl-shr}
use lib.Signed.{shr_z}
use Rattle.bits.specs.Bits.{twos_complement}
use Rattle.bits.proofs.TwosComplement.{halves, lower-half, upper-half}

-- what is shifted past the top is lost
shl-low : (n j k : ℕ) → n * 2 ^ k % 2 ^ (j + k) ≡ n % 2 ^ j * 2 ^ k
shl-low n j k =
    mod-pow-add (n * 2 ^ k) j k
    ∙ ap₂ (λ a b. a % 2 ^ j * 2 ^ k + b) (shl-shr n k) (mul-mod_left n (2 ^ k))
    ∙ add-zero (n % 2 ^ j * 2 ^ k)

module _ (half s d : ℕ) (some : 0 < s) (whole : half * s ≡ 2 ^ 31) where
  lower : d < half → shr_z (to_z w32 (d * s)) s ≡ twos_complement half d
  lower h =
      ap (λ z. shr_z z s) (to_z_pos w32 {n = d * s} (omega (arith, mul-lt-mul_of_pos_right h some, whole)))
      ∙ ap pos (mul-div_cancel d some)
      ∙ sym (lower-half half d h)

  -- what is left of twice the half, and one less
  rest : d < half + half → 2 ^ 32 - suc (d * s) ≡ (half + half - suc d) * s + (s - 1)
  rest k =
      let e = half + half - suc d in
      let sum : (half + half) * s ≡ e * s + (d * s + 1 * s) = ap (λ x. x * s) (omega arith) ∙ add-mul e (d + 1) s ∙ ap (λ x. e * s + x) (add-mul d 1 s) in
      omega (arith, whole, some, sum, add-mul half half s)

  upper : half ≤ d → d < half + half → shr_z (to_z w32 (d * s)) s ≡ twos_complement half d
  upper h k =
      ap (λ b. shr_z (sel b (pos (d * s)) (negsuc (2 ^ 32 - suc (d * s)))) s) (le-ltb (d * s) (2 ^ 31) (omega (arith, mul-le-mul h (le_refl s), whole)))
      ∙ ap negsuc (ap (λ x. x / s) (rest k) ∙ digits_div (half + half - suc d) (omega arith))
      ∙ sym (upper-half half d h k)

  back : d < half + half → shr_z (to_z w32 (d * s)) s ≡ twos_complement half d
  back h = ⊎_elim lower (λ up. upper up h) (halves half d)

-- the low bits of a number are below twice the half
pub low_below : (n width : ℕ) → 1 ≤ width → n % 2 ^ width < 2 ^ (width - 1) + 2 ^ (width - 1)
low_below n width h =
    let twice : 2 ^ width ≡ 2 ^ (width - 1) * 2 ^ 1 = ap (λ t. 2 ^ t) {y = width - 1 + 1} (omega arith) ∙ pow-add 2 (width - 1) 1 in
    omega (arith, twice, mod-lt n (pow_pos width))

pub signed_low : (n width up : ℕ) → 1 ≤ width → width + up ≡ 32 → shr_z (to_z w32 (n * 2 ^ up % 2 ^ 32)) (2 ^ up) ≡ twos_complement (2 ^ (width - 1)) (n % 2 ^ width)
signed_low n width up h e =
    ap (λ t. shr_z (to_z w32 (n * 2 ^ up % 2 ^ t)) (2 ^ up)) (sym e)
    ∙ ap (λ x. shr_z (to_z w32 x) (2 ^ up)) (shl-low n width up)
    ∙ back (2 ^ (width - 1)) (2 ^ up) (n % 2 ^ width) (pow_pos up) (sym (pow-add 2 (width - 1) up) ∙ ap (λ t. 2 ^ t) {y = 31} (omega arith)) (low_below n width h)
