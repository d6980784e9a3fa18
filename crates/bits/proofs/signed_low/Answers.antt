-- `signed_low` meets its contract: the two shifts by their law, and what they leave fits 16 bits. Assumes nothing.
use Rattle.std.proofs.Common.{arith, ◌-◌, ◌*◌, ◌%◌, ◌^◌, ◌<◌, ◌≤◌, ◌≡◌, ◌∙◌, ℕ, ℤ, w32, to_z, of_z}
use native.Mathlib.Nat.{lt_of_lt_of_le}
use mir.Facts.{to_z-of_z}
use lib.Pow.{pow_mono}
use lib.Signed.{mag, shr_z}
use Rattle.bits.specs.Bits.{twos_complement}
use Rattle.bits.proofs.Shifts.{signed_low, low_below}
use Rattle.bits.proofs.TwosComplement.{back, decoded-mag}
use Rattle.bits.proofs.signed_low.Goals as goal

abbrev z : ℕ → ℕ → ℤ
z part width = shr_z (to_z w32 (part * 2 ^ (32 - width) % 2 ^ 32)) (2 ^ (32 - width))

value : (part width : ℕ) → (1 ≤ width) × (width ≤ 16) → z part width ≡ twos_complement (2 ^ (width - 1)) (part % 2 ^ width)
value part width h = signed_low part width (32 - width) h.0 (omega arith)

small : (part width : ℕ) → (1 ≤ width) × (width ≤ 16) → mag (z part width) < 2 ^ 15
small part width h = rw (value part width h) (lt_of_lt_of_le (decoded-mag (2 ^ (width - 1)) (part % 2 ^ width) (low_below part width h.0)) (pow_mono {j = 15} (omega arith)))

same : (part width : ℕ) → (1 ≤ width) × (width ≤ 16) → to_z w32 (of_z w32 (z part width)) ≡ z part width
same part width h = to_z-of_z {w = w32} {z = z part width} (record { sfits = omega (arith, small part width h) })

pub overflow_cast-result-4 : goal.overflow_cast-result-4
overflow_cast-result-4 c = rw (same c.args.part c.args.width c.requires) (record { sfits = small c.args.part c.args.width c.requires })

pub returns : goal.returns
returns c = rw (same c.args.part c.args.width c.requires) (back (z c.args.part c.args.width) (small c.args.part c.args.width c.requires) ∙ value c.args.part c.args.width c.requires)
