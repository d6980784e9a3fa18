-- `residue` meets its contract: the number is what its bits stand for, and with the span added it is below 2^15.
-- Assumes nothing.
use Rattle.std.proofs.Common.{arith, ◌^◌, ◌<◌, ◌≤◌, ◌+◌, ◌≡◌, sym, subst, pos, ◌+ℤ◌, ℕ, ℤ, to_z, of_z}
use Rattle.std.specs.Int.Signed.{mag}
use mir.Syntax.{w16}
use mir.Facts.{to_z_pos}
use Rattle.bits.proofs.TwosComplement.{back, residue-lt, raised, raised_is, raised_lt, raised-mod}
use Rattle.bits.proofs.residue.Goals as goal

small : (s : ℕ) (v : ℤ) → mag v < s → raised s v < s + s
small s v h = raised_lt s v h

sum : (s : ℕ) (v : ℤ) → mag v < 2 ^ 15 → mag v < s → s ≤ 16384 → to_z w16 (of_z w16 v) +ℤ to_z w16 s ≡ pos (raised s v)
sum s v f h k = rw (back v f, to_z_pos w16 {n = s} (omega arith)) (raised_is s v h)

stands : (s : ℕ) (v : ℤ) → mag v < s → s ≤ 16384 → to_z w16 (raised s v) ≡ pos (raised s v)
stands s v h k = to_z_pos w16 (omega (arith, small s v h))

pub returns : goal.returns
returns c =
    let v = c.args.value in
    let s = c.args.span in
    let is = raised-mod s v c.requires.0 in
    rw (sum s v c.ranges.value.sfits c.requires.0 c.requires.1, stands s v c.requires.0 c.requires.1) (is, subst (λ r. r < s) (sym is) (residue-lt s v c.requires.0))
