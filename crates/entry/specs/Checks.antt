-- Document 01, the tests of an operation's first checks: the lengths of the lent grid buffers, and gravity. Assumes nothing.
use Rattle.std.specs.Prelude.{Bool, true, ◌&&◌, ℕ, leb, eqb, ℤ, nat_abs}
use Rattle.entry.specs.declared.Buffers.{Buffers}
use Rattle.entry.specs.declared.Buffers.TheVariants.{None, Two, Three}

-- each buffer that is lent is n long
abbrev pub are_long : ℕ → Buffers → Bool
are_long n None = true
are_long n (Two x y) = eqb x n && eqb y n
are_long n (Three mass x y) = eqb mass n && (eqb x n && eqb y n)

-- −most to most on each axis
abbrev pub both_within : ℕ → ℤ → ℤ → Bool
both_within most x y = leb (nat_abs x) most && leb (nat_abs y) most
