-- The tests of a moved record's place, as the code makes them.
--     off-low, off-high          a coordinate against the two ends of an axis
-- Assumes nothing.
use mathlib.Core.Path.{◌≡◌, refl}
use mathlib.Core.Bool.{Bool, true, false, not}
use mathlib.Core.List.{[]}
use Prim.Native.Nat.{ℕ, ◌-◌, ◌*◌}
use native.Mathlib.Omega.{arith}
use lib.Dec.{leb, ltb}
use lib.IntN.{ℤ, pos, negsuc}
use lib.Signed.{lt_z}
use borrow.Author.Tests.{lt-ltb, le-ltb, leb-true, leb-false, lt-leb, le-leb, ltb-true, ltb-false}
use Rattle.arith.specs.Order.{linear, reading, lt_z-false}
use Rattle.spline.specs.Spline.{on_axis}
use Rattle.gathering.specs.Gather.{off_axis}

pub off-low : (n : ℕ) (z : ℤ) → lt_z z (pos 32) ≡ true → true ≡ off_axis n z
unfolding on_axis
off-low n (pos a) e = rw (lt-leb 32 a (ltb-true a 32 e))
off-low n (negsuc a) e = refl

above : (a b : ℕ) (t : Bool) → leb a b ≡ t → ltb b a ≡ not t
above a b true e = le-ltb b a (leb-true a b e)
above a b false e = lt-ltb b a (leb-false a b e)

pub off-high : (n : ℕ) (z : ℤ) → lt_z z (pos 32) ≡ false → lt_z (pos (64 * (n - 1) - 33)) z ≡ off_axis n z
unfolding on_axis
off-high n (pos a) e = rw (le-leb 32 a (ltb-false a 32 e)) (above a (64 * (n - 1) - 33) (leb a (64 * (n - 1) - 33)) refl)
off-high n (negsuc a) e = absurd (linear [] (lt_z-false (negsuc a) (pos 32) e) (search reading depth 30) (omega arith))
