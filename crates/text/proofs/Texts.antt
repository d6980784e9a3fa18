-- What std writes of a number is its decimal text.
--     decimal-is, signed-is    of a natural number and of an integer of 64 bits
--     all_signed               of a list of such integers
-- Assumes nothing.
use Prim.Native.Nat.{ℕ, suc, ◌^◌, ◌<◌}
use native.Mathlib.Omega.{arith}
use mathlib.Core.Path.{◌≡◌, sym, ap}
use mathlib.Core.List.{List, ◌∷◌, map}
use lib.ListN.{length, get_or}
use lib.IntN.{ℤ, pos, negsuc}
use lib.Signed.{mag}
use Rattle.std.specs.Fmt as std
use Rattle.std.proofs.lemmas.Fmt.{AppendsLastDigit, decimal_from_appends, length-decimal-le_succ}
use Rattle.arith.specs.Lists.{map_each, each_of}
use Rattle.text.specs.Decimal.{digits_within, decimal, signed}
use borrow.Author.Rules.{rules}

appends : AppendsLastDigit digits_within
unfolding digits_within
appends = search rules

pub decimal-is : (n : ℕ) → n < 2 ^ 64 → std.decimal n ≡ decimal n
unfolding decimal
decimal-is n h = sym (decimal_from_appends digits_within appends (suc n) n h (omega (arith, length-decimal-le_succ n h)))

pub signed-is : (z : ℤ) → mag z < 2 ^ 63 → std.signed_decimal z ≡ signed z
unfolding signed
signed-is (pos n) h = decimal-is n (omega arith)
signed-is (negsuc n) h = ap (λ l. 45 ∷ l) (decimal-is (suc n) (omega arith))

pub all_signed : (zs : List ℤ) → ((k : ℕ) → k < length zs → mag (get_or zs k (pos 0)) < 2 ^ 63) → map std.signed_decimal zs ≡ map signed zs
all_signed zs h = map_each std.signed_decimal signed zs (each_of (λ z. std.signed_decimal z ≡ signed z) (pos 0) zs (λ k l. signed-is (get_or zs k (pos 0)) (h k l)))
