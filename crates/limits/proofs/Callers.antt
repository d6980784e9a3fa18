-- A caller's limits against the bench's.
--     side-most, records-most      none is above the bench's
--     same-side, same-records      a number within the caller's limit passes both tests or neither
-- Assumes nothing.
use mathlib.Core.Path.{◌≡◌, sym, ◌∙◌}
use Prim.Native.Nat.{ℕ, ◌≤◌}
use native.Mathlib.Nat.{le_trans}
use native.Mathlib.Omega.{arith}
use lib.Dec.{leb, ltb}
use borrow.Author.Tests.{le-leb, le-ltb}
use Rattle.limits.specs.declared.Caller.{Caller}
use Rattle.limits.specs.declared.Caller.TheVariants.{Bench, Page}
use Rattle.limits.specs.Limits.{most_side, most_records, most_side_of, most_records_of}

pub side-most : (c : Caller) → most_side_of c ≤ most_side
side-most Bench = omega arith
side-most Page = omega arith

pub records-most : (c : Caller) → most_records_of c ≤ most_records
records-most Bench = omega arith
records-most Page = omega arith

pub same-side : (c : Caller) (n : ℕ) → n ≤ most_side_of c → leb n (most_side_of c) ≡ leb n most_side
same-side c n h = le-leb n (most_side_of c) h ∙ sym (le-leb n most_side (le_trans h (side-most c)))

pub same-records : (c : Caller) (n : ℕ) → n ≤ most_records_of c → ltb (most_records_of c) n ≡ ltb most_records n
same-records c n h = le-ltb (most_records_of c) n h ∙ sym (le-ltb most_records n (le_trans h (records-most c)))
