-- The rows that `weight_table` has made after n turns.
-- Assumes nothing.
use mathlib.Core.Path.{◌≡◌}
use mathlib.Core.List.{List, []}
use Prim.Native.Nat.{ℕ, ◌-◌, ◌<◌, ◌≤◌}
use lib.ListN.{length, get_or}
use Rattle.spline.proofs.Table.{row_from}

-- after n turns: 64 rows, made but for rows n to 63 − n
pub record Made (rows : List (List ℕ)) (n : ℕ) (table : List (List ℕ)) : Type 0 where
  pub long : length table ≡ 64
  pub outside : (j : ℕ) → j < 64 → (n ≤ j → j < 64 - n → ⊥) → get_or table j [] ≡ row_from rows j
