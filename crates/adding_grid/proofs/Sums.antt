-- Sums node by node: what a turn of `add_cells` asks and stores.
--     sum-fits, sum-stored      the next sum fits a cell, and is stored
-- Assumes nothing.
use mathlib.Core.Path.{◌≡◌, sym, ap, ap₂, ◌∙◌, subst₂}
use mathlib.Core.List.{List}
use Prim.Native.Nat.{ℕ, ◌+◌, ◌<◌}
use lib.ListN.{length, get_or, set}
use Rattle.std.proofs.lemmas.List.{get_or_default}
use Rattle.arith.specs.Fill.{filled, filled-read, filled_more}
use Rattle.adding.specs.Internal.{SumRoom}

module _ {A : Type 0} (zero : A) (sum : A → A → A) (cells₀ gains : List A) where
  abbrev pub cell_sum : ℕ → A
  cell_sum k = sum (get_or cells₀ k zero) (get_or gains k zero)

  -- x and y are what stands at place k
  module _ {fits : A → A → Type 0} (room : SumRoom zero fits cells₀ gains) (cells : List A) (k : ℕ) (inside : k < length cells₀) (long : length cells ≡ length cells₀) (held : cells ≡ filled cell_sum k cells₀) {x y : A} (of-x : x ≡ get_or cells k x) (of-y : y ≡ get_or gains k y) where
    x-is : x ≡ get_or cells₀ k zero
    x-is =
        of-x ∙ get_or_default cells k x zero (rw long inside) ∙ ap (λ l. get_or l k zero) held
        ∙ filled-read cell_sum zero cells₀ k inside

    y-is : y ≡ get_or gains k zero
    y-is = of-y ∙ get_or_default gains k y zero (rw room.same inside)

    pub sum-fits : fits x y
    sum-fits = subst₂ fits (sym x-is) (sym y-is) (room.each k inside)

    pub sum-stored : set cells k (sum x y) ≡ filled cell_sum (k + 1) cells₀
    sum-stored = ap₂ (λ l z. set l k z) held (ap₂ sum x-is y-is) ∙ filled_more cell_sum zero cells₀ k inside
