-- Node velocities of which some are cleared, by their index: what contracts inside the crates of Update say. Assumes nothing.
use Rattle.std.specs.Prelude.{◌≡◌, Bool, true, cond, ◌&&◌, List, map, ℕ, ◌+◌, ◌*◌, ◌/◌, ◌%◌, ◌≤◌, leb, ltb, length, get_or, ℤ, pos}
use Rattle.arith.specs.Sums.{up_to}
use Rattle.limits.specs.Limits.{most_width}
use Rattle.apic.specs.Step.{Axis, in_band, holds}
use Rattle.apic.specs.Limits.{SizeLimits}
use Rattle.settings.specs.declared.Settings.{Settings}
use Rattle.settings.specs.Settings.{valid_edge}

unfoldable pub cleared : (ℕ → Bool) → List ℤ → List ℤ
cleared at u = map (λ k. cond (at k) (pos 0) (get_or u k (pos 0))) (up_to (length u))

-- count of them from an index on
abbrev pub in_part : ℕ → ℕ → ℕ → Bool
in_part from count k = leb from k && ltb k (from + count)

-- in the columns of the band, in its rows, and where the rim holds a node: node (i, j) has index j·nx + i
abbrev pub in_columns : ℕ → ℕ → ℕ → Bool
in_columns width nx k = in_band width nx (k % nx)

abbrev pub in_rows : ℕ → ℕ → ℕ → ℕ → Bool
in_rows width nx ny k = in_band width ny (k / nx)

abbrev pub held_at : Settings → Axis → ℕ → Bool
held_at s a k = holds s.edge s.nx s.ny a (k % s.nx) (k / s.nx)

-- a grid's size, a width that it has room for, and velocities of as many nodes
pub record BandRoom (nx ny width : ℕ) (u : List ℤ) : Type 0 where
  pub sizes : SizeLimits nx ny
  pub width-most : width ≤ most_width
  pub count : length u ≡ nx * ny

-- the same of settings with an edge of theirs
pub record RimRoom (s : Settings) (x y : List ℤ) : Type 0 where
  pub sizes : SizeLimits s.nx s.ny
  pub edge : valid_edge s.edge ≡ true
  pub x-count : length x ≡ s.nx * s.ny
  pub y-count : length y ≡ s.nx * s.ny
