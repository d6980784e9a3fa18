-- The shares of momentum of three nodes in a line, within their limits. Assumes nothing.
use mathlib.Core.Path.{◌≡◌, ◌∙◌}
use mathlib.Core.List.{List}
use Prim.Native.Nat.{ℕ, ◌≤◌}
use lib.IntN.{ℤ, pos, ◌+ℤ◌, ◌-ℤ◌, ◌*ℤ◌}
use mir.Syntax.{w64}
use mir.Val.{SFits, to_z, of_z}
use Rattle.std.proofs.lemmas.List.{map-id}
use Rattle.arith.specs.Size.{Bound, sizes, size-given, fits, bounded}
use Rattle.arith.specs.Machine.{read, read-natural, fits₂, result₂}
use Rattle.grid_cells.specs.Cells.{add_row, RowLimits, most_added}
use Rattle.scatter_block.specs.Lines.{momentum_row, MomentumLimits, most_mass_weight, most_speed, most_change, most_rate}

product-fits : (m : ℕ) (z : ℤ) → m ≤ most_mass_weight → Bound z most_rate → SFits w64 (pos m *ℤ z)
product-fits m z h b = fits (search sizes depth 20) tt

pub product-bound : (m : ℕ) (z : ℤ) → m ≤ most_mass_weight → Bound z most_rate → Bound (pos m *ℤ z) most_added
product-bound m z h b = bounded (search sizes depth 20) tt

-- the three factors, as meant
pub record Factors (s b : ℤ) : Type 0 where
  pub below : Bound (s -ℤ b) most_rate
  pub here : Bound s most_rate
  pub above : Bound (s +ℤ b) most_rate
  pub s-is : to_z w64 (of_z w64 s) ≡ s
  pub b-is : to_z w64 (of_z w64 b) ≡ b

pub factors : (s b : ℤ) → Bound s most_speed → Bound b most_change → Factors s b
factors s b p q =
    record {
      below = bounded (search sizes depth 20) tt;
      here = bounded (search sizes depth 20) tt;
      above = bounded (search sizes depth 20) tt;
      s-is = read w64 p tt;
      b-is = read w64 q tt;
    }

module _ {l : List ℤ} {k lower nearest upper : ℕ} {s b : ℤ} (limits : MomentumLimits l k lower nearest upper s b) where
  f : Factors s b
  f = factors s b limits.s-most limits.b-most

  pub row-limits : RowLimits (λ z. z) l k (pos lower *ℤ (s -ℤ b)) (pos nearest *ℤ s) (pos upper *ℤ (s +ℤ b))
  unfolding f
  row-limits =
      record {
        low = limits.low;
        high = limits.high;
        cells = rw (map-id l) limits.cells;
        u-most = product-bound lower (s -ℤ b) limits.lower-most f.below;
        v-most = product-bound nearest s limits.nearest-most f.here;
        w-most = product-bound upper (s +ℤ b) limits.upper-most f.above;
      }

  -- the same as the machine computes it
  s-fits : SFits w64 (s -ℤ b) × SFits w64 (s +ℤ b)
  unfolding f
  s-fits = (fits (size-given f.below) tt, fits (size-given f.above) tt)

  pub less-fits : SFits w64 (to_z w64 (of_z w64 s) -ℤ to_z w64 (of_z w64 b))
  less-fits = fits₂ ◌-ℤ◌ f.s-is f.b-is s-fits.0

  pub more-fits : SFits w64 (to_z w64 (of_z w64 s) +ℤ to_z w64 (of_z w64 b))
  more-fits = fits₂ ◌+ℤ◌ f.s-is f.b-is s-fits.1

  less-is : to_z w64 (of_z w64 (to_z w64 (of_z w64 s) -ℤ to_z w64 (of_z w64 b))) ≡ s -ℤ b
  less-is = result₂ ◌-ℤ◌ f.s-is f.b-is s-fits.0

  more-is : to_z w64 (of_z w64 (to_z w64 (of_z w64 s) +ℤ to_z w64 (of_z w64 b))) ≡ s +ℤ b
  more-is = result₂ ◌+ℤ◌ f.s-is f.b-is s-fits.1

  pub below-fits : SFits w64 (to_z w64 lower *ℤ to_z w64 (of_z w64 (to_z w64 (of_z w64 s) -ℤ to_z w64 (of_z w64 b))))
  below-fits = fits₂ ◌*ℤ◌ (read-natural w64 limits.lower-most tt) less-is (product-fits lower (s -ℤ b) limits.lower-most f.below)

  pub here-fits : SFits w64 (to_z w64 nearest *ℤ to_z w64 (of_z w64 s))
  here-fits = fits₂ ◌*ℤ◌ (read-natural w64 limits.nearest-most tt) f.s-is (product-fits nearest s limits.nearest-most f.here)

  pub above-fits : SFits w64 (to_z w64 upper *ℤ to_z w64 (of_z w64 (to_z w64 (of_z w64 s) +ℤ to_z w64 (of_z w64 b))))
  above-fits = fits₂ ◌*ℤ◌ (read-natural w64 limits.upper-most tt) more-is (product-fits upper (s +ℤ b) limits.upper-most f.above)

  -- the three shares that the machine passes on
  module _ (l' : List ℤ) {u v w : ℤ} (p : u ≡ pos lower *ℤ (s -ℤ b)) (q : v ≡ pos nearest *ℤ s) (r : w ≡ pos upper *ℤ (s +ℤ b)) where
    pub asked : RowLimits (λ z. z) l k u v w
    asked = rw (p, q, r) row-limits

    pub given : l' ≡ add_row l k u v w → l' ≡ momentum_row l k lower nearest upper s b
    unfolding momentum_row
    given e = e ∙ (λ t. add_row l k (p t) (q t) (r t))

  pub below-is : to_z w64 (of_z w64 (to_z w64 lower *ℤ to_z w64 (of_z w64 (to_z w64 (of_z w64 s) -ℤ to_z w64 (of_z w64 b))))) ≡ pos lower *ℤ (s -ℤ b)
  below-is = result₂ ◌*ℤ◌ (read-natural w64 limits.lower-most tt) less-is (product-fits lower (s -ℤ b) limits.lower-most f.below)

  pub here-is : to_z w64 (of_z w64 (to_z w64 nearest *ℤ to_z w64 (of_z w64 s))) ≡ pos nearest *ℤ s
  here-is = result₂ ◌*ℤ◌ (read-natural w64 limits.nearest-most tt) f.s-is (product-fits nearest s limits.nearest-most f.here)

  pub above-is : to_z w64 (of_z w64 (to_z w64 upper *ℤ to_z w64 (of_z w64 (to_z w64 (of_z w64 s) +ℤ to_z w64 (of_z w64 b))))) ≡ pos upper *ℤ (s +ℤ b)
  above-is = result₂ ◌*ℤ◌ (read-natural w64 limits.upper-most tt) more-is (product-fits upper (s +ℤ b) limits.upper-most f.above)
