-- The numbers of one particle, as the machine computes them.
--     middle-fits, middle_of         the nearest node minus particle
--     speed-facts                    the momentum per mass and weight
--     spread-fits, spread-is         what an entry of B adds from node to node
-- Assumes nothing.
use mathlib.Core.Path.{◌≡◌, refl, sym, ◌∙◌}
use mathlib.Core.List.{[]}
use Prim.Native.Nat.{ℕ, ◌+◌, ◌%◌, ◌≤◌}
use native.Mathlib.Omega.{arith}
use lib.IntN.{ℤ, pos, ◌+ℤ◌, ◌-ℤ◌, ◌*ℤ◌}
use mir.Syntax.{w64}
use mir.Val.{SFits, to_z, of_z}
use Rattle.arith.specs.Order.{linear, reading}
use Rattle.arith.specs.Size.{Bound, sizes, fits, size-given, bound-equal, within-bound}
use Rattle.arith.specs.Machine.{read, read-natural, fits₂, result₂}
use Rattle.limits.specs.Limits.{most_velocity, most_affine}
use Rattle.spline.specs.Spline.{nearest_node, displacement}
use Rattle.spline.specs.Kernel.{most_d}
use Rattle.scatter_particle.specs.Added.{Middle, SpeedLimits}

-- ---- the nearest node minus particle

row-most : (x : ℕ) → (x + 32) % 64 ≤ 63
row-most x = omega arith

middle-displacement : (x : ℕ) → pos 32 -ℤ pos ((x + 32) % 64) ≡ displacement x (nearest_node x)
unfolding nearest_node
middle-displacement x = linear [] (tt {0}) (search reading depth 30) (omega arith)

-- 32 − r lies between −31 and 32
middle-most : (r : ℕ) → r ≤ 63 → Bound (pos 32 -ℤ pos r) 32
middle-most r h = within-bound (linear [] (tt {0}) (search reading depth 30) (omega arith))

module _ (x : ℕ) where
  row_is : to_z w64 ((x + 32) % 64) ≡ pos ((x + 32) % 64)
  row_is = read-natural w64 (row-most x) tt

  clean : SFits w64 (pos 32 -ℤ pos ((x + 32) % 64))
  clean = fits (size-given (middle-most ((x + 32) % 64) (row-most x))) tt

  pub middle-fits : SFits w64 (pos 32 -ℤ to_z w64 ((x + 32) % 64))
  middle-fits = fits₂ ◌-ℤ◌ (refl {a = pos 32}) row_is clean

  pub middle_of : Middle x (to_z w64 (of_z w64 (pos 32 -ℤ to_z w64 ((x + 32) % 64))))
  middle_of =
      let e = result₂ ◌-ℤ◌ (refl {a = pos 32}) row_is clean in
      record { is = e ∙ middle-displacement x; most = bound-equal (sym e) (middle-most ((x + 32) % 64) (row-most x)) }

-- ---- the momentum per mass and weight

-- a number as the machine holds it
abbrev held : ℤ → ℤ
held z = to_z w64 (of_z w64 z)

pub record SpeedFacts (D : ℕ) (v bx by dx dy : ℤ) : Type 0 where
  pub v-fits : SFits w64 (to_z w64 D *ℤ held v)
  pub x_fits : SFits w64 (held bx *ℤ held dx)
  pub half-fits : SFits w64 (held (to_z w64 D *ℤ held v) +ℤ held (held bx *ℤ held dx))
  pub y-fits : SFits w64 (held by *ℤ held dy)
  pub whole-fits : SFits w64 (held (held (to_z w64 D *ℤ held v) +ℤ held (held bx *ℤ held dx)) +ℤ held (held by *ℤ held dy))
  pub is : held (held (held (to_z w64 D *ℤ held v) +ℤ held (held bx *ℤ held dx)) +ℤ held (held by *ℤ held dy)) ≡ pos D *ℤ v +ℤ bx *ℤ dx +ℤ by *ℤ dy

record SpeedFits (D : ℕ) (v bx by dx dy : ℤ) : Type 0 where
  one : SFits w64 (pos D *ℤ v)
  two : SFits w64 (bx *ℤ dx)
  three : SFits w64 (pos D *ℤ v +ℤ bx *ℤ dx)
  four : SFits w64 (by *ℤ dy)
  five : SFits w64 (pos D *ℤ v +ℤ bx *ℤ dx +ℤ by *ℤ dy)

speed-fits : (D : ℕ) (v bx by dx dy : ℤ) → D ≤ most_d → Bound v most_velocity → Bound bx most_affine → Bound by most_affine → Bound dx 32 → Bound dy 32 → SpeedFits D v bx by dx dy
speed-fits D v bx by dx dy h p q r s t =
    record {
      one = fits (search sizes depth 20) tt;
      two = fits (search sizes depth 20) tt;
      three = fits (search sizes depth 20) tt;
      four = fits (search sizes depth 20) tt;
      five = fits (search sizes depth 20) tt;
    }

pub speed-facts : {D : ℕ} {v bx by dx dy : ℤ} → SpeedLimits D v bx by dx dy → SpeedFacts D v bx by dx dy
speed-facts {D} {v} {bx} {by} {dx} {dy} l =
    let f = speed-fits D v bx by dx dy l.D-most l.v-most l.bx-most l.by_most l.dx-most l.dy-most in
    let D-is = read-natural w64 l.D-most tt in
    let v-is = read w64 l.v-most tt in
    let bx-is = read w64 l.bx-most tt in
    let by-is = read w64 l.by_most tt in
    let dx-is = read w64 l.dx-most tt in
    let dy-is = read w64 l.dy-most tt in
    let a = result₂ ◌*ℤ◌ D-is v-is f.one in
    let b = result₂ ◌*ℤ◌ bx-is dx-is f.two in
    let c = result₂ ◌+ℤ◌ a b f.three in
    let d = result₂ ◌*ℤ◌ by-is dy-is f.four in
    record {
      v-fits = fits₂ ◌*ℤ◌ D-is v-is f.one;
      x_fits = fits₂ ◌*ℤ◌ bx-is dx-is f.two;
      half-fits = fits₂ ◌+ℤ◌ a b f.three;
      y-fits = fits₂ ◌*ℤ◌ by-is dy-is f.four;
      whole-fits = fits₂ ◌+ℤ◌ c d f.five;
      is = result₂ ◌+ℤ◌ c d f.five;
    }

-- ---- what an entry of B adds

module _ {b : ℤ} (h : Bound b most_affine) where
  spread-clean : SFits w64 (pos 64 *ℤ b)
  spread-clean = fits (search sizes depth 20) tt

  pub spread-fits : SFits w64 (pos 64 *ℤ (to_z w64 (of_z w64 b)))
  spread-fits = fits₂ ◌*ℤ◌ (refl {a = pos 64}) (read w64 h tt) spread-clean

  pub spread-is : to_z w64 (of_z w64 (pos 64 *ℤ (to_z w64 (of_z w64 b)))) ≡ pos 64 *ℤ b
  spread-is = result₂ ◌*ℤ◌ (refl {a = pos 64}) (read w64 h tt) spread-clean
