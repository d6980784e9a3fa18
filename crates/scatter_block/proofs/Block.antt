-- A block of three lines, one after the other.
--     less-fits, more-fits      s at the lines below and above
--     ask-1, ask-2, ask-3       what the function that adds a line asks, line by line
--     block-added               the three lines are the block
-- Assumes nothing.
use mathlib.Core.Path.{◌≡◌, sym, ap, subst, ◌∙◌}
use mathlib.Core.List.{List}
use Prim.Native.Nat.{ℕ, ◌+◌, ◌-◌, ◌*◌}
use native.Mathlib.Nat.{mul-le-mul}
use native.Mathlib.Omega.{arith}
use lib.Dec.{lit≤}
use lib.ListN.{length}
use lib.IntN.{ℤ, ◌+ℤ◌, ◌-ℤ◌}
use mir.Syntax.{w64}
use mir.Val.{SFits, to_z, of_z}
use Rattle.arith.specs.Size.{Bound, sizes, fits, bounded}
use Rattle.arith.specs.Machine.{read, fits₂, result₂}
use Rattle.spline.specs.declared.AxisWeights.{AxisWeights}
use Rattle.grid_cells.specs.Cells.{most_held}
use Rattle.scatter_block.specs.Lines.{Held, mass_line, momentum_line, mass_block, momentum_block, LineNumbers, LineLimits, LineAdded, BlockLimits, BlockAdded, most_speed, most_change, most_middle}
use Rattle.scatter_block.proofs.Line.{line-held, held-widen}

-- ---- s at the three lines

pub record Speeds (s c : ℤ) : Type 0 where
  pub below : Bound (s -ℤ c) most_speed
  pub here : Bound s most_speed
  pub above : Bound (s +ℤ c) most_speed
  pub less-fits : SFits w64 (to_z w64 (of_z w64 s) -ℤ to_z w64 (of_z w64 c))
  pub more-fits : SFits w64 (to_z w64 (of_z w64 s) +ℤ to_z w64 (of_z w64 c))
  pub below-is : to_z w64 (of_z w64 (to_z w64 (of_z w64 s) -ℤ to_z w64 (of_z w64 c))) ≡ s -ℤ c
  pub here-is : to_z w64 (of_z w64 s) ≡ s
  pub above-is : to_z w64 (of_z w64 (to_z w64 (of_z w64 s) +ℤ to_z w64 (of_z w64 c))) ≡ s +ℤ c

pub speeds : (s c : ℤ) → Bound s most_middle → Bound c most_change → Speeds s c
speeds s c p q =
    let s-is = read w64 p tt in
    let c-is = read w64 q tt in
    record {
      below = bounded (search sizes depth 20) tt;
      here = bounded (search sizes depth 20) tt;
      above = bounded (search sizes depth 20) tt;
      less-fits = fits₂ ◌-ℤ◌ s-is c-is (fits (search sizes depth 20) tt);
      more-fits = fits₂ ◌+ℤ◌ s-is c-is (fits (search sizes depth 20) tt);
      below-is = result₂ {w = w64} ◌-ℤ◌ s-is c-is (fits (search sizes depth 20) tt);
      here-is = s-is;
      above-is = result₂ {w = w64} ◌+ℤ◌ s-is c-is (fits (search sizes depth 20) tt);
    }

-- ---- a line's numbers as they are passed on

module _ {c c' : ℕ} {sx bx sy by sx' bx' sy' by' : ℤ} (e : c' ≡ c) (p : sx' ≡ sx) (q : bx' ≡ bx) (r : sy' ≡ sy) (t : by' ≡ by) where
  numbers-passed : {size k : ℕ} {w : AxisWeights} → LineNumbers size k c w sx bx sy by → LineNumbers size k c' w sx' bx' sy' by'
  numbers-passed n = rw (e, p, q, r, t) n

  added-passed : {mass mass' : List ℕ} {px py px' py' : List ℤ} {k : ℕ} {w : AxisWeights} → LineAdded mass px py mass' px' py' k c' w sx' bx' sy' by' → LineAdded mass px py mass' px' py' k c w sx bx sy by
  added-passed {mass} {px} {py} {k} {w} a =
      record {
        of-mass = a.of-mass ∙ (λ i. mass_line mass k (e i) w);
        of-px = a.of-px ∙ (λ i. momentum_line px k (e i) w (p i) (q i));
        of-py = a.of-py ∙ (λ i. momentum_line py k (e i) w (r i) (t i));
      }

-- ---- the three lines

module _ {size nx : ℕ} {mass : List ℕ} {px py : List ℤ} {k m : ℕ} {wx wy : AxisWeights} {sx bxx bxy sy byx byy : ℤ} (limits : BlockLimits size nx mass px py k m wx wy sx bxx bxy sy byx byy) where
  pub x-speeds : Speeds sx bxy
  x-speeds = speeds sx bxy limits.sx-most limits.bxy-most

  pub y-speeds : Speeds sy byy
  y-speeds = speeds sy byy limits.sy-most limits.byy-most

  numbers-1 : LineNumbers size (k - nx) (m * wy.lower) wx (sx -ℤ bxy) bxx (sy -ℤ byy) byx
  numbers-1 =
      record {
        low = omega (arith, limits.low);
        high = omega (arith, limits.high);
        c-most = mul-le-mul limits.m-most limits.y-weights.lower-most;
        weights = limits.x-weights;
        sx-most = x-speeds.below;
        bx-most = limits.bxx-most;
        sy-most = y-speeds.below;
        by_most = limits.byx-most;
      }

  numbers-2 : LineNumbers size k (m * wy.nearest) wx sx bxx sy byx
  numbers-2 =
      record {
        low = omega (arith, limits.low);
        high = omega (arith, limits.high);
        c-most = mul-le-mul limits.m-most limits.y-weights.nearest-most;
        weights = limits.x-weights;
        sx-most = x-speeds.here;
        bx-most = limits.bxx-most;
        sy-most = y-speeds.here;
        by_most = limits.byx-most;
      }

  numbers-3 : LineNumbers size (k + nx) (m * wy.upper) wx (sx +ℤ bxy) bxx (sy +ℤ byy) byx
  numbers-3 =
      record {
        low = omega (arith, limits.low);
        high = omega (arith, limits.high);
        c-most = mul-le-mul limits.m-most limits.y-weights.upper-most;
        weights = limits.x-weights;
        sx-most = x-speeds.above;
        bx-most = limits.bxx-most;
        sy-most = y-speeds.above;
        by_most = limits.byx-most;
      }

  bxx-is : to_z w64 (of_z w64 bxx) ≡ bxx
  bxx-is = read w64 limits.bxx-most tt

  byx-is : to_z w64 (of_z w64 byx) ≡ byx
  byx-is = read w64 limits.byx-most tt

  module _ {below here above : ℕ} (e1 : below ≡ m * wy.lower) (e2 : here ≡ m * wy.nearest) (e3 : above ≡ m * wy.upper) where
    pub ask-1 : LineLimits size mass px py (k - nx) below wx (to_z w64 (of_z w64 (to_z w64 (of_z w64 sx) -ℤ to_z w64 (of_z w64 bxy)))) (to_z w64 (of_z w64 bxx)) (to_z w64 (of_z w64 (to_z w64 (of_z w64 sy) -ℤ to_z w64 (of_z w64 byy)))) (to_z w64 (of_z w64 byx))
    ask-1 =
        record {
          held = held-widen (lit≤ tt) limits.held;
          numbers = numbers-passed e1 x-speeds.below-is bxx-is y-speeds.below-is byx-is numbers-1;
        }

    module _ {mass1 : List ℕ} {px1 py1 : List ℤ} (a1 : LineAdded mass px py mass1 px1 py1 (k - nx) below wx (to_z w64 (of_z w64 (to_z w64 (of_z w64 sx) -ℤ to_z w64 (of_z w64 bxy)))) (to_z w64 (of_z w64 bxx)) (to_z w64 (of_z w64 (to_z w64 (of_z w64 sy) -ℤ to_z w64 (of_z w64 byy)))) (to_z w64 (of_z w64 byx))) where
      line-1 : LineAdded mass px py mass1 px1 py1 (k - nx) (m * wy.lower) wx (sx -ℤ bxy) bxx (sy -ℤ byy) byx
      line-1 = added-passed e1 x-speeds.below-is bxx-is y-speeds.below-is byx-is a1

      held-1 : Held 8850000000000000000 size mass1 px1 py1
      held-1 = line-held numbers-1 limits.held line-1

      pub ask-2 : LineLimits (length mass1) mass1 px1 py1 k here wx (to_z w64 (of_z w64 sx)) (to_z w64 (of_z w64 bxx)) (to_z w64 (of_z w64 sy)) (to_z w64 (of_z w64 byx))
      ask-2 =
          subst (λ n. LineLimits n mass1 px1 py1 k here wx (to_z w64 (of_z w64 sx)) (to_z w64 (of_z w64 bxx)) (to_z w64 (of_z w64 sy)) (to_z w64 (of_z w64 byx)))
          (sym held-1.mass-long)
          (record {
            held = held-widen (lit≤ tt) held-1;
            numbers = numbers-passed e2 x-speeds.here-is bxx-is y-speeds.here-is byx-is numbers-2;
          })

      module _ {mass2 : List ℕ} {px2 py2 : List ℤ} (a2 : LineAdded mass1 px1 py1 mass2 px2 py2 k here wx (to_z w64 (of_z w64 sx)) (to_z w64 (of_z w64 bxx)) (to_z w64 (of_z w64 sy)) (to_z w64 (of_z w64 byx))) where
        line-2 : LineAdded mass1 px1 py1 mass2 px2 py2 k (m * wy.nearest) wx sx bxx sy byx
        line-2 = added-passed e2 x-speeds.here-is bxx-is y-speeds.here-is byx-is a2

        held-2 : Held most_held size mass2 px2 py2
        held-2 = line-held numbers-2 held-1 line-2

        pub ask-3 : LineLimits (length mass2) mass2 px2 py2 (k + nx) above wx (to_z w64 (of_z w64 (to_z w64 (of_z w64 sx) +ℤ to_z w64 (of_z w64 bxy)))) (to_z w64 (of_z w64 bxx)) (to_z w64 (of_z w64 (to_z w64 (of_z w64 sy) +ℤ to_z w64 (of_z w64 byy)))) (to_z w64 (of_z w64 byx))
        ask-3 =
            subst (λ n. LineLimits n mass2 px2 py2 (k + nx) above wx (to_z w64 (of_z w64 (to_z w64 (of_z w64 sx) +ℤ to_z w64 (of_z w64 bxy)))) (to_z w64 (of_z w64 bxx)) (to_z w64 (of_z w64 (to_z w64 (of_z w64 sy) +ℤ to_z w64 (of_z w64 byy)))) (to_z w64 (of_z w64 byx)))
            (sym held-2.mass-long)
            (record { held = held-2; numbers = numbers-passed e3 x-speeds.above-is bxx-is y-speeds.above-is byx-is numbers-3 })

        pub block-added : {mass3 : List ℕ} {px3 py3 : List ℤ} → LineAdded mass2 px2 py2 mass3 px3 py3 (k + nx) above wx (to_z w64 (of_z w64 (to_z w64 (of_z w64 sx) +ℤ to_z w64 (of_z w64 bxy)))) (to_z w64 (of_z w64 bxx)) (to_z w64 (of_z w64 (to_z w64 (of_z w64 sy) +ℤ to_z w64 (of_z w64 byy)))) (to_z w64 (of_z w64 byx)) → BlockAdded nx mass px py mass3 px3 py3 k m wx wy sx bxx bxy sy byx byy
        unfolding mass_block momentum_block
        block-added {mass3} {px3} {py3} a3 =
            let line-3 : LineAdded mass2 px2 py2 mass3 px3 py3 (k + nx) (m * wy.upper) wx (sx +ℤ bxy) bxx (sy +ℤ byy) byx =
            added-passed e3 x-speeds.above-is bxx-is y-speeds.above-is byx-is a3 in
            record {
              of-mass =
                  line-3.of-mass ∙ ap (λ l. mass_line l (k + nx) (m * wy.upper) wx) (line-2.of-mass ∙ ap (λ l. mass_line l k (m * wy.nearest) wx) line-1.of-mass);
              of-px =
                  line-3.of-px
                  ∙ ap (λ l. momentum_line l (k + nx) (m * wy.upper) wx (sx +ℤ bxy) bxx)
                  (line-2.of-px ∙ ap (λ l. momentum_line l k (m * wy.nearest) wx sx bxx) line-1.of-px);
              of-py =
                  line-3.of-py
                  ∙ ap (λ l. momentum_line l (k + nx) (m * wy.upper) wx (sy +ℤ byy) byx)
                  (line-2.of-py ∙ ap (λ l. momentum_line l k (m * wy.nearest) wx sy byx) line-1.of-py);
            }
