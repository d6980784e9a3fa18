-- The rim holds.
--     in-band       the test for the band, as a fact
--     held          the update leaves 0 where the rim holds a node
--     rim-holds     the statement
-- Assumes nothing.
use mathlib.Core.Path.{◌≡◌, refl, sym, ap, ap₂, ◌∙◌}
use mathlib.Core.Bool.{Bool, true, false, cond, ◌||◌}
use mathlib.Core.List.{List}
use mathlib.Core.Logic.{◌⊎◌, inl, inr}
use Prim.Native.Nat.{ℕ, ◌+◌, ◌*◌, ◌/◌, ◌%◌, ◌<◌}
use native.Mathlib.Omega.{arith}
use lib.Dec.{ltb, leb}
use lib.ListN.{get_or}
use lib.IntN.{ℤ, pos}
use borrow.Author.Tests.{lt-ltb, le-leb}
use Rattle.arith.specs.Rounding.{rounded}
use Rattle.arith.specs.Lists.{get_or-tabulated}
use Rattle.arith.specs.Indices.{column, line, index_below}
use Rattle.refusal.specs.Refused.{done, either}
use Rattle.refusal.proofs.Answers.{went_on}
use Rattle.limits.specs.declared.Caller.{Caller}
use Rattle.spline.specs.Spline.{D}
use Rattle.apic.specs.Step.{Axis, along_x, along_y, in_band, holds, updated_velocity, node}
use Rattle.settings.specs.declared.Settings.{Settings}
use Rattle.update.specs.Update.{velocities, update_answer, UpdateIs, both_axes}
use Rattle.update.specs.Rim.{Outermost, RimHeld, RimHolds}

in-band : (width n i : ℕ) → Outermost width n i → in_band width n i ≡ true
in-band width n i (inl h) = ap (λ b. b || leb n (i + width)) (lt-ltb i width h)
in-band width n i (inr h) = ap (λ b. ltb i width || b) (le-leb n (i + width) h) ∙ either_true (ltb i width)
  where
    either_true : (b : Bool) → b || true ≡ true
    either_true true = refl
    either_true false = refl

in_one : (a b : Bool) → (a ≡ true) ⊎ (b ≡ true) → a || b ≡ true
in_one a b (inl e) = ap (λ a. a || b) e
in_one true b (inr e) = refl
in_one false b (inr e) = e

module _ (s : Settings) (mass : List ℕ) (a : Axis) (momentum : List ℤ) (i j : ℕ) (in-x : i < s.nx) (in-y : j < s.ny) where
  held : holds s.edge s.nx s.ny a i j ≡ true → node s.nx (velocities D s a mass momentum) i j ≡ pos 0
  unfolding velocities updated_velocity
  held e =
      get_or-tabulated (λ k. updated_velocity rounded D s a (k % s.nx) (k / s.nx) (get_or mass k 0) (get_or momentum k (pos 0))) (s.nx * s.ny) (j * s.nx + i) (pos 0) (index_below s.nx s.ny i j in-x in-y)
      ∙ at_rest _ _ (ap₂ (λ i j. holds s.edge s.nx s.ny a i j) (column s.nx (some i s.nx in-x) i j in-x) (line s.nx (some i s.nx in-x) i j in-x) ∙ e)
    where
      some : (i nx : ℕ) → i < nx → 0 < nx
      some i nx h = omega arith

      at_rest : (h : Bool) (u : ℤ) → h ≡ true → cond h (pos 0) u ≡ pos 0
      at_rest h u e = ap (λ h. cond h (pos 0) u) e

module _ (caller : Caller) (s : Settings) (mass : List ℕ) (px py ux uy : List ℤ) (is : UpdateIs caller s mass px py done ux uy) where
  grids : both_axes ux uy ≡ both_axes (velocities D s along_x mass px) (velocities D s along_y mass py)
  grids =
      is.left_is
      ∙ ap (λ a. either a (λ _. both_axes (velocities D s along_x mass px) (velocities D s along_y mass py)) (λ n k. both_axes px py))
      (went_on (update_answer caller s mass px py) (λ _. done) (sym is.answer)).1

  at_x : (i j : ℕ) → i < s.nx → j < s.ny → holds s.edge s.nx s.ny along_x i j ≡ true → node s.nx ux i j ≡ pos 0
  at_x i j in-x in-y e = ap (λ g. node s.nx g.x i j) grids ∙ held s mass along_x px i j in-x in-y e

  at_y : (i j : ℕ) → i < s.nx → j < s.ny → holds s.edge s.nx s.ny along_y i j ≡ true → node s.nx uy i j ≡ pos 0
  at_y i j in-x in-y e = ap (λ g. node s.nx g.y i j) grids ∙ held s mass along_y py i j in-x in-y e

  both : (width i j : ℕ) → Outermost width s.nx i ⊎ Outermost width s.ny j → in_band width s.nx i || in_band width s.ny j ≡ true
  both width i j (inl h) = in_one (in_band width s.nx i) (in_band width s.ny j) (inl (in-band width s.nx i h))
  both width i j (inr h) = in_one (in_band width s.nx i) (in_band width s.ny j) (inr (in-band width s.ny j h))

  rim : RimHeld s ux uy
  rim =
      record {
        sticky = λ {width} e i j in-x in-y h. (
          at_x i j in-x in-y (ap (λ edge. holds edge s.nx s.ny along_x i j) e ∙ both width i j h),
          at_y i j in-x in-y (ap (λ edge. holds edge s.nx s.ny along_y i j) e ∙ both width i j h),
        );
        slip-columns = λ {width} e i j in-x in-y h. at_x i j in-x in-y (ap (λ edge. holds edge s.nx s.ny along_x i j) e ∙ in-band width s.nx i h);
        slip-rows = λ {width} e i j in-x in-y h. at_y i j in-x in-y (ap (λ edge. holds edge s.nx s.ny along_y i j) e ∙ in-band width s.ny j h);
      }

pub rim-holds : RimHolds
rim-holds = rim
