-- The sum over all nodes of a quadratic in the offsets, under the weights of a particle that is placed.
--     Whole             D is 256 times a number above 0, so that a node's momentum, divided by mass and D/256, is in 256ths
--     Quadratic, at     a quadratic in the offsets (dx, dy), and its value; flat: one without squares
--     axis-quadratic    along one axis
--     node-quadratic    over all nodes: 2^26·(constant + D·(xx + yy))
-- Assumes nothing.
use mathlib.Core.Path.{◌≡◌, ap, ap₂, ◌∙◌}
use mathlib.Core.List.{[], ◌∷◌}
use Prim.Native.Nat.{ℕ, ◌*◌, ◌/◌, ◌^◌, ◌<◌}
use lib.IntN.{ℤ, pos, ◌+ℤ◌, ◌*ℤ◌}
use Rattle.arith.specs.Solver.{ring, quote}
use Rattle.arith.specs.Sums.{up_to, sum_over, sum-cong, sum-scale}
use Rattle.spline.specs.Spline.{displacement}
use Rattle.spline.specs.Moments.{Moments}
use Rattle.particle.specs.declared.Particle.{Particle}
use Rattle.apic.specs.Step.{weight, apart, along_x, along_y, over_nodes}
use Rattle.apic.specs.Motion.{Placed}
use Rattle.apic.proofs.Nodes.{sum-three-scaled}

pub record Whole (D : ℕ) : Type 0 where
  pub some : 0 < D / 256
  pub times : D ≡ 256 * (D / 256)

-- ---- one axis

pub axis-quadratic : {D : ℤ} {n x : ℕ} {w : ℕ → ℤ} → Moments D n x w → (a b c : ℤ) → sum_over (up_to n) (λ i. w i *ℤ (a +ℤ b *ℤ displacement x i +ℤ c *ℤ (displacement x i *ℤ displacement x i))) ≡ pos 8192 *ℤ (a +ℤ D *ℤ c)
axis-quadratic {D} {n} {x} {w} m a b c =
    sum-cong _ _ (λ i. spread (w i) (displacement x i) a b c) (up_to n)
    ∙ sum-three-scaled a b c w (λ i. w i *ℤ displacement x i) (λ i. w i *ℤ (displacement x i *ℤ displacement x i)) (up_to n)
    ∙ ap₂ ◌+ℤ◌ (ap₂ ◌+ℤ◌ (ap (λ s. a *ℤ s) m.total) (ap (λ s. b *ℤ s) m.first)) (ap (λ s. c *ℤ s) m.second)
    ∙ gather a b c D
  where
    spread : (w d a b c : ℤ) → w *ℤ (a +ℤ b *ℤ d +ℤ c *ℤ (d *ℤ d)) ≡ a *ℤ w +ℤ b *ℤ (w *ℤ d) +ℤ c *ℤ (w *ℤ (d *ℤ d))
    spread w d a b c = ring (w ∷ d ∷ a ∷ b ∷ c ∷ []) (search quote depth 30) (search quote depth 30) tt

    gather : (a b c D : ℤ) → a *ℤ pos 8192 +ℤ b *ℤ pos 0 +ℤ c *ℤ (pos 8192 *ℤ D) ≡ pos 8192 *ℤ (a +ℤ D *ℤ c)
    gather a b c D = ring (a ∷ b ∷ c ∷ D ∷ []) (search quote depth 30) (search quote depth 30) tt

-- ---- both axes

pub record Quadratic : Type 0 where
  pub constant : ℤ
  pub x : ℤ
  pub y : ℤ
  pub xx : ℤ
  pub xy : ℤ
  pub yy : ℤ

abbrev pub at : Quadratic → ℤ → ℤ → ℤ
at q dx dy =
    q.constant +ℤ q.x *ℤ dx +ℤ q.y *ℤ dy +ℤ q.xx *ℤ (dx *ℤ dx) +ℤ q.xy *ℤ (dx *ℤ dy) +ℤ q.yy *ℤ (dy *ℤ dy)

-- without squares
abbrev pub flat : ℤ → ℤ → ℤ → Quadratic
flat c bx by = record { constant = c; x = bx; y = by; xx = pos 0; xy = pos 0; yy = pos 0 }

-- a row of nodes: v is the weight of the row, dy its offset
row-quadratic : {D : ℤ} {n x : ℕ} {w : ℕ → ℤ} → Moments D n x w → (q : Quadratic) (v dy : ℤ) → sum_over (up_to n) (λ i. w i *ℤ v *ℤ at q (displacement x i) dy) ≡ v *ℤ (pos 8192 *ℤ (q.constant +ℤ D *ℤ q.xx) +ℤ pos 8192 *ℤ q.y *ℤ dy +ℤ pos 8192 *ℤ q.yy *ℤ (dy *ℤ dy))
row-quadratic {D} {n} {x} {w} m q v dy =
    let a = q.constant +ℤ q.y *ℤ dy +ℤ q.yy *ℤ (dy *ℤ dy) in
    let b = q.x +ℤ q.xy *ℤ dy in
    sum-cong _ _ (λ i. by-x (w i) v (displacement x i) dy q.constant q.x q.y q.xx q.xy q.yy) (up_to n)
    ∙ sum-scale v (λ i. w i *ℤ (a +ℤ b *ℤ displacement x i +ℤ q.xx *ℤ (displacement x i *ℤ displacement x i))) (up_to n)
    ∙ ap (λ s. v *ℤ s) (axis-quadratic m a b q.xx)
    ∙ by-y v dy q.constant q.y q.xx q.yy D
  where
    by-x : (u v dx dy c x y xx xy yy : ℤ) → u *ℤ v *ℤ (c +ℤ x *ℤ dx +ℤ y *ℤ dy +ℤ xx *ℤ (dx *ℤ dx) +ℤ xy *ℤ (dx *ℤ dy) +ℤ yy *ℤ (dy *ℤ dy)) ≡ v *ℤ (u *ℤ (c +ℤ y *ℤ dy +ℤ yy *ℤ (dy *ℤ dy) +ℤ (x +ℤ xy *ℤ dy) *ℤ dx +ℤ xx *ℤ (dx *ℤ dx)))
    by-x u v dx dy c x y xx xy yy = ring (u ∷ v ∷ dx ∷ dy ∷ c ∷ x ∷ y ∷ xx ∷ xy ∷ yy ∷ []) (search quote depth 30 fits 20000) (search quote depth 30 fits 20000) tt

    by-y : (v dy c y xx yy D : ℤ) → v *ℤ (pos 8192 *ℤ (c +ℤ y *ℤ dy +ℤ yy *ℤ (dy *ℤ dy) +ℤ D *ℤ xx)) ≡ v *ℤ (pos 8192 *ℤ (c +ℤ D *ℤ xx) +ℤ pos 8192 *ℤ y *ℤ dy +ℤ pos 8192 *ℤ yy *ℤ (dy *ℤ dy))
    by-y v dy c y xx yy D = ring (v ∷ dy ∷ c ∷ y ∷ xx ∷ yy ∷ D ∷ []) (search quote depth 30 fits 20000) (search quote depth 30 fits 20000) tt

pub node-quadratic : {w : ℕ → ℕ → ℤ} {D : ℕ} {nx ny : ℕ} {p : Particle} → Placed w D nx ny p → (q : Quadratic) → over_nodes nx ny (λ i j. weight w p i j *ℤ at q (apart along_x p i j) (apart along_y p i j)) ≡ pos (2 ^ 26) *ℤ (q.constant +ℤ pos D *ℤ (q.xx +ℤ q.yy))
node-quadratic {w} {D} {nx} {ny} {p} m q =
    sum-cong _ _ (λ j. row-quadratic m.along-x q (w p.y j) (displacement p.y j)) (up_to ny)
    ∙ axis-quadratic m.along-y (pos 8192 *ℤ (q.constant +ℤ pos D *ℤ q.xx)) (pos 8192 *ℤ q.y) (pos 8192 *ℤ q.yy)
    ∙ whole q.constant q.xx q.yy (pos D)
  where
    whole : (c xx yy D : ℤ) → pos 8192 *ℤ (pos 8192 *ℤ (c +ℤ D *ℤ xx) +ℤ D *ℤ (pos 8192 *ℤ yy)) ≡ pos (2 ^ 26) *ℤ (c +ℤ D *ℤ (xx +ℤ yy))
    whole c xx yy D = ring (c ∷ xx ∷ yy ∷ D ∷ []) (search quote depth 30) (search quote depth 30) tt
