-- `update_grid::accelerate`: a turn stores the velocity of the next node, or leaves its zero. Assumes nothing.
use Rattle.std.proofs.Common.{◌≡◌, ℕ, ◌+◌, ◌<◌, List, length, get_or, set, ℤ, pos, w64, to_z, of_z, FitsSigned, refl, sym, ap, ap₂, ◌∙◌, rules, arith}
use mir.Facts.{to_z-of_z}
use Rattle.arith.specs.Fill.{filled, filled_none, filled-read, filled_more, filled-kept, filled-all}
use Rattle.apic.specs.Step.{node_velocity}
use Rattle.update.specs.Update.{velocity_of}
use Rattle.update.specs.Internal.{accelerated}
use Rattle.update_grid.proofs.accelerate.Invariants.{at}
use Rattle.update_grid.proofs.accelerate.Goals as goal
use Rattle.update_grid.proofs.accelerate.Goals.{then-m-ne0, else-m-ne0}

module _ (d : ℕ) (g : ℤ) (mass : List ℕ) (momentum₀ momentum : List ℤ) (k : ℕ) (inside : k < length momentum₀) (held : momentum ≡ filled (at d g mass momentum₀) k momentum₀) where
  -- a turn stores the velocity of node k
  stored : (v : ℤ) → FitsSigned w64 v → FitsSigned w64 (get_or momentum k (pos 0)) → v ≡ velocity_of d g (get_or mass k 0) (to_z w64 (of_z w64 (get_or momentum k (pos 0)))) → set momentum k (to_z w64 (of_z w64 v)) ≡ filled (at d g mass momentum₀) (k + 1) momentum₀
  stored v v-fits fits e = ap₂ (λ l x. set l k x) held (to_z-of_z v-fits ∙ e ∙ ap (λ p. velocity_of d g (get_or mass k 0) p) same) ∙ filled_more (at d g mass momentum₀) (pos 0) momentum₀ k inside
    where
      same : to_z w64 (of_z w64 (get_or momentum k (pos 0))) ≡ get_or momentum₀ k (pos 0)
      same = to_z-of_z fits ∙ ap (λ l. get_or l k (pos 0)) held ∙ filled-read (at d g mass momentum₀) (pos 0) momentum₀ k inside

  -- or leaves what a node without mass holds, which is the velocity 0
  kept : get_or mass k 0 ≡ 0 → (get_or mass k 0 ≡ 0 → get_or momentum₀ k (pos 0) ≡ pos 0) → momentum ≡ filled (at d g mass momentum₀) (k + 1) momentum₀
  unfolding node_velocity
  kept none massless =
      held
      ∙ filled-kept (at d g mass momentum₀) (pos 0) momentum₀ k inside
      (ap (λ M. velocity_of d g M (get_or momentum₀ k (pos 0))) none ∙ sym (massless none))

-- after the last turn
all : (d : ℕ) (g : ℤ) (mass : List ℕ) (momentum₀ : List ℤ) (k : ℕ) → FitsSigned w64 g → k ≡ length momentum₀ → filled (at d (to_z w64 (of_z w64 g)) mass momentum₀) k momentum₀ ≡ accelerated d (length momentum₀) g mass momentum₀
unfolding accelerated
all d g mass momentum₀ k fits e =
    ap₂ (λ h m. filled (at d h mass momentum₀) m momentum₀) (to_z-of_z fits) e ∙ filled-all (at d g mass momentum₀) momentum₀ (length momentum₀) refl

pub loop-k-init : goal.loop-k-init
loop-k-init c = (filled_none _ _, filled_none _ _)

pub loop-k-preserved : goal.loop-k-preserved
loop-k-preserved c =
    let a = c.args in
    let k = c.loop-k.k in
    let i = c.loop-k.invariant in
    let x-inside : k < length a.px.now = omega (arith, c.requires.0.as_many) in
    let y-inside : k < length a.py.now = omega (arith, c.requires.1.as_many) in
    let gx = to_z w64 (of_z w64 a.gx) in
    let gy = to_z w64 (of_z w64 a.gy) in
    elim c.if-m-ne0.branch [
      | then-m-ne0 w ↦ (
        w.px-is ∙ stored a.d gx a.mass.now a.px.now c.loop-k.px k x-inside i.0 w.velocity.result (search rules) (search rules) w.velocity.ensures,
        w.py-is ∙ stored a.d gy a.mass.now a.py.now c.loop-k.py k y-inside i.1 w.velocity-then-m-ne0.result (search rules) (search rules) w.velocity-then-m-ne0.ensures,
      )
      | else-m-ne0 w ↦ (
        w.px-is ∙ kept a.d gx a.mass.now a.px.now c.loop-k.px k x-inside i.0 w.if-m-ne0.false (c.requires.0.massless k x-inside),
        w.py-is ∙ kept a.d gy a.mass.now a.py.now c.loop-k.py k y-inside i.1 w.if-m-ne0.false (c.requires.1.massless k y-inside),
      )
    ]

pub returns : goal.returns
returns c =
    let a = c.args in
    let x-end : c.loop-k.k ≡ length a.px.now = omega (arith, c.requires.0.as_many) in
    let y-end : c.loop-k.k ≡ length a.py.now = omega (arith, c.requires.1.as_many) in (
      c.loop-k.invariant.0 ∙ all a.d a.gx a.mass.now a.px.now c.loop-k.k c.ranges.gx x-end,
      c.loop-k.invariant.1 ∙ all a.d a.gy a.mass.now a.py.now c.loop-k.k c.ranges.gy y-end,
    )
