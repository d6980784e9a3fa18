-- `update_drag::slow`: a turn slows the next velocity. Assumes nothing.
use Rattle.std.proofs.Common.{◌≡◌, ℕ, ◌+◌, ◌<◌, List, [], ◌∷◌, map, length, get_or, set, ℤ, pos, w64, to_z, of_z, FitsSigned, refl, sym, ap, ap₂, ◌∙◌, subst, rules, arith}
use mir.Facts.{to_z-of_z}
use Rattle.arith.specs.Size.{Bound}
use Rattle.arith.specs.Rounding.{rounded}
use Rattle.arith.proofs.Rounding.{rounded-error}
use Rattle.arith.specs.Lists.{each_at, mapped}
use Rattle.arith.specs.Fill.{filled, filled_none, filled-read, filled_more, filled-all}
use Rattle.limits.specs.Limits.{most_node_velocity}
use Rattle.apic.specs.Step.{after_drag}
use Rattle.apic.proofs.Edges.{drag-none}
use Rattle.update_drag.proofs.slow.Invariants.{at}
use Rattle.update_drag.proofs.slow.Goals as goal

module _ (drag : ℕ) (velocities₀ velocities : List ℤ) (k : ℕ) (inside : k < length velocities₀) (held : velocities ≡ filled (at drag velocities₀) k velocities₀) where
  -- the next velocity is as it was
  next : get_or velocities k (pos 0) ≡ get_or velocities₀ k (pos 0)
  next = ap (λ l. get_or l k (pos 0)) held ∙ filled-read (at drag velocities₀) (pos 0) velocities₀ k inside

  -- a turn stores it slowed
  stored : (v : ℤ) → FitsSigned w64 v → FitsSigned w64 (get_or velocities k (pos 0)) → v ≡ after_drag rounded drag (to_z w64 (of_z w64 (get_or velocities k (pos 0)))) → set velocities k (to_z w64 (of_z w64 v)) ≡ filled (at drag velocities₀) (k + 1) velocities₀
  stored v v-fits fits e =
      ap₂ (λ l x. set l k x) held (to_z-of_z v-fits ∙ e ∙ ap (after_drag rounded drag) (to_z-of_z fits ∙ next))
      ∙ filled_more (at drag velocities₀) (pos 0) velocities₀ k inside

-- no drag
same : (l : List ℤ) → map (after_drag rounded 0) l ≡ l
same [] = refl
same (u ∷ l) = ap₂ ◌∷◌ (drag-none rounded rounded-error u) (same l)

pub returns-then-drag-eq0 : goal.returns-then-drag-eq0
returns-then-drag-eq0 c = rw c.if-drag-eq0.true (sym (same c.args.velocities.now))

pub loop-u-init : goal.loop-u-init
loop-u-init c = filled_none _ _

pub slowed-requires : goal.slowed-requires
slowed-requires c =
    let u = c.args.velocities.now in
    let k = c.loop-u.u-index in
    let h : k < length u = omega arith in
    let f : FitsSigned w64 (get_or c.loop-u.velocities k (pos 0)) = search rules in (
      subst (λ u. Bound u most_node_velocity)
          (sym (to_z-of_z f ∙ next c.args.drag u c.loop-u.velocities k h c.loop-u.invariant))
          (each_at (λ u. Bound u most_node_velocity) u k (pos 0) c.requires.0 h),
      c.requires.1,
    )

pub loop-u-preserved : goal.loop-u-preserved
loop-u-preserved c =
    let u = c.args.velocities.now in
    let k = c.loop-u.u-index in
    let h : k < length u = omega arith in
    let f : FitsSigned w64 (get_or c.loop-u.velocities k (pos 0)) = search rules in
    let r : FitsSigned w64 c.slowed.result = search rules in
    stored c.args.drag u c.loop-u.velocities k h c.loop-u.invariant c.slowed.result r f c.slowed.ensures

pub returns : goal.returns
returns c =
    let u = c.args.velocities.now in
    let all : c.loop-u.u-index ≡ length u = omega arith in
    c.loop-u.invariant
    ∙ ap (λ k. filled (at c.args.drag u) k u) all
    ∙ filled-all (at c.args.drag u) u (length u) refl
    ∙ mapped (after_drag rounded c.args.drag) (pos 0) u
