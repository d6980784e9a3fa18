-- `update_grid::update_all`: gravity, drag and the rim in turn. Assumes nothing.
use Rattle.std.proofs.Common.{◌≡◌, ℕ, ◌*◌, List, map, length, ℤ, w64, to_z, of_z, sym, ap, ap₂, ◌∙◌, subst}
use lib.ListN.{length-map}
use Rattle.arith.specs.Machine.{read-size}
use Rattle.arith.specs.Size.{Bound}
use Rattle.arith.specs.Sums.{Each}
use Rattle.arith.specs.Rounding.{rounded}
use Rattle.limits.specs.Limits.{most_node_velocity}
use Rattle.apic.specs.Step.{along_x, along_y, after_drag}
use Rattle.settings.specs.declared.Settings.{Settings}
use Rattle.update.specs.Update.{velocities}
use Rattle.update.specs.Internal.{accelerated, AxisWithin, GridLimits}
use Rattle.update_rim.specs.Internal.{cleared, held_at, RimRoom}
use Rattle.update_grid.proofs.Passes.{axis-within, accelerated-length, accelerated-within, passes}
use Rattle.update_grid.proofs.update_all.Goals as goal

module _ {d : ℕ} {s : Settings} {mass : List ℕ} {px py : List ℤ} (limits : GridLimits d s mass px py) where
  back-x : to_z w64 (of_z w64 s.gx) ≡ s.gx
  back-x = read-size w64 s.gx limits.forces.gravity-x tt

  back-y : to_z w64 (of_z w64 s.gy) ≡ s.gy
  back-y = read-size w64 s.gy limits.forces.gravity-y tt

  -- what it asks of each axis
  x-ready : AxisWithin d (to_z w64 (of_z w64 s.gx)) mass px
  x-ready = rw back-x (axis-within d (s.nx * s.ny) s.gx mass px limits.within.spread limits.within.mass-length limits.within.px-length limits.within.gravity-x (λ k h. (limits.within.nodes k h).mass) (λ k h. (limits.within.nodes k h).massless-x))

  y-ready : AxisWithin d (to_z w64 (of_z w64 s.gy)) mass py
  y-ready = rw back-y (axis-within d (s.nx * s.ny) s.gy mass py limits.within.spread limits.within.mass-length limits.within.py-length limits.within.gravity-y (λ k h. (limits.within.nodes k h).mass) (λ k h. (limits.within.nodes k h).massless-y))

  -- after gravity
  module _ {ux uy : List ℤ} (x : ux ≡ accelerated d (length px) (to_z w64 (of_z w64 s.gx)) mass px) (y : uy ≡ accelerated d (length py) (to_z w64 (of_z w64 s.gy)) mass py) where
    x-is : ux ≡ accelerated d (s.nx * s.ny) s.gx mass px
    x-is = x ∙ ap₂ (λ n g. accelerated d n g mass px) limits.within.px-length back-x

    y-is : uy ≡ accelerated d (s.nx * s.ny) s.gy mass py
    y-is = y ∙ ap₂ (λ n g. accelerated d n g mass py) limits.within.py-length back-y

    x-within : Each (λ u. Bound u most_node_velocity) ux
    x-within = subst (Each (λ u. Bound u most_node_velocity)) (sym x-is) (accelerated-within d (s.nx * s.ny) s.gx mass px (λ k h. (limits.within.nodes k h).vx))

    y-within : Each (λ u. Bound u most_node_velocity) uy
    y-within = subst (Each (λ u. Bound u most_node_velocity)) (sym y-is) (accelerated-within d (s.nx * s.ny) s.gy mass py (λ k h. (limits.within.nodes k h).vy))

    -- after drag
    module _ {vx vy : List ℤ} (x₂ : vx ≡ map (after_drag rounded s.drag) ux) (y₂ : vy ≡ map (after_drag rounded s.drag) uy) where
      rim-room : RimRoom s vx vy
      rim-room =
          record {
            sizes = limits.sizes;
            edge = limits.forces.edge;
            x-count = ap length x₂ ∙ length-map ux _ ∙ ap length x-is ∙ accelerated-length d (s.nx * s.ny) s.gx mass px;
            y-count = ap length y₂ ∙ length-map uy _ ∙ ap length y-is ∙ accelerated-length d (s.nx * s.ny) s.gy mass py;
          }

      -- after the rim
      x-updated : {wx : List ℤ} → wx ≡ cleared (held_at s along_x) vx → wx ≡ velocities d s along_x mass px
      x-updated e = e ∙ ap (cleared (held_at s along_x)) (x₂ ∙ ap (map (after_drag rounded s.drag)) x-is) ∙ passes d s along_x mass px

      y-updated : {wy : List ℤ} → wy ≡ cleared (held_at s along_y) vy → wy ≡ velocities d s along_y mass py
      y-updated e = e ∙ ap (cleared (held_at s along_y)) (y₂ ∙ ap (map (after_drag rounded s.drag)) y-is) ∙ passes d s along_y mass py

pub accelerate-requires : goal.accelerate-requires
accelerate-requires c = (x-ready c.requires, y-ready c.requires)

pub slow-requires : goal.slow-requires
slow-requires c = (x-within c.requires c.accelerate.ensures.0 c.accelerate.ensures.1, c.requires.forces.drag)

pub slow-requires-2 : goal.slow-requires-2
slow-requires-2 c = (y-within c.requires c.accelerate.ensures.0 c.accelerate.ensures.1, c.requires.forces.drag)

pub returns : goal.returns
returns c = (
  x-updated c.requires c.accelerate.ensures.0 c.accelerate.ensures.1 c.slow.ensures c.slow-2.ensures c.hold.ensures.0,
  y-updated c.requires c.accelerate.ensures.0 c.accelerate.ensures.1 c.slow.ensures c.slow-2.ensures c.hold.ensures.1,
)
