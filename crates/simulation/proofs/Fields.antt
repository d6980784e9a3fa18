-- The grids of a step are the fields of the laws.
--     mass-at, momentum-at
--                        the scatter's grids, place by place
--     velocity-grid      the updated velocities fill a grid with the field of the update
--     field              and are that field at each node
--     stepped-is         the particles after a step are those of the laws
-- Assumes nothing.
use mathlib.Core.Path.{◌≡◌, ap, ap₂, ◌∙◌}
use mathlib.Core.List.{List}
use Prim.Native.Nat.{ℕ, ◌*◌, ◌/◌, ◌%◌, ◌<◌}
use lib.ListN.{get_or}
use lib.IntN.{ℤ, pos, nat_abs}
use Rattle.arith.specs.Lists.{get_or-tabulated, map_each}
use Rattle.arith.specs.Rounding.{rounded}
use Rattle.arith.specs.Sums.{up_to, each-up_to}
use Rattle.particle.specs.declared.Particle.{Particle}
use Rattle.apic.specs.Step.{Axis, along_x, along_y, grid, node, node_mass, node_momentum, updated_velocity, after_update}
use Rattle.apic.proofs.Fields.{Agree, node-grid, moved-fields}
use Rattle.apic.proofs.Conservation as apic
use Rattle.update.specs.Update.{velocities}
use Rattle.settings.specs.declared.Settings.{Settings}
use Rattle.simulation.specs.Step.{masses_by, momenta_by, velocities_by, stepped_by}

-- the field of the update, with the engine's rounding
abbrev pub updated_field : (ℕ → ℕ → ℤ) → ℕ → Settings → Axis → List Particle → ℕ → ℕ → ℤ
updated_field w D s a ps = after_update rounded w D s a ps

module _ (w : ℕ → ℕ → ℤ) (D : ℕ) (s : Settings) (ps : List Particle) where
  pub mass-at : (k : ℕ) → k < s.nx * s.ny → get_or (masses_by w s ps) k 0 ≡ nat_abs (node_mass w ps (k % s.nx) (k / s.nx))
  unfolding masses_by
  mass-at k h = get_or-tabulated (λ k. nat_abs (node_mass w ps (k % s.nx) (k / s.nx))) (s.nx * s.ny) k 0 h

  pub momentum-at : (a : Axis) (k : ℕ) → k < s.nx * s.ny → get_or (momenta_by w D s a ps) k (pos 0) ≡ node_momentum w D a ps (k % s.nx) (k / s.nx)
  unfolding momenta_by
  momentum-at a k h = get_or-tabulated (λ k. node_momentum w D a ps (k % s.nx) (k / s.nx)) (s.nx * s.ny) k (pos 0) h

  pub velocity-grid : (a : Axis) → velocities_by w D s a ps ≡ grid s.nx s.ny (updated_field w D s a ps)
  unfolding velocities_by velocities
  velocity-grid a =
      map_each _ _ (up_to (s.nx * s.ny))
      (each-up_to _ (s.nx * s.ny) (λ k h. ap₂ (updated_velocity rounded D s a (k % s.nx) (k / s.nx)) (mass-at k h) (momentum-at a k h)))

  pub field : (a : Axis) → Agree s.nx s.ny (node s.nx (velocities_by w D s a ps)) (updated_field w D s a ps)
  field a i j in-x in-y =
      ap (λ u. node s.nx u i j) (velocity-grid a) ∙ node-grid s.nx s.ny (updated_field w D s a ps) i j in-x in-y

  pub stepped-is : stepped_by w D s ps ≡ apic.stepped rounded w D s ps
  unfolding stepped_by
  stepped-is =
      moved-fields rounded w s.nx s.ny _ _ _ _ (field along_x) (field along_y) ps
