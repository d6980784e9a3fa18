-- What scatter makes of particles, as grids that are added.
--     scattered-moderate           each node passes 20's test
--     scattered-none, scattered-sum     no particle, and one list after another
--     light-sum                    a node's masses, added, where both lists together are light
-- Assumes nothing.
use mathlib.Core.Path.{◌≡◌, sym, ap, ap₂, ◌∙◌, subst}
use mathlib.Core.List.{List, [], ◌++◌}
use Prim.Native.Nat.{ℕ, ◌+◌, ◌*◌, ◌/◌, ◌%◌, ◌≤◌, ◌<◌}
use native.Mathlib.Omega.{arith}
use lib.ListN.{length, get_or, replicate, length-replicate, get_or-replicate}
use lib.IntN.{ℤ, pos, nat_abs, ◌+ℤ◌, ◌*ℤ◌}
use lib.Signed.{◌≤ℤ◌}
use Rattle.arith.specs.Order.{Within, nonneg_pos, within_of}
use Rattle.arith.specs.Size.{Bound, bound-widen, within-bound}
use Rattle.arith.specs.Indices.{column-below, line-below}
use Rattle.arith.specs.Sums.{Each, sum-append}
use Rattle.limits.specs.Limits.{most_node_mass, most_present_momentum}
use Rattle.spline.specs.Spline.{axis_weight, D}
use Rattle.particle.specs.declared.Particle.{Particle}
use Rattle.apic.specs.Step.{Axis, along_x, along_y, node_mass, node_momentum, grids_of, grid}
use Rattle.apic.specs.Limits.{SizeLimits, ParticleLimits}
use Rattle.apic.proofs.Bounds.{Limited, most_momentum, node-limits, node-momentum-within}
use Rattle.apic.proofs.Spline.{spline-lawful}
use Rattle.apic.proofs.Update.{node-mass-nonneg}
use Rattle.grid_cells.proofs.Grids.{length-grid, get_or-grid, grid-from}
use Rattle.transfer.specs.Transfer.{scatter_of}
use Rattle.adding.specs.Adding.{mass_sums, momentum_sums, grid_sums}
use Rattle.adding.specs.Sections.{zero_grids}
use Rattle.adding.specs.Internal.{ModerateGrids}
use Rattle.adding.proofs.Nodes.{length-masses, mass-at, length-momenta, momentum-at}

module _ (nx ny : ℕ) (ps : List Particle) where
  -- the mass of node (i, j)
  abbrev mass : ℕ → ℕ → ℕ
  mass i j = nat_abs (node_mass axis_weight ps i j)

  pub length-mass : length (scatter_of nx ny ps).mass ≡ nx * ny
  length-mass = length-grid nx ny mass

  pub length-x : length (scatter_of nx ny ps).x ≡ nx * ny
  length-x = length-grid nx ny (node_momentum axis_weight D along_x ps)

  pub length-y : length (scatter_of nx ny ps).y ≡ nx * ny
  length-y = length-grid nx ny (node_momentum axis_weight D along_y ps)

  module _ (k : ℕ) (inside : k < nx * ny) where
    pub scattered-mass : get_or (scatter_of nx ny ps).mass k 0 ≡ mass (k % nx) (k / nx)
    scattered-mass = get_or-grid nx ny mass 0 k inside

    pub scattered-x : get_or (scatter_of nx ny ps).x k (pos 0) ≡ node_momentum axis_weight D along_x ps (k % nx) (k / nx)
    scattered-x = get_or-grid nx ny (node_momentum axis_weight D along_x ps) (pos 0) k inside

    pub scattered-y : get_or (scatter_of nx ny ps).y k (pos 0) ≡ node_momentum axis_weight D along_y ps (k % nx) (k / nx)
    scattered-y = get_or-grid nx ny (node_momentum axis_weight D along_y ps) (pos 0) k inside

-- ---- particles within their limits

pub some-columns : {nx ny : ℕ} → SizeLimits nx ny → 0 < nx
some-columns s = omega (arith, s.x-least)

module _ (nx ny : ℕ) (some : 0 < nx) (ps : List Particle) (limits : Limited nx ny ps) where
  nonneg : (i j : ℕ) → pos 0 ≤ℤ node_mass axis_weight ps i j
  nonneg = node-mass-nonneg axis_weight D nx ny ps (spline-lawful.placed nx ny ps limits.each)

  light : (k : ℕ) → k < nx * ny → mass nx ny ps (k % nx) (k / nx) ≤ most_node_mass
  light k h =
      let l = node-limits axis_weight spline-lawful.near D nx ny ps (spline-lawful.placed nx ny ps limits.each) limits (k % nx) (k / nx) (column-below nx some k) (line-below nx some ny k h) in
      (within-bound (within_of l.mass-least l.mass-most)).size

  slow : (a : Axis) (i j : ℕ) → Bound (node_momentum axis_weight D a ps i j) (mass nx ny ps i j * most_present_momentum)
  slow a i j =
      bound-widen (less (mass nx ny ps i j))
      (within-bound
      (subst (λ M. Within (pos (most_momentum D) *ℤ M) (node_momentum axis_weight D a ps i j)) (nonneg_pos (nonneg i j))
      (node-momentum-within axis_weight spline-lawful.near D nx ny ps (spline-lawful.placed nx ny ps limits.each) limits a i j)))
    where
      less : (M : ℕ) → most_momentum D * M ≤ M * most_present_momentum
      less M = omega arith

  pub scattered-moderate : ModerateGrids (nx * ny) (scatter_of nx ny ps)
  scattered-moderate k h =
      record {
        light = rw (scattered-mass nx ny ps k h) (light k h);
        slow-x = rw (scattered-mass nx ny ps k h, scattered-x nx ny ps k h) (slow along_x (k % nx) (k / nx));
        slow-y = rw (scattered-mass nx ny ps k h, scattered-y nx ny ps k h) (slow along_y (k % nx) (k / nx));
      }

-- ---- no particle, and one list after another

pub scattered-none : (nx ny : ℕ) → zero_grids (nx * ny) ≡ scatter_of nx ny []
unfolding node_mass node_momentum
scattered-none nx ny = λ t. grids_of (masses t) (momenta along_x t) (momenta along_y t)
  where
    masses : replicate (nx * ny) 0 ≡ grid nx ny (mass nx ny [])
    masses = grid-from nx ny (mass nx ny []) 0 (replicate (nx * ny) 0) (length-replicate (nx * ny) 0) (λ k h. get_or-replicate (nx * ny) k 0 0 h)

    momenta : (a : Axis) → replicate (nx * ny) (pos 0) ≡ grid nx ny (node_momentum axis_weight D a [])
    momenta a = grid-from nx ny (node_momentum axis_weight D a []) (pos 0) (replicate (nx * ny) (pos 0)) (length-replicate (nx * ny) (pos 0)) (λ k h. get_or-replicate (nx * ny) k (pos 0) (pos 0) h)

module _ (nx ny : ℕ) (qs rs : List Particle) where
  mass-append : (i j : ℕ) → node_mass axis_weight (qs ++ rs) i j ≡ node_mass axis_weight qs i j +ℤ node_mass axis_weight rs i j
  unfolding node_mass
  mass-append i j = sum-append _ qs rs

  momentum-append : (a : Axis) (i j : ℕ) → node_momentum axis_weight D a (qs ++ rs) i j ≡ node_momentum axis_weight D a qs i j +ℤ node_momentum axis_weight D a rs i j
  unfolding node_momentum
  momentum-append a i j = sum-append _ qs rs

  module _ (first : Each (ParticleLimits nx ny) qs) (second : Each (ParticleLimits nx ny) rs) where
    masses-sum : (i j : ℕ) → mass nx ny qs i j + mass nx ny rs i j ≡ mass nx ny (qs ++ rs) i j
    masses-sum i j =
        sym (ap nat_abs (mass-append i j ∙ ap₂ ◌+ℤ◌ (nonneg_pos (heavy qs first)) (nonneg_pos (heavy rs second))))
      where
        heavy : (ps : List Particle) → Each (ParticleLimits nx ny) ps → pos 0 ≤ℤ node_mass axis_weight ps i j
        heavy ps e = node-mass-nonneg axis_weight D nx ny ps (spline-lawful.placed nx ny ps e) i j

    mass-sum-at : (k : ℕ) → k < nx * ny → get_or (scatter_of nx ny qs).mass k 0 + get_or (scatter_of nx ny rs).mass k 0 ≡ mass nx ny (qs ++ rs) (k % nx) (k / nx)
    mass-sum-at k h = ap₂ ◌+◌ (scattered-mass nx ny qs k h) (scattered-mass nx ny rs k h) ∙ masses-sum (k % nx) (k / nx)

    pub scattered-sum : grid_sums (nx * ny) (scatter_of nx ny qs) (scatter_of nx ny rs) ≡ scatter_of nx ny (qs ++ rs)
    scattered-sum =
        λ t. grids_of (masses t) (momenta along_x (scatter_of nx ny qs).x (scatter_of nx ny rs).x (scattered-x nx ny qs) (scattered-x nx ny rs) t) (momenta along_y (scatter_of nx ny qs).y (scatter_of nx ny rs).y (scattered-y nx ny qs) (scattered-y nx ny rs) t)
      where
        masses : mass_sums (nx * ny) (scatter_of nx ny qs).mass (scatter_of nx ny rs).mass ≡ grid nx ny (mass nx ny (qs ++ rs))
        masses =
            grid-from nx ny (mass nx ny (qs ++ rs)) 0 _ (length-masses (nx * ny) _ _)
            (λ k h. mass-at (nx * ny) _ _ k h ∙ mass-sum-at k h)

        momenta : (a : Axis) (l m : List ℤ) → ((k : ℕ) → k < nx * ny → get_or l k (pos 0) ≡ node_momentum axis_weight D a qs (k % nx) (k / nx)) → ((k : ℕ) → k < nx * ny → get_or m k (pos 0) ≡ node_momentum axis_weight D a rs (k % nx) (k / nx)) → momentum_sums (nx * ny) l m ≡ grid nx ny (node_momentum axis_weight D a (qs ++ rs))
        momenta a l m e f =
            grid-from nx ny (node_momentum axis_weight D a (qs ++ rs)) (pos 0) _ (length-momenta (nx * ny) l m)
            (λ k h. momentum-at (nx * ny) l m k h ∙ ap₂ ◌+ℤ◌ (e k h) (f k h) ∙ sym (momentum-append a (k % nx) (k / nx)))

    pub light-sum : 0 < nx → Limited nx ny (qs ++ rs) → (k : ℕ) → k < nx * ny → get_or (scatter_of nx ny qs).mass k 0 + get_or (scatter_of nx ny rs).mass k 0 ≤ most_node_mass
    light-sum some limits k h = rw (mass-sum-at k h) (light nx ny some (qs ++ rs) limits k h)
