-- A gather reads its velocity fields at the nodes of the grid alone, and a grid as a list is a field there.
--     Agree           two fields are the same at the nodes of the grid
--     velocity-fields, affine-fields, moved-field, moved-fields
--                     then their gathers are the same
--     node-grid       the list that a field fills has the field's value at each node
-- Assumes nothing.
use mathlib.Core.Path.{◌≡◌, refl, ap, ap₂, ◌∙◌}
use mathlib.Core.List.{List, [], ◌∷◌, map}
use Prim.Native.Nat.{ℕ, ◌+◌, ◌*◌, ◌/◌, ◌%◌, ◌^◌, ◌<◌}
use native.Mathlib.Omega.{arith}
use lib.IntN.{ℤ, pos, nat_abs, ◌*ℤ◌}
use Rattle.arith.specs.Lists.{get_or-tabulated}
use Rattle.arith.specs.Indices.{column, line, index_below}
use Rattle.particle.specs.declared.Particle.{Particle}
use Rattle.apic.specs.Step.{Axis, along_x, along_y, apart, weight, gathered_velocity, gathered_affine, new_coordinate, moved, grid, node}
use Rattle.apic.proofs.Nodes.{nodes-cong}

abbrev pub Agree : ℕ → ℕ → (ℕ → ℕ → ℤ) → (ℕ → ℕ → ℤ) → Type 0
Agree nx ny u v = (i j : ℕ) → i < nx → j < ny → u i j ≡ v i j

module _ (round : ℤ → ℕ → ℤ) (w : ℕ → ℕ → ℤ) (nx ny : ℕ) where
  pub velocity-fields : (u v : ℕ → ℕ → ℤ) → Agree nx ny u v → (p : Particle) → gathered_velocity round w nx ny u p ≡ gathered_velocity round w nx ny v p
  unfolding gathered_velocity
  velocity-fields u v h p =
      ap (λ s. round s (2 ^ 34)) (nodes-cong nx ny _ _ (λ i j in-x in-y. ap (λ s. weight w p i j *ℤ s) (h i j in-x in-y)))

  pub affine-fields : (b : Axis) (u v : ℕ → ℕ → ℤ) → Agree nx ny u v → (p : Particle) → gathered_affine round w nx ny b u p ≡ gathered_affine round w nx ny b v p
  unfolding gathered_affine
  affine-fields b u v h p =
      ap (λ s. round s (2 ^ 34)) (nodes-cong nx ny _ _ (λ i j in-x in-y. ap (λ s. weight w p i j *ℤ s *ℤ apart b p i j) (h i j in-x in-y)))

  module _ (ux uy vx vy : ℕ → ℕ → ℤ) (on-x : Agree nx ny ux vx) (on-y : Agree nx ny uy vy) where
    pub moved-field : (p : Particle) → moved round w nx ny ux uy p ≡ moved round w nx ny vx vy p
    unfolding moved
    moved-field p = λ t.
        record {
          identifier = p.identifier;
          mass = p.mass;
          x = nat_abs (new_coordinate along_x p (velocity-fields ux vx on-x p t));
          y = nat_abs (new_coordinate along_y p (velocity-fields uy vy on-y p t));
          vx = velocity-fields ux vx on-x p t;
          vy = velocity-fields uy vy on-y p t;
          bxx = affine-fields along_x ux vx on-x p t;
          bxy = affine-fields along_y ux vx on-x p t;
          byx = affine-fields along_x uy vy on-y p t;
          byy = affine-fields along_y uy vy on-y p t;
          marks = p.marks;
        }

    pub moved-fields : (ps : List Particle) → map (moved round w nx ny ux uy) ps ≡ map (moved round w nx ny vx vy) ps
    moved-fields [] = refl
    moved-fields (p ∷ ps) = ap₂ ◌∷◌ (moved-field p) (moved-fields ps)

-- ---- grids

pub node-grid : (nx ny : ℕ) (f : ℕ → ℕ → ℤ) → Agree nx ny (node nx (grid nx ny f)) f
node-grid nx ny f i j in-x in-y =
    get_or-tabulated (λ k. f (k % nx) (k / nx)) (nx * ny) (j * nx + i) (pos 0) (index_below nx ny i j in-x in-y)
    ∙ ap₂ f (column nx (some i nx in-x) i j in-x) (line nx (some i nx in-x) i j in-x)
  where
    some : (i nx : ℕ) → i < nx → 0 < nx
    some i nx h = omega arith
