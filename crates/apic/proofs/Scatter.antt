-- What the scatter keeps, exactly, for weights with the moments: one law for each total of the grid.
--     place              a node's place
--     field_momentum, field_angular_momentum
--                        of the nodes of a scatter, moved by fields of velocities: Σ M·u, and Σ M·(X·uy − Y·ux)
--     mass-sum           Σ m·1 is the total mass
--     particle-sum       Σ over particles of Σ over nodes of m·W·(a quadratic in the offsets); scatter-sum, over nodes first
--     scatter-mass       Σ M = 2^26·mass
--     scatter-moment     Σ M-as-X = 2^26·Σ m·x, on each axis
--     scatter-linear     Σ of node momentum = 2^26·D·momentum, on each axis
--     scatter-angular    Σ X·(momentum y) − Y·(momentum x) = 2^26·D·(angular momentum), affine part included
-- Assumes nothing.
use mathlib.Core.Path.{◌≡◌, sym, ap, ap₂, ◌∙◌}
use mathlib.Core.List.{List, [], ◌∷◌}
use Prim.Native.Nat.{ℕ, ◌*◌, ◌^◌}
use lib.IntN.{ℤ, pos, neg_ℤ, ◌+ℤ◌, ◌-ℤ◌, ◌*ℤ◌}
use Rattle.arith.specs.Ring.{*ℤ-assoc, *ℤ-left-comm}
use Rattle.arith.specs.Solver.{ring, quote}
use Rattle.arith.specs.Sums.{Each, sum_over, sum-cong, sum-cong-each, sum-sub, sum-scale, total-pos}
use Rattle.particle.specs.declared.Particle.{Particle}
use Rattle.apic.specs.Step.{Axis, along_x, along_y, coordinate, velocity, affine, apart, weight, node_mass, carried, node_momentum, over_nodes}
use Rattle.apic.specs.Totals.{total_mass, momentum, spin_per_mass, angular_momentum}
use Rattle.apic.specs.Motion.{Placed}
use Rattle.apic.proofs.Nodes.{nodes-cong, nodes-scale, nodes-exchange}
use Rattle.apic.proofs.Quadratic.{Quadratic, at, flat, node-quadratic}

-- a node's place along an axis
abbrev pub place : Axis → ℕ → ℕ → ℤ
place along_x i j = pos (64 * i)
place along_y i j = pos (64 * j)

abbrev pub field_momentum : (ℕ → ℕ → ℤ) → ℕ → ℕ → List Particle → (ℕ → ℕ → ℤ) → ℤ
field_momentum w nx ny ps u = over_nodes nx ny (λ i j. node_mass w ps i j *ℤ u i j)

abbrev pub field_angular_momentum : (ℕ → ℕ → ℤ) → ℕ → ℕ → List Particle → (ℕ → ℕ → ℤ) → (ℕ → ℕ → ℤ) → ℤ
field_angular_momentum w nx ny ps ux uy =
    over_nodes nx ny (λ i j. node_mass w ps i j *ℤ (place along_x i j *ℤ uy i j -ℤ place along_y i j *ℤ ux i j))

-- place = coordinate + offset, as a quadratic in the offsets
abbrev reach : Axis → Particle → Quadratic
reach along_x p = flat (pos p.x) (pos 1) (pos 0)
reach along_y p = flat (pos p.y) (pos 0) (pos 1)

-- ---- what a particle gives, as its mass and weight times a quadratic

module _ (m W : ℤ) where
  one : (dx dy : ℤ) → m *ℤ W ≡ m *ℤ W *ℤ at (flat (pos 1) (pos 0) (pos 0)) dx dy
  one dx dy = ring (m ∷ W ∷ dx ∷ dy ∷ []) (search quote depth 30 fits 20000) (search quote depth 30 fits 20000) tt

  right_of : (x X dy : ℤ) → X *ℤ (m *ℤ W) ≡ m *ℤ W *ℤ at (flat x (pos 1) (pos 0)) (X -ℤ x) dy
  right_of x X dy = ring (m ∷ W ∷ x ∷ X ∷ dy ∷ []) (search quote depth 30 fits 20000) (search quote depth 30 fits 20000) tt

  above : (y Y dx : ℤ) → Y *ℤ (m *ℤ W) ≡ m *ℤ W *ℤ at (flat y (pos 0) (pos 1)) dx (Y -ℤ y)
  above y Y dx = ring (m ∷ W ∷ y ∷ Y ∷ dx ∷ []) (search quote depth 30 fits 20000) (search quote depth 30 fits 20000) tt

  line : (c bx by dx dy : ℤ) → m *ℤ W *ℤ (c +ℤ bx *ℤ dx +ℤ by *ℤ dy) ≡ m *ℤ W *ℤ at (flat c bx by) dx dy
  line c bx by dx dy = ring (m ∷ W ∷ c ∷ bx ∷ by ∷ dx ∷ dy ∷ []) (search quote depth 30 fits 20000) (search quote depth 30 fits 20000) tt

unchanged : (c D : ℤ) → c +ℤ D *ℤ (pos 0 +ℤ pos 0) ≡ c
unchanged c D = ring (c ∷ D ∷ []) (search quote depth 30) (search quote depth 30) tt

pub mass-sum : (ps : List Particle) → sum_over ps (λ p. pos p.mass *ℤ pos 1) ≡ pos (total_mass ps)
mass-sum ps = sum-cong _ _ (λ p. times-one (pos p.mass)) ps ∙ sym (total-pos (λ p. p.mass) ps)
  where
    times-one : (m : ℤ) → m *ℤ pos 1 ≡ m
    times-one m = ring (m ∷ []) (search quote depth 30) (search quote depth 30) tt

module _ (w : ℕ → ℕ → ℤ) (D : ℕ) (nx ny : ℕ) (ps : List Particle) (on : Each (Placed w D nx ny) ps) where
  -- f is m·W times a quadratic q in the offsets, for each unit of mass `total` in all
  module _ (f : Particle → ℕ → ℕ → ℤ) (q : Particle → Quadratic) (total : Particle → ℤ) (h : (p : Particle) (i j : ℕ) → f p i j ≡ pos p.mass *ℤ weight w p i j *ℤ at (q p) (apart along_x p i j) (apart along_y p i j)) (k : (p : Particle) → (q p).constant +ℤ pos D *ℤ ((q p).xx +ℤ (q p).yy) ≡ total p) where
    aside : (m t : ℤ) → m *ℤ (pos (2 ^ 26) *ℤ t) ≡ pos (2 ^ 26) *ℤ (m *ℤ t)
    aside m t = ring (m ∷ t ∷ []) (search quote depth 30) (search quote depth 30) tt

    share : (p : Particle) → Placed w D nx ny p → over_nodes nx ny (f p) ≡ pos (2 ^ 26) *ℤ (pos p.mass *ℤ total p)
    share p placed =
        nodes-cong nx ny _ _ (λ i j in-x in-y. h p i j ∙ *ℤ-assoc (pos p.mass) (weight w p i j) (at (q p) (apart along_x p i j) (apart along_y p i j)))
        ∙ nodes-scale nx ny (pos p.mass) (λ i j. weight w p i j *ℤ at (q p) (apart along_x p i j) (apart along_y p i j))
        ∙ ap (λ s. pos p.mass *ℤ s) (node-quadratic placed (q p) ∙ ap (λ s. pos (2 ^ 26) *ℤ s) (k p))
        ∙ aside (pos p.mass) (total p)

    pub particle-sum : sum_over ps (λ p. over_nodes nx ny (λ i j. f p i j)) ≡ pos (2 ^ 26) *ℤ sum_over ps (λ p. pos p.mass *ℤ total p)
    particle-sum =
        sum-cong-each (Placed w D nx ny) _ _ (λ p placed. share p placed) ps on
        ∙ sum-scale (pos (2 ^ 26)) (λ p. pos p.mass *ℤ total p) ps

    scatter-sum : over_nodes nx ny (λ i j. sum_over ps (λ p. f p i j)) ≡ pos (2 ^ 26) *ℤ sum_over ps (λ p. pos p.mass *ℤ total p)
    scatter-sum = nodes-exchange nx ny f ps ∙ particle-sum

  pub scatter-mass : over_nodes nx ny (node_mass w ps) ≡ pos (2 ^ 26) *ℤ pos (total_mass ps)
  unfolding node_mass
  scatter-mass =
      scatter-sum (λ p i j. pos p.mass *ℤ weight w p i j) (λ p. flat (pos 1) (pos 0) (pos 0)) (λ p. pos 1)
      (λ p i j. one (pos p.mass) (weight w p i j) (apart along_x p i j) (apart along_y p i j))
      (λ p. unchanged (pos 1) (pos D))
      ∙ ap (λ s. pos (2 ^ 26) *ℤ s) (mass-sum ps)

  pub scatter-moment : (a : Axis) → over_nodes nx ny (λ i j. place a i j *ℤ node_mass w ps i j) ≡ pos (2 ^ 26) *ℤ sum_over ps (λ p. pos p.mass *ℤ pos (coordinate a p))
  unfolding node_mass
  scatter-moment a =
      nodes-cong nx ny _ _ (λ i j in-x in-y. sym (sum-scale (place a i j) (λ p. pos p.mass *ℤ weight w p i j) ps))
      ∙ scatter-sum (λ p i j. place a i j *ℤ (pos p.mass *ℤ weight w p i j)) (reach a) (λ p. pos (coordinate a p)) (there a) (stays a)
    where
      there : (a : Axis) (p : Particle) (i j : ℕ) → place a i j *ℤ (pos p.mass *ℤ weight w p i j) ≡ pos p.mass *ℤ weight w p i j *ℤ at (reach a p) (apart along_x p i j) (apart along_y p i j)
      there along_x p i j = right_of (pos p.mass) (weight w p i j) (pos p.x) (pos (64 * i)) (apart along_y p i j)
      there along_y p i j = above (pos p.mass) (weight w p i j) (pos p.y) (pos (64 * j)) (apart along_x p i j)

      stays : (a : Axis) (p : Particle) → (reach a p).constant +ℤ pos D *ℤ ((reach a p).xx +ℤ (reach a p).yy) ≡ pos (coordinate a p)
      stays along_x p = unchanged (pos p.x) (pos D)
      stays along_y p = unchanged (pos p.y) (pos D)

  pub scatter-linear : (a : Axis) → over_nodes nx ny (node_momentum w D a ps) ≡ pos (2 ^ 26) *ℤ (pos D *ℤ momentum a ps)
  unfolding node_momentum
  scatter-linear a =
      scatter-sum _ (λ p. flat (pos D *ℤ velocity a p) (affine a along_x p) (affine a along_y p)) (λ p. pos D *ℤ velocity a p)
      (λ p i j. line (pos p.mass) (weight w p i j) (pos D *ℤ velocity a p) (affine a along_x p) (affine a along_y p) (apart along_x p i j) (apart along_y p i j))
      (λ p. unchanged (pos D *ℤ velocity a p) (pos D))
      ∙ ap (λ s. pos (2 ^ 26) *ℤ s)
      (sum-cong _ _ (λ p. *ℤ-left-comm (pos p.mass) (pos D) (velocity a p)) ps ∙ sum-scale (pos D) (λ p. pos p.mass *ℤ velocity a p) ps)

  pub scatter-angular : over_nodes nx ny (λ i j. place along_x i j *ℤ node_momentum w D along_y ps i j -ℤ place along_y i j *ℤ node_momentum w D along_x ps i j) ≡ pos (2 ^ 26) *ℤ (pos D *ℤ angular_momentum ps)
  unfolding node_momentum
  scatter-angular =
      nodes-cong nx ny _ _ (λ i j in-x in-y. inside i j)
      ∙ scatter-sum turn quadratic (λ p. pos D *ℤ spin_per_mass p) share kept
      ∙ ap (λ s. pos (2 ^ 26) *ℤ s)
      (sum-cong _ _ (λ p. *ℤ-left-comm (pos p.mass) (pos D) (spin_per_mass p)) ps
      ∙ sum-scale (pos D) (λ p. pos p.mass *ℤ spin_per_mass p) ps)
    where
      given : Axis → Particle → ℕ → ℕ → ℤ
      given a p i j = pos p.mass *ℤ weight w p i j *ℤ carried D a p i j

      turn : Particle → ℕ → ℕ → ℤ
      turn p i j = place along_x i j *ℤ given along_y p i j -ℤ place along_y i j *ℤ given along_x p i j

      quadratic : Particle → Quadratic
      quadratic p =
          record {
            constant = pos D *ℤ (pos p.x *ℤ p.vy -ℤ pos p.y *ℤ p.vx);
            x = pos p.x *ℤ p.byx +ℤ pos D *ℤ p.vy -ℤ pos p.y *ℤ p.bxx;
            y = pos p.x *ℤ p.byy -ℤ pos D *ℤ p.vx -ℤ pos p.y *ℤ p.bxy;
            xx = p.byx;
            xy = p.byy -ℤ p.bxx;
            yy = neg_ℤ p.bxy;
          }

      inside : (i j : ℕ) → place along_x i j *ℤ sum_over ps (λ p. given along_y p i j) -ℤ place along_y i j *ℤ sum_over ps (λ p. given along_x p i j) ≡ sum_over ps (λ p. turn p i j)
      inside i j =
          ap₂ ◌-ℤ◌ (sym (sum-scale (place along_x i j) (λ p. given along_y p i j) ps)) (sym (sum-scale (place along_y i j) (λ p. given along_x p i j) ps))
          ∙ sym (sum-sub (λ p. place along_x i j *ℤ given along_y p i j) (λ p. place along_y i j *ℤ given along_x p i j) ps)

      share : (p : Particle) (i j : ℕ) → turn p i j ≡ pos p.mass *ℤ weight w p i j *ℤ at (quadratic p) (apart along_x p i j) (apart along_y p i j)
      share p i j = product (pos p.mass *ℤ weight w p i j) (pos D) (pos p.x) (pos p.y) (pos (64 * i)) (pos (64 * j)) p.vx p.vy p.bxx p.bxy p.byx p.byy
        where
          product : (k D x y X Y vx vy bxx bxy byx byy : ℤ) → X *ℤ (k *ℤ (D *ℤ vy +ℤ byx *ℤ (X -ℤ x) +ℤ byy *ℤ (Y -ℤ y))) -ℤ Y *ℤ (k *ℤ (D *ℤ vx +ℤ bxx *ℤ (X -ℤ x) +ℤ bxy *ℤ (Y -ℤ y))) ≡ k *ℤ (D *ℤ (x *ℤ vy -ℤ y *ℤ vx) +ℤ (x *ℤ byx +ℤ D *ℤ vy -ℤ y *ℤ bxx) *ℤ (X -ℤ x) +ℤ (x *ℤ byy -ℤ D *ℤ vx -ℤ y *ℤ bxy) *ℤ (Y -ℤ y) +ℤ byx *ℤ ((X -ℤ x) *ℤ (X -ℤ x)) +ℤ (byy -ℤ bxx) *ℤ ((X -ℤ x) *ℤ (Y -ℤ y)) +ℤ neg_ℤ bxy *ℤ ((Y -ℤ y) *ℤ (Y -ℤ y)))
          product k D x y X Y vx vy bxx bxy byx byy = ring (k ∷ D ∷ x ∷ y ∷ X ∷ Y ∷ vx ∷ vy ∷ bxx ∷ bxy ∷ byx ∷ byy ∷ []) (search quote depth 40 fits 40000) (search quote depth 40 fits 40000) tt

      kept : (p : Particle) → (quadratic p).constant +ℤ pos D *ℤ ((quadratic p).xx +ℤ (quadratic p).yy) ≡ pos D *ℤ spin_per_mass p
      kept p = total (pos D) (pos p.x *ℤ p.vy -ℤ pos p.y *ℤ p.vx) p.byx p.bxy
        where
          total : (D c byx bxy : ℤ) → D *ℤ c +ℤ D *ℤ (byx +ℤ neg_ℤ bxy) ≡ D *ℤ (c +ℤ byx -ℤ bxy)
          total D c byx bxy = ring (D ∷ c ∷ byx ∷ bxy ∷ []) (search quote depth 30) (search quote depth 30) tt
