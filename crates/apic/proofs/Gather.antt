-- What the gather keeps, for every field of node velocities ux, uy and any weights.
--     along              of two, the one of an axis
--     velocity_sum, affine_sum
--                        the sums that the gather divides
--     all_moved           the particles after it
--     NewPlace           a particle's new coordinates are not negative
--     gather-keeps       what it keeps of each particle it keeps of all, in their order; gather-labels: their identifiers and marks
--     gather-exchange    Σ M·f over nodes is Σ m·(Σ W·f) over particles
--     gather-linear      |2·(2^34·momentum after − Σ M·u)| ≤ 2^34·mass, on each axis
--     gather-angular     |2·(2^34·(angular momentum after) − Σ M·(X·uy − Y·ux))| ≤ 2^34·(Σ m·(x + y) + 2·mass)
-- Assumes nothing.
use mathlib.Core.Path.{◌≡◌, refl, sym, ap, ap₂, ◌∙◌, subst₂}
use mathlib.Core.List.{List, [], ◌∷◌, map}
use Prim.Native.Nat.{ℕ, ◌*◌, ◌^◌}
use lib.Dec.{ltb→lt}
use lib.IntN.{ℤ, pos, neg_ℤ, nat_abs, ◌+ℤ◌, ◌-ℤ◌, ◌*ℤ◌}
use lib.Signed.{◌≤ℤ◌}
use Rattle.arith.specs.Ring.{*ℤ-assoc, *ℤ-left-comm}
use Rattle.arith.specs.Solver.{ring, quote}
use Rattle.arith.specs.Order.{Within, pos-nonneg, nonneg_pos, within-scale, within-sum, within-difference}
use Rattle.arith.specs.Rounding.{Nearest}
use Rattle.arith.specs.Sums.{Each, sum_over, sum-cong, sum-cong-each, sum-add, sum-sub, sum-scale, sum-scale-right, sum-map, sum-within, each_all, total-pos}
use Rattle.particle.specs.declared.Particle.{Particle}
use Rattle.particle.specs.Record.{label}
use Rattle.apic.specs.Step.{Axis, along_x, along_y, apart, weight, node_mass, over_nodes, gathered_velocity, gathered_affine, new_coordinate, moved}
use Rattle.apic.specs.Totals.{total_mass, momentum, angular_momentum, first_moment}
use Rattle.apic.proofs.Nodes.{nodes-cong, nodes-sub, nodes-scale, nodes-three-scaled, nodes-exchange}
use Rattle.apic.proofs.Scatter.{place, field_momentum, field_angular_momentum, mass-sum}

-- of two, the one of an axis
abbrev pub along : {A : Type 0} → Axis → A → A → A
along along_x x y = x
along along_y x y = y

-- the sums that the gather divides
abbrev pub velocity_sum : (ℕ → ℕ → ℤ) → ℕ → ℕ → (ℕ → ℕ → ℤ) → Particle → ℤ
velocity_sum w nx ny u p = over_nodes nx ny (λ i j. weight w p i j *ℤ u i j)

abbrev pub affine_sum : (ℕ → ℕ → ℤ) → ℕ → ℕ → Axis → (ℕ → ℕ → ℤ) → Particle → ℤ
affine_sum w nx ny b u p = over_nodes nx ny (λ i j. weight w p i j *ℤ u i j *ℤ apart b p i j)

abbrev pub all_moved : (ℤ → ℕ → ℤ) → (ℕ → ℕ → ℤ) → ℕ → ℕ → (ℕ → ℕ → ℤ) → (ℕ → ℕ → ℤ) → List Particle → List Particle
all_moved round w nx ny ux uy ps = map (moved round w nx ny ux uy) ps

pub record NewPlace (round : ℤ → ℕ → ℤ) (w : ℕ → ℕ → ℤ) (nx ny : ℕ) (ux uy : ℕ → ℕ → ℤ) (p : Particle) : Type 0 where
  pub new-x : pos 0 ≤ℤ new_coordinate along_x p (gathered_velocity round w nx ny ux p)
  pub new-y : pos 0 ≤ℤ new_coordinate along_y p (gathered_velocity round w nx ny uy p)

-- ---- what is kept as it is

module _ (round : ℤ → ℕ → ℤ) (w : ℕ → ℕ → ℤ) (nx ny : ℕ) (ux uy : ℕ → ℕ → ℤ) where
  pub gather-keeps : {A : Type 0} (f : Particle → A) → ((p : Particle) → f (moved round w nx ny ux uy p) ≡ f p) → (ps : List Particle) → map f (all_moved round w nx ny ux uy ps) ≡ map f ps
  gather-keeps f same [] = refl
  gather-keeps f same (p ∷ ps) = ap₂ ◌∷◌ (same p) (gather-keeps f same ps)

  pub gather-labels : (ps : List Particle) → map label (all_moved round w nx ny ux uy ps) ≡ map label ps
  unfolding moved
  gather-labels = gather-keeps label (λ p. refl)

-- ---- from nodes to particles

pub gather-exchange : (w : ℕ → ℕ → ℤ) (nx ny : ℕ) (ps : List Particle) (f : ℕ → ℕ → ℤ) → field_momentum w nx ny ps f ≡ sum_over ps (λ p. pos p.mass *ℤ velocity_sum w nx ny f p)
unfolding node_mass
gather-exchange w nx ny ps f =
    nodes-cong nx ny _ _ (λ i j in-x in-y. sym (sum-scale-right (f i j) (λ p. pos p.mass *ℤ weight w p i j) ps))
    ∙ nodes-exchange nx ny (λ p i j. pos p.mass *ℤ weight w p i j *ℤ f i j) ps
    ∙ sum-cong _ _ (λ p. nodes-cong nx ny _ _ (λ i j in-x in-y. *ℤ-assoc (pos p.mass) (weight w p i j) (f i j)) ∙ nodes-scale nx ny (pos p.mass) (λ i j. weight w p i j *ℤ f i j)) ps

-- an allowance for each particle, weighted by mass and summed
module _ (ps : List Particle) (k z A : Particle → ℤ) where
  allowance : ((p : Particle) → Within (pos (2 ^ 34) *ℤ k p) (pos 2 *ℤ (pos (2 ^ 34) *ℤ z p -ℤ A p))) → Within (pos (2 ^ 34) *ℤ sum_over ps (λ p. pos p.mass *ℤ k p)) (pos 2 *ℤ (pos (2 ^ 34) *ℤ sum_over ps (λ p. pos p.mass *ℤ z p) -ℤ sum_over ps (λ p. pos p.mass *ℤ A p)))
  allowance h =
      subst₂ Within
      (sum-cong _ _ (λ p. *ℤ-left-comm (pos p.mass) (pos (2 ^ 34)) (k p)) ps ∙ sum-scale (pos (2 ^ 34)) (λ p. pos p.mass *ℤ k p) ps)
      (sum-cong _ _ (λ p. spread (pos p.mass) (z p) (A p)) ps
      ∙ sum-scale (pos 2) (λ p. pos (2 ^ 34) *ℤ (pos p.mass *ℤ z p) -ℤ pos p.mass *ℤ A p) ps
      ∙ ap (λ s. pos 2 *ℤ s)
      (sum-sub (λ p. pos (2 ^ 34) *ℤ (pos p.mass *ℤ z p)) (λ p. pos p.mass *ℤ A p) ps
      ∙ ap (λ s. s -ℤ sum_over ps (λ p. pos p.mass *ℤ A p)) (sum-scale (pos (2 ^ 34)) (λ p. pos p.mass *ℤ z p) ps)))
      (sum-within _ _ ps (each_all _ (λ p. within-scale (pos-nonneg p.mass) (h p)) ps))
    where
      spread : (m z A : ℤ) → m *ℤ (pos 2 *ℤ (pos (2 ^ 34) *ℤ z -ℤ A)) ≡ pos 2 *ℤ (pos (2 ^ 34) *ℤ (m *ℤ z) -ℤ m *ℤ A)
      spread m z A = ring (m ∷ z ∷ A ∷ []) (search quote depth 30) (search quote depth 30) tt

module _ (round : ℤ → ℕ → ℤ) (nearest : Nearest round) (w : ℕ → ℕ → ℤ) (nx ny : ℕ) where
  -- the gathered numbers against the sums that they round
  velocity-near : (u : ℕ → ℕ → ℤ) (p : Particle) → Within (pos (2 ^ 34)) (pos 2 *ℤ (pos (2 ^ 34) *ℤ gathered_velocity round w nx ny u p -ℤ velocity_sum w nx ny u p))
  unfolding gathered_velocity
  velocity-near u p = nearest (velocity_sum w nx ny u p) (2 ^ 34) (ltb→lt 0 (2 ^ 34) tt)

  affine-near : (b : Axis) (u : ℕ → ℕ → ℤ) (p : Particle) → Within (pos (2 ^ 34)) (pos 2 *ℤ (pos (2 ^ 34) *ℤ gathered_affine round w nx ny b u p -ℤ affine_sum w nx ny b u p))
  unfolding gathered_affine
  affine-near b u p = nearest (affine_sum w nx ny b u p) (2 ^ 34) (ltb→lt 0 (2 ^ 34) tt)

  module _ (ux uy : ℕ → ℕ → ℤ) (ps : List Particle) where
    pub gather-linear : (a : Axis) → Within (pos (2 ^ 34) *ℤ pos (total_mass ps)) (pos 2 *ℤ (pos (2 ^ 34) *ℤ momentum a (all_moved round w nx ny ux uy ps) -ℤ field_momentum w nx ny ps (along a ux uy)))
    unfolding moved
    gather-linear a =
        subst₂ Within
        (ap (λ s. pos (2 ^ 34) *ℤ s) (mass-sum ps))
        (ap₂ (λ s t. pos 2 *ℤ (pos (2 ^ 34) *ℤ s -ℤ t)) (sym (after a)) (sym (gather-exchange w nx ny ps (along a ux uy))))
        (allowance ps (λ p. pos 1) (λ p. gathered_velocity round w nx ny (along a ux uy) p) (λ p. velocity_sum w nx ny (along a ux uy) p)
        (λ p. velocity-near (along a ux uy) p))
      where
        after : (a : Axis) → momentum a (all_moved round w nx ny ux uy ps) ≡ sum_over ps (λ p. pos p.mass *ℤ gathered_velocity round w nx ny (along a ux uy) p)
        after along_x = sum-map (moved round w nx ny ux uy) (λ p. pos p.mass *ℤ p.vx) ps
        after along_y = sum-map (moved round w nx ny ux uy) (λ p. pos p.mass *ℤ p.vy) ps

  -- ---- one particle's angular momentum

  -- with the new velocities about the old place
  abbrev turn : (ℕ → ℕ → ℤ) → (ℕ → ℕ → ℤ) → Particle → ℤ
  turn ux uy p =
      pos p.x *ℤ gathered_velocity round w nx ny uy p -ℤ pos p.y *ℤ gathered_velocity round w nx ny ux p
      +ℤ gathered_affine round w nx ny along_x uy p -ℤ gathered_affine round w nx ny along_y ux p

  exact-turn : (ux uy : ℕ → ℕ → ℤ) (p : Particle) → over_nodes nx ny (λ i j. weight w p i j *ℤ (place along_x i j *ℤ uy i j -ℤ place along_y i j *ℤ ux i j)) ≡ pos p.x *ℤ velocity_sum w nx ny uy p +ℤ neg_ℤ (pos p.y) *ℤ velocity_sum w nx ny ux p +ℤ pos 1 *ℤ (affine_sum w nx ny along_x uy p -ℤ affine_sum w nx ny along_y ux p)
  exact-turn ux uy p =
      nodes-cong nx ny _ _ (λ i j in-x in-y. arms (weight w p i j) (pos p.x) (pos p.y) (pos (64 * i)) (pos (64 * j)) (ux i j) (uy i j))
      ∙ nodes-three-scaled nx ny (pos p.x) (neg_ℤ (pos p.y)) (pos 1) (λ i j. weight w p i j *ℤ uy i j) (λ i j. weight w p i j *ℤ ux i j) (λ i j. weight w p i j *ℤ uy i j *ℤ apart along_x p i j -ℤ weight w p i j *ℤ ux i j *ℤ apart along_y p i j)
      ∙ ap (λ s. pos p.x *ℤ velocity_sum w nx ny uy p +ℤ neg_ℤ (pos p.y) *ℤ velocity_sum w nx ny ux p +ℤ pos 1 *ℤ s)
      (nodes-sub nx ny (λ i j. weight w p i j *ℤ uy i j *ℤ apart along_x p i j) (λ i j. weight w p i j *ℤ ux i j *ℤ apart along_y p i j))
    where
      arms : (W x y X Y ux uy : ℤ) → W *ℤ (X *ℤ uy -ℤ Y *ℤ ux) ≡ x *ℤ (W *ℤ uy) +ℤ neg_ℤ y *ℤ (W *ℤ ux) +ℤ pos 1 *ℤ (W *ℤ uy *ℤ (X -ℤ x) -ℤ W *ℤ ux *ℤ (Y -ℤ y))
      arms W x y X Y ux uy = ring (W ∷ x ∷ y ∷ X ∷ Y ∷ ux ∷ uy ∷ []) (search quote depth 30) (search quote depth 30) tt

  turn_near : (ux uy : ℕ → ℕ → ℤ) (p : Particle) → Within (pos (2 ^ 34) *ℤ (pos p.x +ℤ pos p.y +ℤ pos 2)) (pos 2 *ℤ (pos (2 ^ 34) *ℤ turn ux uy p -ℤ over_nodes nx ny (λ i j. weight w p i j *ℤ (place along_x i j *ℤ uy i j -ℤ place along_y i j *ℤ ux i j))))
  turn_near ux uy p =
      subst₂ Within
      (allowed (pos p.x) (pos p.y))
      (error (pos p.x) (pos p.y)
      (gathered_velocity round w nx ny ux p) (gathered_velocity round w nx ny uy p) (gathered_affine round w nx ny along_y ux p) (gathered_affine round w nx ny along_x uy p)
      (velocity_sum w nx ny ux p) (velocity_sum w nx ny uy p) (affine_sum w nx ny along_y ux p) (affine_sum w nx ny along_x uy p)
      ∙ ap (λ s. pos 2 *ℤ (pos (2 ^ 34) *ℤ turn ux uy p -ℤ s)) (sym (exact-turn ux uy p)))
      (within-sum
      (within-difference (within-scale (pos-nonneg p.x) (velocity-near uy p)) (within-scale (pos-nonneg p.y) (velocity-near ux p)))
      (within-difference (affine-near along_x uy p) (affine-near along_y ux p)))
    where
      allowed : (x y : ℤ) → x *ℤ pos (2 ^ 34) +ℤ y *ℤ pos (2 ^ 34) +ℤ (pos (2 ^ 34) +ℤ pos (2 ^ 34)) ≡ pos (2 ^ 34) *ℤ (x +ℤ y +ℤ pos 2)
      allowed x y = ring (x ∷ y ∷ []) (search quote depth 30) (search quote depth 30) tt

      error : (x y vx vy bxy byx Ax Ay Cy Cx : ℤ) → x *ℤ (pos 2 *ℤ (pos (2 ^ 34) *ℤ vy -ℤ Ay)) -ℤ y *ℤ (pos 2 *ℤ (pos (2 ^ 34) *ℤ vx -ℤ Ax)) +ℤ (pos 2 *ℤ (pos (2 ^ 34) *ℤ byx -ℤ Cx) -ℤ pos 2 *ℤ (pos (2 ^ 34) *ℤ bxy -ℤ Cy)) ≡ pos 2 *ℤ (pos (2 ^ 34) *ℤ (x *ℤ vy -ℤ y *ℤ vx +ℤ byx -ℤ bxy) -ℤ (x *ℤ Ay +ℤ neg_ℤ y *ℤ Ax +ℤ pos 1 *ℤ (Cx -ℤ Cy)))
      error x y vx vy bxy byx Ax Ay Cy Cx = ring (x ∷ y ∷ vx ∷ vy ∷ bxy ∷ byx ∷ Ax ∷ Ay ∷ Cy ∷ Cx ∷ []) (search quote depth 30 fits 20000) (search quote depth 30 fits 20000) tt

  pub gather-angular : (ux uy : ℕ → ℕ → ℤ) (ps : List Particle) → Each (NewPlace round w nx ny ux uy) ps → Within (pos (2 ^ 34) *ℤ (first_moment ps +ℤ pos 2 *ℤ pos (total_mass ps))) (pos 2 *ℤ (pos (2 ^ 34) *ℤ angular_momentum (all_moved round w nx ny ux uy ps) -ℤ field_angular_momentum w nx ny ps ux uy))
  unfolding moved
  gather-angular ux uy ps new =
      subst₂ Within
      (ap (λ s. pos (2 ^ 34) *ℤ s) moments)
      (ap₂ (λ s t. pos 2 *ℤ (pos (2 ^ 34) *ℤ s -ℤ t)) (sym after) (sym (gather-exchange w nx ny ps (λ i j. place along_x i j *ℤ uy i j -ℤ place along_y i j *ℤ ux i j))))
      (allowance ps (λ p. pos p.x +ℤ pos p.y +ℤ pos 2) (turn ux uy)
      (λ p. over_nodes nx ny (λ i j. weight w p i j *ℤ (place along_x i j *ℤ uy i j -ℤ place along_y i j *ℤ ux i j)))
      (turn_near ux uy))
    where
      twice : (m s : ℤ) → m *ℤ (s +ℤ pos 2) ≡ m *ℤ s +ℤ pos 2 *ℤ m
      twice m s = ring (m ∷ s ∷ []) (search quote depth 30) (search quote depth 30) tt

      moments : sum_over ps (λ p. pos p.mass *ℤ (pos p.x +ℤ pos p.y +ℤ pos 2)) ≡ first_moment ps +ℤ pos 2 *ℤ pos (total_mass ps)
      moments =
          sum-cong _ _ (λ p. twice (pos p.mass) (pos p.x +ℤ pos p.y)) ps
          ∙ sum-add (λ p. pos p.mass *ℤ (pos p.x +ℤ pos p.y)) (λ p. pos 2 *ℤ pos p.mass) ps
          ∙ ap (λ s. first_moment ps +ℤ s) (sum-scale (pos 2) (λ p. pos p.mass) ps ∙ ap (λ s. pos 2 *ℤ s) (sym (total-pos (λ p. p.mass) ps)))

      -- a velocity has no moment about the way that it moves
      unmoved : (x y vx vy b c : ℤ) → (x +ℤ vx) *ℤ vy -ℤ (y +ℤ vy) *ℤ vx +ℤ b -ℤ c ≡ x *ℤ vy -ℤ y *ℤ vx +ℤ b -ℤ c
      unmoved x y vx vy b c = ring (x ∷ y ∷ vx ∷ vy ∷ b ∷ c ∷ []) (search quote depth 30) (search quote depth 30) tt

      same : (p : Particle) → NewPlace round w nx ny ux uy p → pos (nat_abs (pos p.x +ℤ gathered_velocity round w nx ny ux p)) *ℤ gathered_velocity round w nx ny uy p -ℤ pos (nat_abs (pos p.y +ℤ gathered_velocity round w nx ny uy p)) *ℤ gathered_velocity round w nx ny ux p +ℤ gathered_affine round w nx ny along_x uy p -ℤ gathered_affine round w nx ny along_y ux p ≡ turn ux uy p
      same p place =
          ap₂ (λ x y. x *ℤ gathered_velocity round w nx ny uy p -ℤ y *ℤ gathered_velocity round w nx ny ux p +ℤ gathered_affine round w nx ny along_x uy p -ℤ gathered_affine round w nx ny along_y ux p) (sym (nonneg_pos place.new-x)) (sym (nonneg_pos place.new-y))
          ∙ unmoved (pos p.x) (pos p.y) (gathered_velocity round w nx ny ux p) (gathered_velocity round w nx ny uy p) (gathered_affine round w nx ny along_x uy p) (gathered_affine round w nx ny along_y ux p)

      after : angular_momentum (all_moved round w nx ny ux uy ps) ≡ sum_over ps (λ p. pos p.mass *ℤ turn ux uy p)
      after =
          sum-map (moved round w nx ny ux uy) (λ p. pos p.mass *ℤ (pos p.x *ℤ p.vy -ℤ pos p.y *ℤ p.vx +ℤ p.byx -ℤ p.bxy)) ps
          ∙ sum-cong-each (NewPlace round w nx ny ux uy) _ _ (λ p place. ap (λ s. pos p.mass *ℤ s) (same p place)) ps new
