-- Demand 3 for one step: scatter, update and gather together, first for any forcing of the nodes, then for gravity, drag and
-- rim.
--     forced-linear    |2·(2^34·(momentum after − before) − Σ M·f)| ≤ 257·2^26·mass, on each axis, for the forcing f
--     forced-angular   |2·(2^34·(angular momentum after − before) − Σ M·(X·fy − Y·fx))| ≤ 2^35·mass + 257·2^26·Σ m·(x + y)
--     stepped          the particles after a step with these settings
--     step-linear      |2^35·(momentum after − before) − 2·(2^26·mass·g + impulse)| ≤ 257·2^26·mass, on each axis
--     step-angular     |2^35·(angular momentum after − before) − 2·(2^26·torque + angular impulse)|
--                      ≤ 2^35·mass + 257·2^26·Σ m·(x + y)
-- Assumes nothing.
use mathlib.Core.Path.{◌≡◌, sym, ap, ap₂, ◌∙◌, subst}
use mathlib.Core.List.{List, [], ◌∷◌}
use Prim.Native.Nat.{ℕ, ◌*◌, ◌^◌}
use native.Mathlib.Omega.{arith}
use lib.IntN.{ℤ, pos, ◌+ℤ◌, ◌-ℤ◌, ◌*ℤ◌}
use Rattle.arith.specs.Ring.{*ℤ-+ℤ}
use Rattle.arith.specs.Solver.{ring, quote}
use Rattle.arith.specs.Order.{Within, linear, reading, ◌&◌}
use Rattle.arith.specs.Rounding.{Nearest}
use Rattle.arith.specs.Sums.{Each, sum_over, sum-cong, sum-add, sum-sub, sum-scale}
use Rattle.particle.specs.declared.Particle.{Particle}
use Rattle.settings.specs.declared.Settings.{Settings}
use Rattle.apic.specs.Step.{Axis, along_x, along_y, coordinate, node_mass, gravity, after_update, over_nodes}
use Rattle.apic.specs.Totals.{total_mass, momentum, angular_momentum, torque, node_change, impulse, angular_impulse, first_moment}
use Rattle.apic.specs.Motion.{Placed}
use Rattle.apic.proofs.Nodes.{armed, nodes-cong, nodes-add, nodes-sub, nodes-scale}
use Rattle.apic.proofs.Quadratic.{Whole}
use Rattle.apic.proofs.Scatter.{place, field_momentum, field_angular_momentum, scatter-mass, scatter-moment}
use Rattle.apic.proofs.Update.{Forced, forced-by-settings, update-linear, update-angular}
use Rattle.apic.proofs.Gather.{along, all_moved, NewPlace, gather-linear, gather-angular}

abbrev pub stepped : (ℤ → ℕ → ℤ) → (ℕ → ℕ → ℤ) → ℕ → Settings → List Particle → List Particle
stepped round w D s ps =
    all_moved round w s.nx s.ny (after_update round w D s along_x ps) (after_update round w D s along_y ps) ps

-- Σ m·(coordinate), on an axis
abbrev moment : List Particle → Axis → ℤ
moment ps a = sum_over ps (λ p. pos p.mass *ℤ pos (coordinate a p))

module _ (round : ℤ → ℕ → ℤ) (nearest : Nearest round) (w : ℕ → ℕ → ℤ) (D : ℕ) (whole : Whole D) (nx ny : ℕ) (ps : List Particle) (on : Each (Placed w D nx ny) ps) where
  -- the sums of the nodes' masses with their places as arms
  arms : armed nx ny (place along_x) (node_mass w ps) +ℤ armed nx ny (place along_y) (node_mass w ps) ≡ pos (2 ^ 26) *ℤ first_moment ps
  arms =
      ap₂ ◌+ℤ◌ (scatter-moment w D nx ny ps on along_x) (scatter-moment w D nx ny ps on along_y)
      ∙ sym (*ℤ-+ℤ (pos (2 ^ 26)) (moment ps along_x) (moment ps along_y))
      ∙ ap (λ s. pos (2 ^ 26) *ℤ s)
      (sym (sum-add (λ p. pos p.mass *ℤ pos p.x) (λ p. pos p.mass *ℤ pos p.y) ps)
      ∙ sum-cong _ _ (λ p. sym (*ℤ-+ℤ (pos p.mass) (pos p.x) (pos p.y))) ps)

  -- ---- any forcing

  -- the update's and the gather's allowances together, F of one and K of the other: of a quantity P, which becomes P', where
  -- the nodes have U in all, and G of it by the forcing
  joined : (t F K P P' S U G : ℤ) → t ≡ pos (2 ^ 26) *ℤ F → S ≡ U -ℤ G → Within t (pos 2 *ℤ (S -ℤ pos (2 ^ 34) *ℤ P)) → Within (pos (2 ^ 34) *ℤ K) (pos 2 *ℤ (pos (2 ^ 34) *ℤ P' -ℤ U)) → Within (pos (2 ^ 34) *ℤ K +ℤ pos (2 ^ 26) *ℤ F) (pos 2 *ℤ (pos (2 ^ 34) *ℤ (P' -ℤ P) -ℤ G))
  joined t F K P P' S U G e f update gather =
      linear (t ∷ F ∷ K ∷ P ∷ P' ∷ S ∷ U ∷ G ∷ []) (e & f & update & gather) (search reading depth 30 fits 20000) (omega arith)

  module _ (ux uy fx fy : ℕ → ℕ → ℤ) (forced-x : Forced round w D nx ny ps along_x ux fx) (forced-y : Forced round w D nx ny ps along_y uy fy) where
    pub forced-linear : (a : Axis) → Within (pos (257 * 2 ^ 26) *ℤ pos (total_mass ps)) (pos 2 *ℤ (pos (2 ^ 34) *ℤ (momentum a (all_moved round w nx ny ux uy ps) -ℤ momentum a ps) -ℤ field_momentum w nx ny ps (along a fx fy)))
    forced-linear a =
        subst (λ k. Within k (pos 2 *ℤ (pos (2 ^ 34) *ℤ (momentum a (all_moved round w nx ny ux uy ps) -ℤ momentum a ps) -ℤ field_momentum w nx ny ps (along a fx fy)))) (allowed (pos (total_mass ps)))
        (joined (over_nodes nx ny (node_mass w ps)) (pos (total_mass ps)) (pos (total_mass ps)) (momentum a ps) (momentum a (all_moved round w nx ny ux uy ps))
        (field_momentum w nx ny ps (λ i j. along a ux uy i j -ℤ along a fx fy i j)) (field_momentum w nx ny ps (along a ux uy)) (field_momentum w nx ny ps (along a fx fy))
        (scatter-mass w D nx ny ps on)
        (parted (along a ux uy) (along a fx fy))
        (update-linear round nearest w D whole nx ny ps on a (along a ux uy) (along a fx fy) (forced a))
        (gather-linear round nearest w nx ny ux uy ps a))
      where
        allowed : (m : ℤ) → pos (2 ^ 34) *ℤ m +ℤ pos (2 ^ 26) *ℤ m ≡ pos (257 * 2 ^ 26) *ℤ m
        allowed m = ring (m ∷ []) (search quote depth 30) (search quote depth 30) tt

        forced : (a : Axis) → Forced round w D nx ny ps a (along a ux uy) (along a fx fy)
        forced along_x = forced-x
        forced along_y = forced-y

        spread : (M u f : ℤ) → M *ℤ (u -ℤ f) ≡ M *ℤ u -ℤ M *ℤ f
        spread M u f = ring (M ∷ u ∷ f ∷ []) (search quote depth 30) (search quote depth 30) tt

        parted : (u f : ℕ → ℕ → ℤ) → field_momentum w nx ny ps (λ i j. u i j -ℤ f i j) ≡ field_momentum w nx ny ps u -ℤ field_momentum w nx ny ps f
        parted u f =
            nodes-cong nx ny _ _ (λ i j in-x in-y. spread (node_mass w ps i j) (u i j) (f i j))
            ∙ nodes-sub nx ny (λ i j. node_mass w ps i j *ℤ u i j) (λ i j. node_mass w ps i j *ℤ f i j)

    pub forced-angular : Each (NewPlace round w nx ny ux uy) ps → Within (pos (2 ^ 35) *ℤ pos (total_mass ps) +ℤ pos (257 * 2 ^ 26) *ℤ first_moment ps) (pos 2 *ℤ (pos (2 ^ 34) *ℤ (angular_momentum (all_moved round w nx ny ux uy ps) -ℤ angular_momentum ps) -ℤ field_angular_momentum w nx ny ps fx fy))
    forced-angular new =
        subst (λ k. Within k (pos 2 *ℤ (pos (2 ^ 34) *ℤ (angular_momentum (all_moved round w nx ny ux uy ps) -ℤ angular_momentum ps) -ℤ field_angular_momentum w nx ny ps fx fy))) (allowed (pos (total_mass ps)) (first_moment ps))
        (joined (armed nx ny (place along_x) (node_mass w ps) +ℤ armed nx ny (place along_y) (node_mass w ps)) (first_moment ps) (first_moment ps +ℤ pos 2 *ℤ pos (total_mass ps)) (angular_momentum ps) (angular_momentum (all_moved round w nx ny ux uy ps))
        (field_angular_momentum w nx ny ps (λ i j. ux i j -ℤ fx i j) (λ i j. uy i j -ℤ fy i j)) (field_angular_momentum w nx ny ps ux uy) (field_angular_momentum w nx ny ps fx fy)
        arms
        parted
        (update-angular round nearest w D whole nx ny ps on ux uy fx fy forced-x forced-y)
        (gather-angular round nearest w nx ny ux uy ps new))
      where
        allowed : (m F : ℤ) → pos (2 ^ 34) *ℤ (F +ℤ pos 2 *ℤ m) +ℤ pos (2 ^ 26) *ℤ F ≡ pos (2 ^ 35) *ℤ m +ℤ pos (257 * 2 ^ 26) *ℤ F
        allowed m F = ring (m ∷ F ∷ []) (search quote depth 30) (search quote depth 30) tt

        spread : (M X Y ux uy fx fy : ℤ) → M *ℤ (X *ℤ (uy -ℤ fy) -ℤ Y *ℤ (ux -ℤ fx)) ≡ M *ℤ (X *ℤ uy -ℤ Y *ℤ ux) -ℤ M *ℤ (X *ℤ fy -ℤ Y *ℤ fx)
        spread M X Y ux uy fx fy = ring (M ∷ X ∷ Y ∷ ux ∷ uy ∷ fx ∷ fy ∷ []) (search quote depth 30) (search quote depth 30) tt

        parted : field_angular_momentum w nx ny ps (λ i j. ux i j -ℤ fx i j) (λ i j. uy i j -ℤ fy i j) ≡ field_angular_momentum w nx ny ps ux uy -ℤ field_angular_momentum w nx ny ps fx fy
        parted =
            nodes-cong nx ny _ _ (λ i j in-x in-y. spread (node_mass w ps i j) (place along_x i j) (place along_y i j) (ux i j) (uy i j) (fx i j) (fy i j))
            ∙ nodes-sub nx ny
            (λ i j. node_mass w ps i j *ℤ (place along_x i j *ℤ uy i j -ℤ place along_y i j *ℤ ux i j))
            (λ i j. node_mass w ps i j *ℤ (place along_x i j *ℤ fy i j -ℤ place along_y i j *ℤ fx i j))

-- ---- gravity, drag and rim

-- in units of 2^−35: F is what the nodes got of the quantity, G by gravity and I by drag and rim
whole-units : (A P P' F G I : ℤ) → F ≡ pos (2 ^ 26) *ℤ G +ℤ I → Within A (pos 2 *ℤ (pos (2 ^ 34) *ℤ (P' -ℤ P) -ℤ F)) → Within A (pos (2 ^ 35) *ℤ (P' -ℤ P) -ℤ pos 2 *ℤ (pos (2 ^ 26) *ℤ G +ℤ I))
whole-units A P P' F G I e h = linear (A ∷ P ∷ P' ∷ F ∷ G ∷ I ∷ []) (e & h) (search reading depth 30 fits 20000) (omega arith)

module _ (round : ℤ → ℕ → ℤ) (nearest : Nearest round) (w : ℕ → ℕ → ℤ) (D : ℕ) (whole : Whole D) (s : Settings) (ps : List Particle) (on : Each (Placed w D s.nx s.ny) ps) where
  abbrev change : Axis → ℕ → ℕ → ℤ
  change a = node_change round w D s a ps

  -- what the nodes get on an axis beside their rounded velocity
  abbrev forcing : Axis → ℕ → ℕ → ℤ
  forcing a i j = gravity s a +ℤ change a i j

  pub step-linear : (a : Axis) → Within (pos (257 * 2 ^ 26) *ℤ pos (total_mass ps)) (pos (2 ^ 35) *ℤ (momentum a (stepped round w D s ps) -ℤ momentum a ps) -ℤ pos 2 *ℤ (pos (2 ^ 26) *ℤ (pos (total_mass ps) *ℤ gravity s a) +ℤ impulse round w D s a ps))
  step-linear a =
      whole-units (pos (257 * 2 ^ 26) *ℤ pos (total_mass ps)) (momentum a ps) (momentum a (stepped round w D s ps))
      (field_momentum w s.nx s.ny ps (along a (forcing along_x) (forcing along_y))) (pos (total_mass ps) *ℤ gravity s a) (impulse round w D s a ps)
      (share a)
      (forced-linear round nearest w D whole s.nx s.ny ps on _ _ (forcing along_x) (forcing along_y) (forced-by-settings round w D s ps along_x) (forced-by-settings round w D s ps along_y) a)
    where
      apart : (M g c : ℤ) → M *ℤ (g +ℤ c) ≡ g *ℤ M +ℤ M *ℤ c
      apart M g c = ring (M ∷ g ∷ c ∷ []) (search quote depth 30) (search quote depth 30) tt

      outside : (g m I : ℤ) → g *ℤ (pos (2 ^ 26) *ℤ m) +ℤ I ≡ pos (2 ^ 26) *ℤ (m *ℤ g) +ℤ I
      outside g m I = ring (g ∷ m ∷ I ∷ []) (search quote depth 30) (search quote depth 30) tt

      on-axis : (a : Axis) → field_momentum w s.nx s.ny ps (forcing a) ≡ pos (2 ^ 26) *ℤ (pos (total_mass ps) *ℤ gravity s a) +ℤ impulse round w D s a ps
      on-axis a =
          nodes-cong s.nx s.ny _ _ (λ i j in-x in-y. apart (node_mass w ps i j) (gravity s a) (change a i j))
          ∙ nodes-add s.nx s.ny (λ i j. gravity s a *ℤ node_mass w ps i j) (λ i j. node_mass w ps i j *ℤ change a i j)
          ∙ ap (λ g. g +ℤ impulse round w D s a ps)
          (nodes-scale s.nx s.ny (gravity s a) (node_mass w ps) ∙ ap (λ m. gravity s a *ℤ m) (scatter-mass w D s.nx s.ny ps on))
          ∙ outside (gravity s a) (pos (total_mass ps)) (impulse round w D s a ps)

      share : (a : Axis) → field_momentum w s.nx s.ny ps (along a (forcing along_x) (forcing along_y)) ≡ pos (2 ^ 26) *ℤ (pos (total_mass ps) *ℤ gravity s a) +ℤ impulse round w D s a ps
      share along_x = on-axis along_x
      share along_y = on-axis along_y

  pub step-angular : Each (NewPlace round w s.nx s.ny (after_update round w D s along_x ps) (after_update round w D s along_y ps)) ps → Within (pos (2 ^ 35) *ℤ pos (total_mass ps) +ℤ pos (257 * 2 ^ 26) *ℤ first_moment ps) (pos (2 ^ 35) *ℤ (angular_momentum (stepped round w D s ps) -ℤ angular_momentum ps) -ℤ pos 2 *ℤ (pos (2 ^ 26) *ℤ torque s.gx s.gy ps +ℤ angular_impulse round w D s ps))
  step-angular new =
      whole-units (pos (2 ^ 35) *ℤ pos (total_mass ps) +ℤ pos (257 * 2 ^ 26) *ℤ first_moment ps) (angular_momentum ps) (angular_momentum (stepped round w D s ps))
      (field_angular_momentum w s.nx s.ny ps (forcing along_x) (forcing along_y)) (torque s.gx s.gy ps) (angular_impulse round w D s ps)
      turned
      (forced-angular round nearest w D whole s.nx s.ny ps on _ _ (forcing along_x) (forcing along_y) (forced-by-settings round w D s ps along_x) (forced-by-settings round w D s ps along_y) new)
    where
      arm-by-arm : (M X Y gx gy cx cy : ℤ) → M *ℤ (X *ℤ (gy +ℤ cy) -ℤ Y *ℤ (gx +ℤ cx)) ≡ gy *ℤ (X *ℤ M) -ℤ gx *ℤ (Y *ℤ M) +ℤ M *ℤ (X *ℤ cy -ℤ Y *ℤ cx)
      arm-by-arm M X Y gx gy cx cy = ring (M ∷ X ∷ Y ∷ gx ∷ gy ∷ cx ∷ cy ∷ []) (search quote depth 30 fits 20000) (search quote depth 30 fits 20000) tt

      outside : (s t gx gy : ℤ) → gy *ℤ (pos (2 ^ 26) *ℤ s) -ℤ gx *ℤ (pos (2 ^ 26) *ℤ t) ≡ pos (2 ^ 26) *ℤ (gy *ℤ s -ℤ gx *ℤ t)
      outside s t gx gy = ring (s ∷ t ∷ gx ∷ gy ∷ []) (search quote depth 30) (search quote depth 30) tt

      particle : (m x y gx gy : ℤ) → gy *ℤ (m *ℤ x) -ℤ gx *ℤ (m *ℤ y) ≡ m *ℤ (x *ℤ gy -ℤ y *ℤ gx)
      particle m x y gx gy = ring (m ∷ x ∷ y ∷ gx ∷ gy ∷ []) (search quote depth 30) (search quote depth 30) tt

      -- gravity's part
      uniform : over_nodes s.nx s.ny (λ i j. s.gy *ℤ (place along_x i j *ℤ node_mass w ps i j) -ℤ s.gx *ℤ (place along_y i j *ℤ node_mass w ps i j)) ≡ pos (2 ^ 26) *ℤ torque s.gx s.gy ps
      uniform =
          nodes-sub s.nx s.ny (λ i j. s.gy *ℤ (place along_x i j *ℤ node_mass w ps i j)) (λ i j. s.gx *ℤ (place along_y i j *ℤ node_mass w ps i j))
          ∙ ap₂ ◌-ℤ◌
          (nodes-scale s.nx s.ny s.gy (λ i j. place along_x i j *ℤ node_mass w ps i j) ∙ ap (λ m. s.gy *ℤ m) (scatter-moment w D s.nx s.ny ps on along_x))
          (nodes-scale s.nx s.ny s.gx (λ i j. place along_y i j *ℤ node_mass w ps i j) ∙ ap (λ m. s.gx *ℤ m) (scatter-moment w D s.nx s.ny ps on along_y))
          ∙ outside (moment ps along_x) (moment ps along_y) s.gx s.gy
          ∙ ap (λ m. pos (2 ^ 26) *ℤ m)
          (ap₂ ◌-ℤ◌ (sym (sum-scale s.gy (λ p. pos p.mass *ℤ pos p.x) ps)) (sym (sum-scale s.gx (λ p. pos p.mass *ℤ pos p.y) ps))
          ∙ sym (sum-sub (λ p. s.gy *ℤ (pos p.mass *ℤ pos p.x)) (λ p. s.gx *ℤ (pos p.mass *ℤ pos p.y)) ps)
          ∙ sum-cong _ _ (λ p. particle (pos p.mass) (pos p.x) (pos p.y) s.gx s.gy) ps)

      turned : field_angular_momentum w s.nx s.ny ps (forcing along_x) (forcing along_y) ≡ pos (2 ^ 26) *ℤ torque s.gx s.gy ps +ℤ angular_impulse round w D s ps
      turned =
          nodes-cong s.nx s.ny _ _ (λ i j in-x in-y. arm-by-arm (node_mass w ps i j) (place along_x i j) (place along_y i j) s.gx s.gy (change along_x i j) (change along_y i j))
          ∙ nodes-add s.nx s.ny
          (λ i j. s.gy *ℤ (place along_x i j *ℤ node_mass w ps i j) -ℤ s.gx *ℤ (place along_y i j *ℤ node_mass w ps i j))
          (λ i j. node_mass w ps i j *ℤ (place along_x i j *ℤ change along_y i j -ℤ place along_y i j *ℤ change along_x i j))
          ∙ ap (λ t. t +ℤ angular_impulse round w D s ps) uniform
