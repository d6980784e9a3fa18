-- What a particle gathers from node velocities that are known wherever a node has mass.
--     Weighs             the fields u and v are the same, as far as the particle weighs them
--     massive-weighs     fields that are the same at each node with mass are, to every particle
--     LinearAt           k·v is linear in the offsets from the particle: c + sx·dx + sy·dy
--     linear-velocity, linear-affine
--                        then k times the sums of the gather are 2^26·c and 2^26·D·s
-- Assumes nothing.
use mathlib.Core.Path.{◌≡◌, refl, sym, ap, ◌∙◌}
use mathlib.Core.List.{List, [], ◌∷◌}
use Prim.Native.Nat.{ℕ, zero, suc, ◌^◌, ◌<◌}
use lib.IntN.{ℤ, pos, nat_abs, ◌+ℤ◌, ◌*ℤ◌, zero-*ℤ}
use Rattle.arith.specs.Order.{nonneg_pos, pos-positive, factor-zero}
use Rattle.arith.specs.Ring.{*ℤ-left-comm}
use Rattle.arith.specs.Solver.{ring, quote}
use Rattle.arith.specs.Sums.{Each, each_all}
use Rattle.particle.specs.declared.Particle.{Particle}
use Rattle.apic.specs.Step.{Axis, along_x, along_y, apart, weight, node_mass, over_nodes}
use Rattle.apic.specs.Motion.{Placed}
use Rattle.apic.proofs.Nodes.{nodes-cong, nodes-scale}
use Rattle.apic.proofs.Quadratic.{Quadratic, flat, at, node-quadratic}
use Rattle.apic.proofs.Update.{node-mass-nonneg, massless-shares}

-- ---- a node without mass has no weight

pub record Weighs (w : ℕ → ℕ → ℤ) (nx ny : ℕ) (u v : ℕ → ℕ → ℤ) (p : Particle) : Type 0 where
  pub at-node : (i j : ℕ) → i < nx → j < ny → weight w p i j *ℤ u i j ≡ weight w p i j *ℤ v i j

each_both : {A : Type 0} (P Q R : A → Type 0) → ((x : A) → P x → Q x → R x) → (xs : List A) → Each P xs → Each Q xs → Each R xs
each_both P Q R f [] h k = tt
each_both P Q R f (x ∷ xs) h k = (f x h.0 k.0, each_both P Q R f xs h.1 k.1)

module _ (w : ℕ → ℕ → ℤ) (D nx ny : ℕ) (ps : List Particle) (on : Each (Placed w D nx ny) ps) (massive : Each (λ p. 0 < p.mass) ps) (u v : ℕ → ℕ → ℤ) where
  -- at one node
  abbrev Same : ℕ → ℕ → Particle → Type 0
  Same i j p = weight w p i j *ℤ u i j ≡ weight w p i j *ℤ v i j

  each_at : (i j : ℕ) → ((M : ℕ) → nat_abs (node_mass w ps i j) ≡ suc M → u i j ≡ v i j) → Each (Same i j) ps
  each_at i j same = go (nat_abs (node_mass w ps i j)) refl
    where
      weightless : (p : Particle) → 0 < p.mass → pos p.mass *ℤ weight w p i j ≡ pos 0 → Same i j p
      weightless p m e =
          let none : weight w p i j ≡ pos 0 = factor-zero (pos-positive m) e in
          ap (λ W. W *ℤ u i j) none ∙ zero-*ℤ (u i j) ∙ sym (ap (λ W. W *ℤ v i j) none ∙ zero-*ℤ (v i j))

      go : (M : ℕ) → nat_abs (node_mass w ps i j) ≡ M → Each (Same i j) ps
      go zero e =
          each_both _ _ _ weightless ps massive
          (massless-shares w D nx ny ps on i j (nonneg_pos (node-mass-nonneg w D nx ny ps on i j) ∙ ap pos e))
      go (suc M) e = each_all _ (λ p. ap (λ z. weight w p i j *ℤ z) (same M e)) ps

  pub massive-weighs : ((i j : ℕ) → i < nx → j < ny → (M : ℕ) → nat_abs (node_mass w ps i j) ≡ suc M → u i j ≡ v i j) → Each (Weighs w nx ny u v) ps
  massive-weighs same = all ps (λ i j in-x in-y. each_at i j (same i j in-x in-y))
    where
      all : (qs : List Particle) → ((i j : ℕ) → i < nx → j < ny → Each (Same i j) qs) → Each (Weighs w nx ny u v) qs
      all [] h = tt
      all (q ∷ qs) h = (record { at-node = λ i j in-x in-y. (h i j in-x in-y).0 }, all qs (λ i j in-x in-y. (h i j in-x in-y).1))

-- ---- a field that is linear in the offsets

abbrev pub LinearAt : ℕ → ℕ → ℕ → (ℕ → ℕ → ℤ) → ℤ → (Axis → ℤ) → Particle → Type 0
LinearAt k nx ny v c slope p =
    (i j : ℕ) → i < nx → j < ny → pos k *ℤ v i j ≡ c +ℤ slope along_x *ℤ apart along_x p i j +ℤ slope along_y *ℤ apart along_y p i j

module _ {w : ℕ → ℕ → ℤ} {D nx ny : ℕ} {p : Particle} (placed : Placed w D nx ny p) {u v : ℕ → ℕ → ℤ} (h : Weighs w nx ny u v p) (k : ℕ) (c : ℤ) (slope : Axis → ℤ) (line : LinearAt k nx ny v c slope p) where
  abbrev W : ℕ → ℕ → ℤ
  W i j = weight w p i j

  -- what the particle weighs at a node, k times
  shared : (i j : ℕ) → i < nx → j < ny → pos k *ℤ (W i j *ℤ u i j) ≡ W i j *ℤ (c +ℤ slope along_x *ℤ apart along_x p i j +ℤ slope along_y *ℤ apart along_y p i j)
  shared i j in-x in-y =
      ap (λ s. pos k *ℤ s) (h.at-node i j in-x in-y)
      ∙ *ℤ-left-comm (pos k) (W i j) (v i j)
      ∙ ap (λ s. W i j *ℤ s) (line i j in-x in-y)

  pub linear-velocity : pos k *ℤ over_nodes nx ny (λ i j. W i j *ℤ u i j) ≡ pos (2 ^ 26) *ℤ c
  linear-velocity =
      sym (nodes-scale nx ny (pos k) (λ i j. W i j *ℤ u i j))
      ∙ nodes-cong nx ny _ _ (λ i j in-x in-y. shared i j in-x in-y ∙ flattened (W i j) c (slope along_x) (slope along_y) (apart along_x p i j) (apart along_y p i j))
      ∙ node-quadratic placed (flat c (slope along_x) (slope along_y))
      ∙ alone c (pos D)
    where
      flattened : (W c sx sy dx dy : ℤ) → W *ℤ (c +ℤ sx *ℤ dx +ℤ sy *ℤ dy) ≡ W *ℤ at (flat c sx sy) dx dy
      flattened W c sx sy dx dy = ring (W ∷ c ∷ sx ∷ sy ∷ dx ∷ dy ∷ []) (search quote depth 30) (search quote depth 30) tt

      alone : (c D : ℤ) → pos (2 ^ 26) *ℤ (c +ℤ D *ℤ (pos 0 +ℤ pos 0)) ≡ pos (2 ^ 26) *ℤ c
      alone c D = ring (c ∷ D ∷ []) (search quote depth 30) (search quote depth 30) tt

  -- the field times the offset on an axis
  abbrev times-offset : Axis → ℤ → ℤ → ℤ → Quadratic
  times-offset along_x c sx sy = record { constant = pos 0; x = c; y = pos 0; xx = sx; xy = sy; yy = pos 0 }
  times-offset along_y c sx sy = record { constant = pos 0; x = pos 0; y = c; xx = pos 0; xy = sx; yy = sy }

  pub linear-affine : (b : Axis) → pos k *ℤ over_nodes nx ny (λ i j. W i j *ℤ u i j *ℤ apart b p i j) ≡ pos (2 ^ 26) *ℤ (pos D *ℤ slope b)
  linear-affine b =
      sym (nodes-scale nx ny (pos k) (λ i j. W i j *ℤ u i j *ℤ apart b p i j))
      ∙ nodes-cong nx ny _ _ (λ i j in-x in-y.
      taken_out (pos k) (W i j *ℤ u i j) (apart b p i j)
      ∙ ap (λ s. s *ℤ apart b p i j) (shared i j in-x in-y)
      ∙ spread b (W i j) c (slope along_x) (slope along_y) i j)
      ∙ node-quadratic placed (times-offset b c (slope along_x) (slope along_y))
      ∙ second b
    where
      taken_out : (k s d : ℤ) → k *ℤ (s *ℤ d) ≡ k *ℤ s *ℤ d
      taken_out k s d = ring (k ∷ s ∷ d ∷ []) (search quote depth 30) (search quote depth 30) tt

      on-x : (W c sx sy dx dy : ℤ) → W *ℤ (c +ℤ sx *ℤ dx +ℤ sy *ℤ dy) *ℤ dx ≡ W *ℤ at (times-offset along_x c sx sy) dx dy
      on-x W c sx sy dx dy = ring (W ∷ c ∷ sx ∷ sy ∷ dx ∷ dy ∷ []) (search quote depth 30) (search quote depth 30) tt

      on-y : (W c sx sy dx dy : ℤ) → W *ℤ (c +ℤ sx *ℤ dx +ℤ sy *ℤ dy) *ℤ dy ≡ W *ℤ at (times-offset along_y c sx sy) dx dy
      on-y W c sx sy dx dy = ring (W ∷ c ∷ sx ∷ sy ∷ dx ∷ dy ∷ []) (search quote depth 30) (search quote depth 30) tt

      spread : (b : Axis) (W c sx sy : ℤ) (i j : ℕ) → W *ℤ (c +ℤ sx *ℤ apart along_x p i j +ℤ sy *ℤ apart along_y p i j) *ℤ apart b p i j ≡ W *ℤ at (times-offset b c sx sy) (apart along_x p i j) (apart along_y p i j)
      spread along_x W c sx sy i j = on-x W c sx sy (apart along_x p i j) (apart along_y p i j)
      spread along_y W c sx sy i j = on-y W c sx sy (apart along_x p i j) (apart along_y p i j)

      right : (s D : ℤ) → pos (2 ^ 26) *ℤ (pos 0 +ℤ D *ℤ (s +ℤ pos 0)) ≡ pos (2 ^ 26) *ℤ (D *ℤ s)
      right s D = ring (s ∷ D ∷ []) (search quote depth 30) (search quote depth 30) tt

      left : (s D : ℤ) → pos (2 ^ 26) *ℤ (pos 0 +ℤ D *ℤ (pos 0 +ℤ s)) ≡ pos (2 ^ 26) *ℤ (D *ℤ s)
      left s D = ring (s ∷ D ∷ []) (search quote depth 30) (search quote depth 30) tt

      second : (b : Axis) → pos (2 ^ 26) *ℤ ((times-offset b c (slope along_x) (slope along_y)).constant +ℤ pos D *ℤ ((times-offset b c (slope along_x) (slope along_y)).xx +ℤ (times-offset b c (slope along_x) (slope along_y)).yy)) ≡ pos (2 ^ 26) *ℤ (pos D *ℤ slope b)
      second along_x = right (slope along_x) (pos D)
      second along_y = left (slope along_y) (pos D)
