-- The update of the scatter's grid, node by node and summed over all nodes, whatever forcing the nodes got.
--     unforced            a node's velocity without gravity: its momentum alone, rounded
--     Forced              the field u is the unforced velocity plus the field f, wherever there is mass
--     forced-by-gravity   the velocity after gravity is, with gravity for f
--     forced-by-settings  what the update leaves is, with gravity and the node's change by drag and rim for f
--     node-mass-nonneg    a node's mass is not negative
--     massless-shares     to a node without mass no particle gives any
--     massless            and so it has no momentum
--     update-node         |2·(D/256·M·(unforced velocity) − momentum)| ≤ D/256·M at every node
--     update-linear       |2·(Σ M·(u − f) − 2^34·momentum)| ≤ Σ M, on each axis: D has cancelled
--     update-angular      |2·(Σ M·(X·(uy − fy) − Y·(ux − fx)) − 2^34·(angular momentum))| ≤ Σ M-as-X + Σ M-as-Y
-- Assumes nothing.
use mathlib.Core.Path.{◌≡◌, refl, sym, ap, ap₂, ◌∙◌, subst, subst₂}
use mathlib.Core.List.{List, [], ◌∷◌}
use mathlib.Core.Logic.{⊎_elim}
use Prim.Native.Nat.{ℕ, zero, suc, ◌*◌, ◌/◌, ◌^◌, ◌<◌, ◌≤◌}
use native.Mathlib.Nat.{mul-le-mul}
use native.Mathlib.Omega.{arith}
use lib.IntN.{ℤ, pos, nat_abs, ◌+ℤ◌, ◌-ℤ◌, ◌*ℤ◌, +ℤ_idr, zero-*ℤ}
use lib.Signed.{◌≤ℤ◌, ◌<ℤ◌}
use Rattle.arith.specs.Ring.{*ℤ-left-comm}
use Rattle.arith.specs.Solver.{ring, quote}
use Rattle.arith.specs.Order.{Within, linear, reading, ◌&◌, ≤ℤ-of-<ℤ, ≤ℤ-antisym, ≤ℤ-total, pos-nonneg, nonneg_pos, *ℤ-nonneg, within-scale, within-cancel, pos-positive}
use Rattle.arith.specs.Rounding.{Nearest}
use Rattle.arith.specs.Sums.{Each, sum_over, sum_nonneg, sum-zero, each_map}
use Rattle.particle.specs.declared.Particle.{Particle}
use Rattle.settings.specs.declared.Settings.{Settings}
use Rattle.apic.specs.Step.{Axis, along_x, along_y, weight, node_mass, carried, node_momentum, node_velocity, gravity, after_gravity, after_update, over_nodes}
use Rattle.apic.specs.Totals.{momentum, angular_momentum, node_change}
use Rattle.apic.specs.Motion.{Placed}
use Rattle.apic.proofs.Nodes.{armed, nodes-cong, nodes-sub, nodes-scale, nodes-within}
use Rattle.apic.proofs.Quadratic.{Whole}
use Rattle.apic.proofs.Scatter.{place, field_momentum, field_angular_momentum, scatter-linear, scatter-angular}

abbrev pub unforced : (ℤ → ℕ → ℤ) → (ℕ → ℕ → ℤ) → ℕ → Axis → List Particle → ℕ → ℕ → ℤ
unforced round w D a ps = after_gravity round w D (pos 0) a ps

abbrev pub Forced : (ℤ → ℕ → ℤ) → (ℕ → ℕ → ℤ) → ℕ → ℕ → ℕ → List Particle → Axis → (ℕ → ℕ → ℤ) → (ℕ → ℕ → ℤ) → Type 0
Forced round w D nx ny ps a u f =
    (i j : ℕ) → i < nx → j < ny → pos 0 <ℤ node_mass w ps i j → u i j ≡ unforced round w D a ps i j +ℤ f i j

-- gravity, at a node with mass
massive : (round : ℤ → ℕ → ℤ) (D : ℕ) (g : ℤ) (M : ℕ) (p : ℤ) → pos 0 <ℤ pos M → node_velocity round D g M p ≡ node_velocity round D (pos 0) M p +ℤ g
unfolding node_velocity
massive round D g zero p h = absurd h.lt
massive round D g (suc M) p h = plus (round p _)
  where
    plus : (r : ℤ) → r +ℤ g ≡ r +ℤ pos 0 +ℤ g
    plus r = ap (λ r. r +ℤ g) (sym (+ℤ_idr r))

pub forced-by-gravity : (round : ℤ → ℕ → ℤ) (w : ℕ → ℕ → ℤ) (D nx ny : ℕ) (ps : List Particle) (a : Axis) (g : ℤ) → Forced round w D nx ny ps a (after_gravity round w D g a ps) (λ i j. g)
forced-by-gravity round w D nx ny ps a g i j in-x in-y h =
    massive round D g (nat_abs (node_mass w ps i j)) (node_momentum w D a ps i j) (subst (λ M. pos 0 <ℤ M) (nonneg_pos (≤ℤ-of-<ℤ h)) h)

pub forced-by-settings : (round : ℤ → ℕ → ℤ) (w : ℕ → ℕ → ℤ) (D : ℕ) (s : Settings) (ps : List Particle) (a : Axis) → Forced round w D s.nx s.ny ps a (after_update round w D s a ps) (λ i j. gravity s a +ℤ node_change round w D s a ps i j)
unfolding node_change
forced-by-settings round w D s ps a i j in-x in-y h =
    changed (after_update round w D s a ps i j) (after_gravity round w D (gravity s a) a ps i j) (unforced round w D a ps i j) (gravity s a)
    (forced-by-gravity round w D s.nx s.ny ps a (gravity s a) i j in-x in-y h)
  where
    changed : (u v r g : ℤ) → v ≡ r +ℤ g → u ≡ r +ℤ (g +ℤ (u -ℤ v))
    changed u v r g e = linear (u ∷ v ∷ r ∷ g ∷ []) e (search reading depth 30) (omega arith)

-- ---- a node's mass

pub weight-nonneg : {w : ℕ → ℕ → ℤ} {D : ℕ} {nx ny : ℕ} {p : Particle} → Placed w D nx ny p → (i j : ℕ) → pos 0 ≤ℤ weight w p i j
weight-nonneg placed i j = *ℤ-nonneg (placed.along-x.nonneg i) (placed.along-y.nonneg j)

pub share-nonneg : {w : ℕ → ℕ → ℤ} {D : ℕ} {nx ny : ℕ} {p : Particle} → Placed w D nx ny p → (i j : ℕ) → pos 0 ≤ℤ (pos p.mass *ℤ weight w p i j)
share-nonneg {p} placed i j = *ℤ-nonneg (pos-nonneg p.mass) (weight-nonneg placed i j)

both_zero : {a b : ℤ} → pos 0 ≤ℤ a → pos 0 ≤ℤ b → a +ℤ b ≡ pos 0 → (a ≡ pos 0) × (b ≡ pos 0)
both_zero {a} {b} h k e = linear (a ∷ b ∷ []) (h & k & e) (search reading depth 30) (omega arith)

all-zero : {A : Type 0} (f : A → ℤ) (xs : List A) → Each (λ x. pos 0 ≤ℤ f x) xs → sum_over xs f ≡ pos 0 → Each (λ x. f x ≡ pos 0) xs
all-zero f [] h e = tt
all-zero f (x ∷ xs) h e =
    let z = both_zero h.0 (sum_nonneg f xs h.1) e in
    (z.0, all-zero f xs h.1 z.1)

module _ (w : ℕ → ℕ → ℤ) (D : ℕ) (nx ny : ℕ) (ps : List Particle) (on : Each (Placed w D nx ny) ps) where
  shares-nonneg : (i j : ℕ) → Each (λ p. pos 0 ≤ℤ (pos p.mass *ℤ weight w p i j)) ps
  shares-nonneg i j = each_map _ _ (λ p placed. share-nonneg placed i j) ps on

  pub node-mass-nonneg : (i j : ℕ) → pos 0 ≤ℤ node_mass w ps i j
  unfolding node_mass
  node-mass-nonneg i j = sum_nonneg _ ps (shares-nonneg i j)

  pub massless-shares : (i j : ℕ) → node_mass w ps i j ≡ pos 0 → Each (λ p. pos p.mass *ℤ weight w p i j ≡ pos 0) ps
  unfolding node_mass
  massless-shares i j e = all-zero _ ps (shares-nonneg i j) e

  pub massless : (a : Axis) (i j : ℕ) → node_mass w ps i j ≡ pos 0 → node_momentum w D a ps i j ≡ pos 0
  unfolding node_momentum
  massless a i j e =
      sum-zero _ ps (each_map _ _ (λ p z. ap (λ s. s *ℤ carried D a p i j) z ∙ zero-*ℤ (carried D a p i j)) ps (massless-shares i j e))

-- ---- one node

pub product-positive : {k : ℕ} → 0 < k → (M : ℕ) → 0 < k * suc M
product-positive h M =
    let least : 1 ≤ suc M = omega arith in
    mul-le-mul h least

node-velocity : (round : ℤ → ℕ → ℤ) → Nearest round → (D : ℕ) → Whole D → (M : ℕ) (p : ℤ) → (pos M ≡ pos 0 → p ≡ pos 0) → Within (pos (D / 256) *ℤ pos M) (pos 2 *ℤ (pos (D / 256) *ℤ pos M *ℤ node_velocity round D (pos 0) M p -ℤ p))
unfolding node_velocity
node-velocity round nearest D whole zero p h = still (pos (D / 256)) p (h refl)
  where
    still : (K p : ℤ) → p ≡ pos 0 → Within (K *ℤ pos 0) (pos 2 *ℤ (K *ℤ pos 0 *ℤ pos 0 -ℤ p))
    still K p e = linear (K ∷ p ∷ []) e (search reading depth 30) (omega arith)
node-velocity round nearest D whole (suc M) p h =
    subst (λ v. Within (pos (D / 256 * suc M)) (pos 2 *ℤ (pos (D / 256 * suc M) *ℤ v -ℤ p)))
    (sym (+ℤ_idr (round p (D / 256 * suc M))))
    (nearest p (D / 256 * suc M) (product-positive whole.some M))

module _ (round : ℤ → ℕ → ℤ) (nearest : Nearest round) (w : ℕ → ℕ → ℤ) (D : ℕ) (whole : Whole D) (nx ny : ℕ) (ps : List Particle) (on : Each (Placed w D nx ny) ps) where
  pub update-node : (a : Axis) (i j : ℕ) → Within (pos (D / 256) *ℤ node_mass w ps i j) (pos 2 *ℤ (pos (D / 256) *ℤ node_mass w ps i j *ℤ unforced round w D a ps i j -ℤ node_momentum w D a ps i j))
  update-node a i j =
      subst (λ M. Within (pos (D / 256) *ℤ M) (pos 2 *ℤ (pos (D / 256) *ℤ M *ℤ unforced round w D a ps i j -ℤ node_momentum w D a ps i j)))
      (sym same)
      (node-velocity round nearest D whole (nat_abs (node_mass w ps i j)) (node_momentum w D a ps i j) (λ e. massless w D nx ny ps on a i j (same ∙ e)))
    where
      same : node_mass w ps i j ≡ pos (nat_abs (node_mass w ps i j))
      same = nonneg_pos (node-mass-nonneg w D nx ny ps on i j)

  -- ---- all nodes

  -- the unforced momentum of a node
  abbrev flow : Axis → ℕ → ℕ → ℤ
  flow a i j = node_mass w ps i j *ℤ unforced round w D a ps i j

  -- with an arm k, not negative, at each node
  update-sum : (a : Axis) (k : ℕ → ℕ → ℤ) → ((i j : ℕ) → pos 0 ≤ℤ k i j) → Within (pos (D / 256) *ℤ armed nx ny k (node_mass w ps)) (pos 2 *ℤ (pos (D / 256) *ℤ armed nx ny k (flow a) -ℤ armed nx ny k (node_momentum w D a ps)))
  update-sum a k arm =
      let M = node_mass w ps in
      let p = node_momentum w D a ps in
      subst₂ Within
      (nodes-cong nx ny _ _ (λ i j in-x in-y. *ℤ-left-comm (k i j) (pos (D / 256)) (M i j)) ∙ nodes-scale nx ny (pos (D / 256)) (λ i j. k i j *ℤ M i j))
      (nodes-cong nx ny _ _ (λ i j in-x in-y. spread (k i j) (pos (D / 256)) (M i j) (unforced round w D a ps i j) (p i j))
      ∙ nodes-scale nx ny (pos 2) (λ i j. pos (D / 256) *ℤ (k i j *ℤ flow a i j) -ℤ k i j *ℤ p i j)
      ∙ ap (λ s. pos 2 *ℤ s)
      (nodes-sub nx ny (λ i j. pos (D / 256) *ℤ (k i j *ℤ flow a i j)) (λ i j. k i j *ℤ p i j)
      ∙ ap (λ s. s -ℤ armed nx ny k p) (nodes-scale nx ny (pos (D / 256)) (λ i j. k i j *ℤ flow a i j))))
      (nodes-within nx ny _ _ (λ i j in-x in-y. within-scale (arm i j) (update-node a i j)))
    where
      spread : (k K M r p : ℤ) → k *ℤ (pos 2 *ℤ (K *ℤ M *ℤ r -ℤ p)) ≡ pos 2 *ℤ (K *ℤ (k *ℤ (M *ℤ r)) -ℤ k *ℤ p)
      spread k K M r p = ring (k ∷ K ∷ M ∷ r ∷ p ∷ []) (search quote depth 30) (search quote depth 30) tt

  -- Q is what the particles have of a sum R over the nodes: the divisor cancels
  cancelled : (t S R Q : ℤ) → R ≡ pos (2 ^ 26) *ℤ (pos D *ℤ Q) → Within (pos (D / 256) *ℤ t) (pos 2 *ℤ (pos (D / 256) *ℤ S -ℤ R)) → Within t (pos 2 *ℤ (S -ℤ pos (2 ^ 34) *ℤ Q))
  cancelled t S R Q e h =
      within-cancel (pos-positive whole.some)
      (subst (Within (pos (D / 256) *ℤ t)) (ap (λ r. pos 2 *ℤ (pos (D / 256) *ℤ S -ℤ r)) (e ∙ ap (λ d. pos (2 ^ 26) *ℤ (pos d *ℤ Q)) whole.times) ∙ apart (pos (D / 256)) S Q) h)
    where
      apart : (K S Q : ℤ) → pos 2 *ℤ (K *ℤ S -ℤ pos (2 ^ 26) *ℤ (pos 256 *ℤ K *ℤ Q)) ≡ K *ℤ (pos 2 *ℤ (S -ℤ pos (2 ^ 34) *ℤ Q))
      apart K S Q = ring (K ∷ S ∷ Q ∷ []) (search quote depth 30) (search quote depth 30) tt

  -- what the nodes move with, beside the forcing
  unforced-share : (a : Axis) (u f : ℕ → ℕ → ℤ) → Forced round w D nx ny ps a u f → (i j : ℕ) → i < nx → j < ny → node_mass w ps i j *ℤ (u i j -ℤ f i j) ≡ flow a i j
  unforced-share a u f forced i j in-x in-y =
      ⊎_elim
      (λ l. none (node_mass w ps i j) (u i j -ℤ f i j) (unforced round w D a ps i j) (≤ℤ-antisym l (node-mass-nonneg w D nx ny ps on i j)))
      (λ l. some (node_mass w ps i j) (u i j) (f i j) (unforced round w D a ps i j) (forced i j in-x in-y l))
      (≤ℤ-total (node_mass w ps i j) (pos 0))
    where
      none : (M v r : ℤ) → M ≡ pos 0 → M *ℤ v ≡ M *ℤ r
      none M v r e = ap (λ M. M *ℤ v) e ∙ zero-*ℤ v ∙ sym (zero-*ℤ r) ∙ ap (λ M. M *ℤ r) (sym e)

      back : (M f r : ℤ) → M *ℤ (r +ℤ f -ℤ f) ≡ M *ℤ r
      back M f r = ring (M ∷ f ∷ r ∷ []) (search quote depth 30) (search quote depth 30) tt

      some : (M u f r : ℤ) → u ≡ r +ℤ f → M *ℤ (u -ℤ f) ≡ M *ℤ r
      some M u f r e = ap (λ u. M *ℤ (u -ℤ f)) e ∙ back M f r

  pub update-linear : (a : Axis) (u f : ℕ → ℕ → ℤ) → Forced round w D nx ny ps a u f → Within (over_nodes nx ny (node_mass w ps)) (pos 2 *ℤ (field_momentum w nx ny ps (λ i j. u i j -ℤ f i j) -ℤ pos (2 ^ 34) *ℤ momentum a ps))
  update-linear a u f forced =
      cancelled (over_nodes nx ny (node_mass w ps)) (field_momentum w nx ny ps (λ i j. u i j -ℤ f i j)) (over_nodes nx ny (node_momentum w D a ps)) (momentum a ps)
      (scatter-linear w D nx ny ps on a)
      (subst₂ (λ s t. Within (pos (D / 256) *ℤ t) (pos 2 *ℤ (pos (D / 256) *ℤ s -ℤ over_nodes nx ny (node_momentum w D a ps))))
      (unarmed (flow a) ∙ sym (nodes-cong nx ny _ _ (unforced-share a u f forced)))
      (unarmed (node_mass w ps))
      (subst (λ r. Within (pos (D / 256) *ℤ armed nx ny (λ i j. pos 1) (node_mass w ps)) (pos 2 *ℤ (pos (D / 256) *ℤ armed nx ny (λ i j. pos 1) (flow a) -ℤ r)))
      (unarmed (node_momentum w D a ps))
      (update-sum a (λ i j. pos 1) (λ i j. pos-nonneg 1))))
    where
      one-times : (z : ℤ) → pos 1 *ℤ z ≡ z
      one-times z = ring (z ∷ []) (search quote depth 30) (search quote depth 30) tt

      unarmed : (f : ℕ → ℕ → ℤ) → armed nx ny (λ i j. pos 1) f ≡ over_nodes nx ny f
      unarmed f = nodes-cong nx ny _ _ (λ i j in-x in-y. one-times (f i j))

  pub update-angular : (ux uy fx fy : ℕ → ℕ → ℤ) → Forced round w D nx ny ps along_x ux fx → Forced round w D nx ny ps along_y uy fy → Within (armed nx ny (place along_x) (node_mass w ps) +ℤ armed nx ny (place along_y) (node_mass w ps)) (pos 2 *ℤ (field_angular_momentum w nx ny ps (λ i j. ux i j -ℤ fx i j) (λ i j. uy i j -ℤ fy i j) -ℤ pos (2 ^ 34) *ℤ angular_momentum ps))
  update-angular ux uy fx fy forced-x forced-y =
      let M = node_mass w ps in
      let px = node_momentum w D along_x ps in
      let py = node_momentum w D along_y ps in
      let exact = field_angular_momentum w nx ny ps (λ i j. ux i j -ℤ fx i j) (λ i j. uy i j -ℤ fy i j) in
      let sum = over_nodes nx ny (λ i j. place along_x i j *ℤ py i j -ℤ place along_y i j *ℤ px i j) in
      cancelled (armed nx ny (place along_x) M +ℤ armed nx ny (place along_y) M) exact sum (angular_momentum ps)
      (scatter-angular w D nx ny ps on)
      (combine (pos (D / 256))
      (armed nx ny (place along_x) (flow along_y)) (armed nx ny (place along_x) M) (armed nx ny (place along_x) py)
      (armed nx ny (place along_y) (flow along_x)) (armed nx ny (place along_y) M) (armed nx ny (place along_y) px)
      exact sum
      (nodes-cong nx ny _ _ (λ i j in-x in-y.
      cross (M i j) (place along_x i j) (place along_y i j) (ux i j -ℤ fx i j) (uy i j -ℤ fy i j)
      ∙ ap₂ (λ s t. place along_x i j *ℤ s -ℤ place along_y i j *ℤ t) (unforced-share along_y uy fy forced-y i j in-x in-y) (unforced-share along_x ux fx forced-x i j in-x in-y))
      ∙ nodes-sub nx ny (λ i j. place along_x i j *ℤ flow along_y i j) (λ i j. place along_y i j *ℤ flow along_x i j))
      (nodes-sub nx ny (λ i j. place along_x i j *ℤ py i j) (λ i j. place along_y i j *ℤ px i j))
      (update-sum along_y (place along_x) (λ i j. pos-nonneg (64 * i)))
      (update-sum along_x (place along_y) (λ i j. pos-nonneg (64 * j))))
    where
      cross : (M X Y ux uy : ℤ) → M *ℤ (X *ℤ uy -ℤ Y *ℤ ux) ≡ X *ℤ (M *ℤ uy) -ℤ Y *ℤ (M *ℤ ux)
      cross M X Y ux uy = ring (M ∷ X ∷ Y ∷ ux ∷ uy ∷ []) (search quote depth 30) (search quote depth 30) tt

      combine : (K s t r s' t' r' S R : ℤ) → S ≡ s -ℤ s' → R ≡ r -ℤ r' → Within (K *ℤ t) (pos 2 *ℤ (K *ℤ s -ℤ r)) → Within (K *ℤ t') (pos 2 *ℤ (K *ℤ s' -ℤ r')) → Within (K *ℤ (t +ℤ t')) (pos 2 *ℤ (K *ℤ S -ℤ R))
      combine K s t r s' t' r' S R e f h k =
          subst₂ (λ S R. Within (K *ℤ (t +ℤ t')) (pos 2 *ℤ (K *ℤ S -ℤ R))) (sym e) (sym f)
          (linear (K ∷ s ∷ t ∷ r ∷ s' ∷ t' ∷ r' ∷ []) (h & k) (search reading depth 30 fits 20000) (omega arith))
