-- Particles at rest under gravity, with open edges and no drag: the nodes, and what each particle gathers from them.
--     rest-momentum      no node has momentum
--     rest-weighs        so each particle weighs the updated field as it does gravity
--     rest-gathered      and a gravity of at most half a unit leaves the particle as it was
-- Assumes nothing.
use mathlib.Core.Path.{◌≡◌, refl, sym, ap, ◌∙◌}
use mathlib.Core.List.{List, [], ◌∷◌}
use Prim.Native.Nat.{ℕ, suc, ◌*◌, ◌/◌, ◌^◌, ◌<◌, ◌≤◌}
use native.Mathlib.Omega.{arith}
use lib.Dec.{lit<}
use lib.IntN.{ℤ, pos, nat_abs, ◌+ℤ◌, ◌*ℤ◌, +ℤ_idl, +ℤ_idr, *ℤ-zero}
use Rattle.arith.specs.Order.{linear, reading}
use Rattle.arith.specs.Size.{bound-within}
use Rattle.arith.specs.Solver.{ring, quote}
use Rattle.arith.specs.Rounding.{halves_even, rounded}
use Rattle.arith.proofs.Rounding.{nearest-exact, rounded-error, even-unique}
use Rattle.arith.specs.Sums.{Each, sum-zero, each_map}
use Rattle.particle.specs.declared.Particle.{Particle}
use Rattle.settings.specs.declared.Settings.{Settings}
use Rattle.settings.specs.Settings.{Plain}
use Rattle.apic.specs.Step.{Axis, along_x, along_y, apart, weight, node_mass, carried, node_momentum, node_velocity, gravity, after_update, gathered_velocity, gathered_affine, moved}
use Rattle.apic.specs.Motion.{Placed, AtRest}
use Rattle.apic.proofs.Quadratic.{Whole}
use Rattle.apic.proofs.Update.{product-positive}
use Rattle.apic.proofs.Weighed.{Weighs, massive-weighs, LinearAt, linear-velocity, linear-affine}
use Rattle.apic.proofs.Edges.{plain-updated}
use Rattle.at_rest.specs.Still.{half_unit}

-- ---- numbers

no-share : (m W D dx dy : ℤ) → m *ℤ W *ℤ (D *ℤ pos 0 +ℤ pos 0 *ℤ dx +ℤ pos 0 *ℤ dy) ≡ pos 0
no-share m W D dx dy = ring (m ∷ W ∷ D ∷ dx ∷ dy ∷ []) (search quote depth 30) (search quote depth 30) tt

once : (z : ℤ) → z ≡ pos 1 *ℤ z
once z = ring (z ∷ []) (search quote depth 30) (search quote depth 30) tt

no-slope : (D : ℤ) → pos (2 ^ 26) *ℤ (D *ℤ pos 0) ≡ pos 0
no-slope D = ring (D ∷ []) (search quote depth 30) (search quote depth 30) tt

rounded-none : (d : ℕ) → 0 < d → rounded (pos 0) d ≡ pos 0
rounded-none d some = ap (λ n. rounded n d) (sym (*ℤ-zero (pos d))) ∙ nearest-exact halves_even (pos 0) d some

-- ---- the nodes under particles at rest

module _ (w : ℕ → ℕ → ℤ) (D : ℕ) (i j : ℕ) where
  carries-none : (a : Axis) (p : Particle) → AtRest p → pos p.mass *ℤ weight w p i j *ℤ carried D a p i j ≡ pos 0
  carries-none along_x p r =
      (λ t. pos p.mass *ℤ weight w p i j *ℤ (pos D *ℤ r.vx t +ℤ r.bxx t *ℤ apart along_x p i j +ℤ r.bxy t *ℤ apart along_y p i j))
      ∙ no-share (pos p.mass) (weight w p i j) (pos D) (apart along_x p i j) (apart along_y p i j)
  carries-none along_y p r =
      (λ t. pos p.mass *ℤ weight w p i j *ℤ (pos D *ℤ r.vy t +ℤ r.byx t *ℤ apart along_x p i j +ℤ r.byy t *ℤ apart along_y p i j))
      ∙ no-share (pos p.mass) (weight w p i j) (pos D) (apart along_x p i j) (apart along_y p i j)

  pub rest-momentum : (a : Axis) (ps : List Particle) → Each AtRest ps → node_momentum w D a ps i j ≡ pos 0
  unfolding node_momentum
  rest-momentum a ps still = sum-zero _ ps (each_map AtRest _ (carries-none a) ps still)

-- without momentum, a node with mass has gravity's velocity
falls : (D : ℕ) → Whole D → (g p : ℤ) (M : ℕ) → p ≡ pos 0 → node_velocity rounded D g (suc M) p ≡ g
unfolding node_velocity
falls D whole g p M e =
    ap (λ p. rounded p (D / 256 * suc M) +ℤ g) e
    ∙ ap (λ r. r +ℤ g) (rounded-none (D / 256 * suc M) (product-positive whole.some M))
    ∙ +ℤ_idl g

module _ (w : ℕ → ℕ → ℤ) (D : ℕ) (whole : Whole D) (s : Settings) (plain : Plain s) (ps : List Particle) (on : Each (Placed w D s.nx s.ny) ps) (massive : Each (λ p. 0 < p.mass) ps) (still : Each AtRest ps) (a : Axis) where
  pub rest-weighs : Each (Weighs w s.nx s.ny (after_update rounded w D s a ps) (λ i j. gravity s a)) ps
  rest-weighs =
      massive-weighs w D s.nx s.ny ps on massive (after_update rounded w D s a ps) (λ i j. gravity s a) (λ i j in-x in-y M e.
      plain-updated rounded rounded-error D s plain a i j (nat_abs (node_mass w ps i j)) (node_momentum w D a ps i j)
      ∙ ap (λ M. node_velocity rounded D (gravity s a) M (node_momentum w D a ps i j)) e
      ∙ falls D whole (gravity s a) _ M (rest-momentum w D i j a ps still))

-- ---- what a particle gathers

module _ {w : ℕ → ℕ → ℤ} {D nx ny : ℕ} {p : Particle} (placed : Placed w D nx ny p) {u : ℕ → ℕ → ℤ} {g : ℤ} (h : Weighs w nx ny u (λ i j. g) p) where
  uniform : LinearAt 1 nx ny (λ i j. g) g (λ b. pos 0) p
  uniform i j in-x in-y = level g (apart along_x p i j) (apart along_y p i j)
    where
      level : (g dx dy : ℤ) → pos 1 *ℤ g ≡ g +ℤ pos 0 *ℤ dx +ℤ pos 0 *ℤ dy
      level g dx dy = ring (g ∷ dx ∷ dy ∷ []) (search quote depth 30) (search quote depth 30) tt

  no-velocity : nat_abs g ≤ half_unit → gathered_velocity rounded w nx ny u p ≡ pos 0
  unfolding gathered_velocity
  no-velocity small =
      ap (λ n. rounded n (2 ^ 34)) (once _ ∙ linear-velocity placed h 1 g (λ b. pos 0) uniform)
      ∙ even-unique (pos (2 ^ 26) *ℤ g) (pos 0) (2 ^ 34) (lit< tt) refl
      (linear (g ∷ []) (bound-within {z = g} {n = half_unit} (record { size = small })) (search reading depth 30) (omega arith))

  no-affine : (b : Axis) → gathered_affine rounded w nx ny b u p ≡ pos 0
  unfolding gathered_affine
  no-affine b =
      ap (λ n. rounded n (2 ^ 34)) (once _ ∙ linear-affine placed h 1 g (λ b. pos 0) uniform b ∙ no-slope (pos D))
      ∙ rounded-none (2 ^ 34) (lit< tt)

module _ {w : ℕ → ℕ → ℤ} {D nx ny : ℕ} {p : Particle} (placed : Placed w D nx ny p) (still : AtRest p) {ux uy : ℕ → ℕ → ℤ} {gx gy : ℤ} (on-x : Weighs w nx ny ux (λ i j. gx) p) (on-y : Weighs w nx ny uy (λ i j. gy) p) (small-x : nat_abs gx ≤ half_unit) (small-y : nat_abs gy ≤ half_unit) where
  pub rest-gathered : moved rounded w nx ny ux uy p ≡ p
  unfolding moved
  rest-gathered = λ t.
      record {
        identifier = p.identifier;
        mass = p.mass;
        x = stays p.x (no-velocity placed on-x small-x) t;
        y = stays p.y (no-velocity placed on-y small-y) t;
        vx = (no-velocity placed on-x small-x ∙ sym still.vx) t;
        vy = (no-velocity placed on-y small-y ∙ sym still.vy) t;
        bxx = (no-affine placed on-x along_x ∙ sym still.bxx) t;
        bxy = (no-affine placed on-x along_y ∙ sym still.bxy) t;
        byx = (no-affine placed on-y along_x ∙ sym still.byx) t;
        byy = (no-affine placed on-y along_y ∙ sym still.byy) t;
        marks = p.marks;
      }
    where
      stays : (x : ℕ) {v : ℤ} → v ≡ pos 0 → nat_abs (pos x +ℤ v) ≡ x
      stays x e = ap (λ v. nat_abs (pos x +ℤ v)) e ∙ ap nat_abs (+ℤ_idr (pos x))
