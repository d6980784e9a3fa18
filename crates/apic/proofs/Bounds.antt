-- Bounds of the numbers in a step of a set within its limits, for every D within its own: they hold of every prefix of the set too.
--     Near                    a node with a weight is at most most_apart away along the axis
--     spread-whole            a D within its limits is a multiple of 256
--     most_momentum            63·D + 393,024: 457,536 for the spline, at most 586,560
--     Limited                 what the bounds use of a set: each particle's limits, and the total mass
--     limited-set, limited-prefix, limited-take
--                             a set within SetLimits, and every prefix of one, is Limited
--     node-mass-total         M ≤ 2^26·mass
--     node-momentum-within    |momentum| ≤ most_momentum·M
--     node-momentum-total     so at most most_momentum·2^26·mass
--     NodeLimits, node-limits M is 0 to 2^43, momentum at most most_momentum·2^43, and none where M = 0
--     momentum-fits           which a signed 64-bit number holds
--     gravity-within          the velocity after gravity, which is within ±4096, is within ±131,072
-- Assumes nothing.
use mathlib.Core.Path.{◌≡◌, refl, sym, ap, ◌∙◌, subst, subst₂}
use mathlib.Core.List.{List, [], ◌∷◌, ◌++◌}
use mathlib.Core.Logic.{◌⊎◌, ⊎_elim}
use Prim.Native.Nat.{ℕ, zero, suc, ◌+◌, ◌*◌, ◌/◌, ◌%◌, ◌^◌, ◌<◌, ◌≤◌}
use native.Mathlib.Nat.{le_refl, le_trans, le_of_eq, mul-le-mul_right, mul_assoc}
use native.Mathlib.Omega.{arith}
use lib.ListN.{take, drop, take-append-drop}
use lib.IntN.{ℤ, pos, nat_abs, ◌+ℤ◌, ◌*ℤ◌, *ℤ_comm, zero-*ℤ, *ℤ-zero}
use lib.Signed.{◌≤ℤ◌}
use mir.Syntax.{w64}
use mir.Val.{SFits}
use Rattle.arith.specs.Order.{Within, ≤ℤ-trans, ≤ℤ-of-eq, pos-mono, pos-nonneg, *ℤ-mono-left, nonneg_pos, within-scale, within-sum, within-widen, within-zero}
use Rattle.arith.specs.Size.{Bound, sizes, bounded-by, bound-pos, bound-fits, bound-widen, bound-within, within-bound}
use Rattle.arith.specs.Rounding.{Nearest}
use Rattle.arith.proofs.Rounding.{near-bound}
use Rattle.arith.specs.Lists.{each-prefix, total-prefix}
use Rattle.arith.specs.Sums.{Each, sum-scale, sum-within}
use Rattle.limits.specs.Limits.{most_velocity, most_affine, most_total_mass, most_node_mass, most_node_velocity, most_gravity}
use Rattle.spline.specs.Spline.{displacement}
use Rattle.spline.specs.Kernel.{least_d, most_d, Spread}
use Rattle.particle.specs.declared.Particle.{Particle}
use Rattle.apic.specs.Step.{Axis, along_x, along_y, apart, weight, node_mass, carried, node_momentum, node_velocity, after_gravity}
use Rattle.apic.specs.Totals.{total_mass}
use Rattle.apic.specs.Limits.{ParticleLimits, SetLimits}
use Rattle.apic.specs.Motion.{Placed}
use Rattle.apic.proofs.Nodes.{node-most}
use Rattle.apic.proofs.Quadratic.{Whole}
use Rattle.apic.proofs.Scatter.{scatter-mass}
use Rattle.apic.proofs.Update.{share-nonneg, node-mass-nonneg, massless, product-positive}

-- how far apart a particle and a node with a weight are at most, along an axis: one and a half times the spacing
abbrev pub most_apart : ℕ
most_apart = 96

abbrev pub Near : (ℕ → ℕ → ℤ) → Type 0
Near w = (x i : ℕ) → (w x i ≡ pos 0) ⊎ Within (pos most_apart) (displacement x i)

pub spread-whole : {D : ℕ} → Spread D → Whole D
spread-whole {D} h =
    let l = h.least in
    let e = h.whole in
    record { some = omega arith; times = omega arith }

-- what a particle brings to a node at most, for each unit of weighted mass: 63·D + 2·2047·96
abbrev pub most_momentum : ℕ → ℕ
most_momentum D = most_velocity * D + 2 * most_affine * most_apart

pub record Limited (nx ny : ℕ) (ps : List Particle) : Type 0 where
  pub each : Each (ParticleLimits nx ny) ps
  pub mass : total_mass ps ≤ most_total_mass

-- what the update asks of a node, and what the sums need to fit
pub record NodeLimits (w : ℕ → ℕ → ℤ) (D : ℕ) (ps : List Particle) (i j : ℕ) : Type 0 where
  pub mass-least : pos 0 ≤ℤ node_mass w ps i j
  pub mass-most : node_mass w ps i j ≤ℤ pos most_node_mass
  pub momentum-most : (a : Axis) → Bound (node_momentum w D a ps i j) (most_momentum D * most_node_mass)
  pub no-momentum : (a : Axis) → node_mass w ps i j ≡ pos 0 → node_momentum w D a ps i j ≡ pos 0

pub momentum-fits : {D : ℕ} {z : ℤ} → Spread D → Bound z (most_momentum D * most_node_mass) → SFits w64 z
momentum-fits {D} h b = bound-fits b (below h.most)
  where
    below : D ≤ most_d → most_momentum D * most_node_mass < 2 ^ 63
    below h = omega arith

-- ---- prefixes

pub limited-set : {nx ny : ℕ} {ps : List Particle} → SetLimits nx ny ps → Limited nx ny ps
limited-set h = record { each = h.each; mass = h.mass }

pub limited-prefix : {nx ny : ℕ} (ps qs : List Particle) → Limited nx ny (ps ++ qs) → Limited nx ny ps
limited-prefix ps qs h = record { each = each-prefix _ ps qs h.each; mass = le_trans (total-prefix (λ p. p.mass) ps qs) h.mass }

pub limited-take : {nx ny : ℕ} (k : ℕ) (ps : List Particle) → Limited nx ny ps → Limited nx ny (take k ps)
limited-take {nx} {ny} k ps h = limited-prefix (take k ps) (drop k ps) (subst (Limited nx ny) (sym (take-append-drop k ps)) h)

-- ---- what a particle brings to a node

near-product : (D : ℕ) (v bx by dx dy : ℤ) → nat_abs v ≤ most_velocity → nat_abs bx ≤ most_affine → nat_abs by ≤ most_affine → Within (pos most_apart) dx → Within (pos most_apart) dy → Within (pos (most_momentum D)) (pos D *ℤ v +ℤ bx *ℤ dx +ℤ by *ℤ dy)
near-product D v bx by dx dy h k l near-x near-y =
    let bound-D : Bound (pos D) D = bound-pos (le_refl D) in
    let bound-v : Bound v most_velocity = record { size = h } in
    let bound-x : Bound bx most_affine = record { size = k } in
    let bound-y : Bound by most_affine = record { size = l } in
    bound-within (bounded-by (search sizes depth 20) (omega arith))

carried-within : (D nx ny : ℕ) (p : Particle) → ParticleLimits nx ny p → (a : Axis) (i j : ℕ) → Within (pos most_apart) (apart along_x p i j) → Within (pos most_apart) (apart along_y p i j) → Within (pos (most_momentum D)) (carried D a p i j)
carried-within D nx ny p h along_x i j k l =
    near-product D p.vx p.bxx p.bxy (apart along_x p i j) (apart along_y p i j) h.vx h.bxx h.bxy k l
carried-within D nx ny p h along_y i j k l =
    near-product D p.vy p.byx p.byy (apart along_x p i j) (apart along_y p i j) h.vy h.byx h.byy k l

-- a share s of weighted mass brings at most so much
abbrev Brings : ℕ → ℤ → ℤ → Type 0
Brings D s c = Within (pos (most_momentum D) *ℤ s) (s *ℤ c)

brings-none : (D : ℕ) (s c : ℤ) → s ≡ pos 0 → Brings D s c
brings-none D s c e =
    subst (λ s. Brings D s c) (sym e)
    (subst₂ Within (sym (*ℤ-zero (pos (most_momentum D)))) (sym (zero-*ℤ c)) (within-zero (≤ℤ-of-eq refl)))

brings-some : (D : ℕ) (s c : ℤ) → pos 0 ≤ℤ s → Within (pos (most_momentum D)) c → Brings D s c
brings-some D s c h k = subst (λ t. Within t (s *ℤ c)) (*ℤ_comm s (pos (most_momentum D))) (within-scale h k)

-- ---- a node's velocity

-- at most 114,384 without gravity: 63·256 + 393,024·256/D
abbrev most_unforced : ℕ
most_unforced = 114384

divided : (D M : ℕ) → Spread D → most_momentum D * M ≤ most_unforced * (D / 256 * M)
divided D M h = le_trans (mul-le-mul_right M (by-unit D h.least h.whole)) (le_of_eq (mul_assoc most_unforced (D / 256) M))
  where
    by-unit : (D : ℕ) → least_d ≤ D → D % 256 ≡ 0 → most_momentum D ≤ most_unforced * (D / 256)
    by-unit D h e = omega arith

velocity-within : (round : ℤ → ℕ → ℤ) → Nearest round → (D : ℕ) → Spread D → (g : ℤ) → Within (pos most_gravity) g → (M : ℕ) (p : ℤ) → Within (pos (most_momentum D) *ℤ pos M) p → Within (pos most_node_velocity) (node_velocity round D g M p)
unfolding node_velocity
velocity-within round nearest D spread g h zero p l = within-zero (pos-nonneg most_node_velocity)
velocity-within round nearest D spread g h (suc M) p l =
    within-widen (pos-mono (omega arith))
    (within-sum
    (bound-within (near-bound round nearest p (D / 256 * suc M) most_unforced (product-positive (spread-whole spread).some M) (bound-widen (divided D (suc M) spread) (within-bound l))))
    h)

-- ---- at a node

module _ (w : ℕ → ℕ → ℤ) (near : Near w) (D nx ny : ℕ) where
  share-within : (p : Particle) → Placed w D nx ny p → ParticleLimits nx ny p → (a : Axis) (i j : ℕ) → Brings D (pos p.mass *ℤ weight w p i j) (carried D a p i j)
  share-within p placed h a i j =
      ⊎_elim
      (λ e. none (ap (λ s. s *ℤ w p.y j) e ∙ zero-*ℤ (w p.y j)))
      (λ near-x. ⊎_elim
      (λ e. none (ap (λ s. w p.x i *ℤ s) e ∙ *ℤ-zero (w p.x i)))
      (λ near-y. brings-some D (pos p.mass *ℤ weight w p i j) (carried D a p i j) (share-nonneg placed i j) (carried-within D nx ny p h a i j near-x near-y))
      (near p.y j))
      (near p.x i)
    where
      none : weight w p i j ≡ pos 0 → Brings D (pos p.mass *ℤ weight w p i j) (carried D a p i j)
      none e =
          brings-none D (pos p.mass *ℤ weight w p i j) (carried D a p i j) (ap (λ s. pos p.mass *ℤ s) e ∙ *ℤ-zero (pos p.mass))

  module _ (ps : List Particle) (on : Each (Placed w D nx ny) ps) where
    pub node-mass-total : (i j : ℕ) → i < nx → j < ny → node_mass w ps i j ≤ℤ pos (2 ^ 26 * total_mass ps)
    node-mass-total i j in-x in-y =
        ≤ℤ-trans (node-most nx ny (node_mass w ps) (node-mass-nonneg w D nx ny ps on) i j in-x in-y)
        (≤ℤ-of-eq (scatter-mass w D nx ny ps on))

    module _ (limits : Limited nx ny ps) where
      node-mass-most : (i j : ℕ) → i < nx → j < ny → node_mass w ps i j ≤ℤ pos most_node_mass
      node-mass-most i j in-x in-y = ≤ℤ-trans (node-mass-total i j in-x in-y) (pos-mono (total (total_mass ps) limits.mass))
        where
          total : (m : ℕ) → m ≤ most_total_mass → 2 ^ 26 * m ≤ most_node_mass
          total m h = omega arith

      pub node-momentum-within : (a : Axis) (i j : ℕ) → Within (pos (most_momentum D) *ℤ node_mass w ps i j) (node_momentum w D a ps i j)
      unfolding node_mass node_momentum
      node-momentum-within a i j =
          subst (λ s. Within s (node_momentum w D a ps i j)) (sum-scale (pos (most_momentum D)) (λ p. pos p.mass *ℤ weight w p i j) ps)
          (sum-within (λ p. pos (most_momentum D) *ℤ (pos p.mass *ℤ weight w p i j)) (λ p. pos p.mass *ℤ weight w p i j *ℤ carried D a p i j) ps (both ps on limits.each))
        where
          both : (qs : List Particle) → Each (Placed w D nx ny) qs → Each (ParticleLimits nx ny) qs → Each (λ p. Brings D (pos p.mass *ℤ weight w p i j) (carried D a p i j)) qs
          both [] o l = tt
          both (q ∷ qs) o l = (share-within q o.0 l.0 a i j, both qs o.1 l.1)

      pub node-momentum-total : (a : Axis) (i j : ℕ) → i < nx → j < ny → Bound (node_momentum w D a ps i j) (most_momentum D * (2 ^ 26 * total_mass ps))
      node-momentum-total a i j in-x in-y =
          within-bound (within-widen (*ℤ-mono-left (pos-nonneg (most_momentum D)) (node-mass-total i j in-x in-y)) (node-momentum-within a i j))

      pub node-limits : (i j : ℕ) → i < nx → j < ny → NodeLimits w D ps i j
      node-limits i j in-x in-y =
          record {
            mass-least = node-mass-nonneg w D nx ny ps on i j;
            mass-most = node-mass-most i j in-x in-y;
            momentum-most = λ a. within-bound (within-widen (*ℤ-mono-left (pos-nonneg (most_momentum D)) (node-mass-most i j in-x in-y)) (node-momentum-within a i j));
            no-momentum = λ a. massless w D nx ny ps on a i j;
          }

      -- ---- the velocity after gravity

      pub gravity-within : Spread D → (round : ℤ → ℕ → ℤ) → Nearest round → (g : ℤ) → Within (pos most_gravity) g → (a : Axis) (i j : ℕ) → Within (pos most_node_velocity) (after_gravity round w D g a ps i j)
      gravity-within spread round nearest g h a i j =
          velocity-within round nearest D spread g h (nat_abs (node_mass w ps i j)) (node_momentum w D a ps i j)
          (subst (λ M. Within (pos (most_momentum D) *ℤ M) (node_momentum w D a ps i j)) (nonneg_pos (node-mass-nonneg w D nx ny ps on i j)) (node-momentum-within a i j))
