-- What motion tells: it is what the particles carry to the nodes, it is 0 at rest alone, and its size.
--     motion-carried, spline-motion     2^26·D·motion = Σ m·W·|D·v + B·d|²
--     motion-rest                       motion is 0 exactly where every particle is at rest
--     motion-within, spline-below       0 ≤ motion ≤ most_motion·mass, below 2^42 for a set
-- Assumes nothing.
use mathlib.Core.Path.{◌≡◌, sym, ap, ◌∙◌, subst}
use mathlib.Core.List.{List, [], ◌∷◌}
use Prim.Native.Nat.{ℕ, ◌^◌, ◌<◌}
use native.Mathlib.Nat.{le_refl}
use native.Mathlib.Omega.{arith}
use lib.IntN.{ℤ, pos, ◌+ℤ◌, ◌*ℤ◌}
use lib.Signed.{◌≤ℤ◌}
use Rattle.arith.specs.Ring.{*ℤ-assoc, *ℤ-left-comm}
use Rattle.arith.specs.Solver.{ring, quote}
use Rattle.arith.specs.Order.{linear, reading, pos-nonneg, pos-positive, +ℤ-mono, *ℤ-nonneg, *ℤ-mono-left, both_zero, factor-zero, square-nonneg, square-zero}
use Rattle.arith.specs.Size.{Bound, sizes, bounded-by, bound-pos, bound-within}
use Rattle.arith.specs.Sums.{Each, sum-cong, sum-scale, sum-scale-right, sum_mono, sum_nonneg, sum-zero, total-pos, each_map, each_all}
use Rattle.limits.specs.Limits.{most_velocity, most_affine}
use Rattle.spline.specs.Spline.{axis_weight}
use Rattle.particle.specs.declared.Particle.{Particle}
use Rattle.apic.specs.Step.{along_x, along_y, apart, weight}
use Rattle.apic.specs.Totals.{motion_per_mass, motion}
use Rattle.apic.specs.Limits.{ParticleLimits}
use Rattle.apic.specs.Motion.{carried_square, AtRest, most_motion, MotionIsCarried, SplineMotion, MotionIsRest, MotionWithin, SplineMotionBelow}
use Rattle.apic.proofs.Quadratic.{Quadratic, at}
use Rattle.apic.proofs.Scatter.{particle-sum}
use Rattle.apic.proofs.Spline.{spline-lawful}

-- ---- what the particles carry to the nodes

-- |D·v + B·d|² as a quadratic in the offsets
quadratic : ℕ → Particle → Quadratic
quadratic D p =
    record {
      constant = pos D *ℤ pos D *ℤ (p.vx *ℤ p.vx +ℤ p.vy *ℤ p.vy);
      x = pos 2 *ℤ pos D *ℤ (p.vx *ℤ p.bxx +ℤ p.vy *ℤ p.byx);
      y = pos 2 *ℤ pos D *ℤ (p.vx *ℤ p.bxy +ℤ p.vy *ℤ p.byy);
      xx = p.bxx *ℤ p.bxx +ℤ p.byx *ℤ p.byx;
      xy = pos 2 *ℤ (p.bxx *ℤ p.bxy +ℤ p.byx *ℤ p.byy);
      yy = p.bxy *ℤ p.bxy +ℤ p.byy *ℤ p.byy;
    }

pub motion-carried : MotionIsCarried
unfolding quadratic
motion-carried w D nx ny ps on =
    sym
    (particle-sum w D nx ny ps on (λ p i j. pos p.mass *ℤ weight w p i j *ℤ carried_square D p i j) (quadratic D) (λ p. pos D *ℤ motion_per_mass D p) share kept
    ∙ ap (λ s. pos (2 ^ 26) *ℤ s)
    (sum-cong _ _ (λ p. *ℤ-left-comm (pos p.mass) (pos D) (motion_per_mass D p)) ps
    ∙ sum-scale (pos D) (λ p. pos p.mass *ℤ motion_per_mass D p) ps)
    ∙ sym (*ℤ-assoc (pos (2 ^ 26)) (pos D) (motion D ps)))
  where
    share : (p : Particle) (i j : ℕ) → pos p.mass *ℤ weight w p i j *ℤ carried_square D p i j ≡ pos p.mass *ℤ weight w p i j *ℤ at (quadratic D p) (apart along_x p i j) (apart along_y p i j)
    share p i j =
        ap (λ s. pos p.mass *ℤ weight w p i j *ℤ s)
        (squared (pos D) (apart along_x p i j) (apart along_y p i j) p.vx p.vy p.bxx p.bxy p.byx p.byy)
      where
        squared : (D dx dy vx vy bxx bxy byx byy : ℤ) → (D *ℤ vx +ℤ bxx *ℤ dx +ℤ bxy *ℤ dy) *ℤ (D *ℤ vx +ℤ bxx *ℤ dx +ℤ bxy *ℤ dy) +ℤ (D *ℤ vy +ℤ byx *ℤ dx +ℤ byy *ℤ dy) *ℤ (D *ℤ vy +ℤ byx *ℤ dx +ℤ byy *ℤ dy) ≡ D *ℤ D *ℤ (vx *ℤ vx +ℤ vy *ℤ vy) +ℤ pos 2 *ℤ D *ℤ (vx *ℤ bxx +ℤ vy *ℤ byx) *ℤ dx +ℤ pos 2 *ℤ D *ℤ (vx *ℤ bxy +ℤ vy *ℤ byy) *ℤ dy +ℤ (bxx *ℤ bxx +ℤ byx *ℤ byx) *ℤ (dx *ℤ dx) +ℤ pos 2 *ℤ (bxx *ℤ bxy +ℤ byx *ℤ byy) *ℤ (dx *ℤ dy) +ℤ (bxy *ℤ bxy +ℤ byy *ℤ byy) *ℤ (dy *ℤ dy)
        squared D dx dy vx vy bxx bxy byx byy = ring (D ∷ dx ∷ dy ∷ vx ∷ vy ∷ bxx ∷ bxy ∷ byx ∷ byy ∷ []) (search quote depth 40 fits 40000) (search quote depth 40 fits 40000) tt

    kept : (p : Particle) → (quadratic D p).constant +ℤ pos D *ℤ ((quadratic D p).xx +ℤ (quadratic D p).yy) ≡ pos D *ℤ motion_per_mass D p
    kept p = total (pos D) p.vx p.vy p.bxx p.bxy p.byx p.byy
      where
        total : (D vx vy bxx bxy byx byy : ℤ) → D *ℤ D *ℤ (vx *ℤ vx +ℤ vy *ℤ vy) +ℤ D *ℤ (bxx *ℤ bxx +ℤ byx *ℤ byx +ℤ (bxy *ℤ bxy +ℤ byy *ℤ byy)) ≡ D *ℤ (D *ℤ (vx *ℤ vx +ℤ vy *ℤ vy) +ℤ (bxx *ℤ bxx +ℤ bxy *ℤ bxy +ℤ byx *ℤ byx +ℤ byy *ℤ byy))
        total D vx vy bxx bxy byx byy = ring (D ∷ vx ∷ vy ∷ bxx ∷ bxy ∷ byx ∷ byy ∷ []) (search quote depth 30 fits 20000) (search quote depth 30 fits 20000) tt

pub spline-motion : SplineMotion
spline-motion nx ny ps limits = motion-carried axis_weight 1024 nx ny ps (spline-lawful.placed nx ny ps limits)

-- ---- rest

-- a sum with a square
with-square : {s : ℤ} (b : ℤ) → pos 0 ≤ℤ s → pos 0 ≤ℤ (s +ℤ b *ℤ b)
with-square b h = +ℤ-mono h (square-nonneg b)

without-square : {s : ℤ} (b : ℤ) → pos 0 ≤ℤ s → s +ℤ b *ℤ b ≡ pos 0 → (s ≡ pos 0) × (b ≡ pos 0)
without-square b h e = let both = both_zero h (square-nonneg b) e in (both.0, square-zero both.1)

module _ (D : ℕ) (p : Particle) where
  straight-nonneg : pos 0 ≤ℤ (pos D *ℤ (p.vx *ℤ p.vx +ℤ p.vy *ℤ p.vy))
  straight-nonneg = *ℤ-nonneg (pos-nonneg D) (with-square p.vy (square-nonneg p.vx))

  turning-nonneg : pos 0 ≤ℤ (p.bxx *ℤ p.bxx +ℤ p.bxy *ℤ p.bxy +ℤ p.byx *ℤ p.byx +ℤ p.byy *ℤ p.byy)
  turning-nonneg = with-square p.byy (with-square p.byx (with-square p.bxy (square-nonneg p.bxx)))

  per-mass-nonneg : pos 0 ≤ℤ motion_per_mass D p
  per-mass-nonneg = +ℤ-mono straight-nonneg turning-nonneg

  motion-share-nonneg : pos 0 ≤ℤ (pos p.mass *ℤ motion_per_mass D p)
  motion-share-nonneg = *ℤ-nonneg (pos-nonneg p.mass) per-mass-nonneg

  rests : 0 < D → motion_per_mass D p ≡ pos 0 → AtRest p
  rests some e =
      let both = both_zero straight-nonneg turning-nonneg e in
      let v = without-square p.vy (square-nonneg p.vx) (factor-zero (pos-positive some) both.0) in
      let byy = without-square p.byy (with-square p.byx (with-square p.bxy (square-nonneg p.bxx))) both.1 in
      let byx = without-square p.byx (with-square p.bxy (square-nonneg p.bxx)) byy.0 in
      let bxy = without-square p.bxy (square-nonneg p.bxx) byx.0 in
      record {
        vx = square-zero v.0;
        vy = v.1;
        bxx = square-zero bxy.0;
        bxy = bxy.1;
        byx = byx.1;
        byy = byy.1;
      }

  rested : AtRest p → pos p.mass *ℤ motion_per_mass D p ≡ pos 0
  rested r =
      (λ i. pos p.mass *ℤ (pos D *ℤ (r.vx i *ℤ r.vx i +ℤ r.vy i *ℤ r.vy i) +ℤ (r.bxx i *ℤ r.bxx i +ℤ r.bxy i *ℤ r.bxy i +ℤ r.byx i *ℤ r.byx i +ℤ r.byy i *ℤ r.byy i)))
      ∙ nothing_left (pos p.mass) (pos D)
    where
      nothing_left : (m D : ℤ) → m *ℤ (D *ℤ (pos 0 *ℤ pos 0 +ℤ pos 0 *ℤ pos 0) +ℤ (pos 0 *ℤ pos 0 +ℤ pos 0 *ℤ pos 0 +ℤ pos 0 *ℤ pos 0 +ℤ pos 0 *ℤ pos 0)) ≡ pos 0
      nothing_left m D = ring (m ∷ D ∷ []) (search quote depth 30) (search quote depth 30) tt

motion-nonneg : (D : ℕ) (ps : List Particle) → pos 0 ≤ℤ motion D ps
motion-nonneg D ps = sum_nonneg (λ p. pos p.mass *ℤ motion_per_mass D p) ps (each_all _ (motion-share-nonneg D) ps)

pub motion-rest : MotionIsRest
motion-rest D ps some massive =
    record {
      zero-rests = go ps massive;
      rest-zero = λ r. sum-zero _ ps (each_map AtRest (λ p. pos p.mass *ℤ motion_per_mass D p ≡ pos 0) (rested D) ps r);
    }
  where
    go : (ps : List Particle) → Each (λ p. 0 < p.mass) ps → motion D ps ≡ pos 0 → Each AtRest ps
    go [] massive e = tt
    go (p ∷ ps) massive e =
        let both = both_zero (motion-share-nonneg D p) (motion-nonneg D ps) e in
        (rests D p some (factor-zero (pos-positive massive.0) both.0), go ps massive.1 both.1)

-- ---- size

per-mass-most : (D nx ny : ℕ) (p : Particle) → ParticleLimits nx ny p → motion_per_mass D p ≤ℤ pos (most_motion D)
per-mass-most D nx ny p h =
    let bound-D : Bound (pos D) D = bound-pos (le_refl D) in
    let vx : Bound p.vx most_velocity = record { size = h.vx } in
    let vy : Bound p.vy most_velocity = record { size = h.vy } in
    let bxx : Bound p.bxx most_affine = record { size = h.bxx } in
    let bxy : Bound p.bxy most_affine = record { size = h.bxy } in
    let byx : Bound p.byx most_affine = record { size = h.byx } in
    let byy : Bound p.byy most_affine = record { size = h.byy } in
    (bound-within {z = motion_per_mass D p} {n = most_motion D} (bounded-by (search sizes depth 20) (omega arith))).high

pub motion-within : MotionWithin
motion-within D nx ny ps limits =
    record {
      least = motion-nonneg D ps;
      most =
          subst (λ s. motion D ps ≤ℤ s) (sum-scale-right (pos (most_motion D)) (λ p. pos p.mass) ps ∙ ap (λ m. m *ℤ pos (most_motion D)) (sym (total-pos (λ p. p.mass) ps)))
          (sum_mono (λ p. pos p.mass *ℤ motion_per_mass D p) (λ p. pos p.mass *ℤ pos (most_motion D)) ps
          (each_map (ParticleLimits nx ny) (λ p. (pos p.mass *ℤ motion_per_mass D p) ≤ℤ (pos p.mass *ℤ pos (most_motion D))) (λ p h. *ℤ-mono-left (pos-nonneg p.mass) (per-mass-most D nx ny p h)) ps limits));
    }

pub spline-below : SplineMotionBelow
spline-below nx ny ps h =
    linear (motion 1024 ps ∷ []) (motion-within 1024 nx ny ps h.each).most (search reading depth 30) (omega (arith, h.mass))
