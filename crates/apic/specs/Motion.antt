-- Document 02, request 3: what motion tells of particles, first over any weights with the moments and any D, then of particles
-- within their limits with the spline's.
--     MotionIsCarried, SplineMotion     motion is what the particles carry to the nodes
--     MotionIsRest                      motion is 0 exactly where every velocity and every entry of B is
--     MotionWithin, SplineMotionBelow   how large motion is at most
-- Assumes nothing.
use Rattle.std.specs.Prelude.{◌≡◌, List, ℕ, ◌+◌, ◌*◌, ◌^◌, ◌<◌, ℤ, pos, ◌+ℤ◌, ◌*ℤ◌, ◌≤ℤ◌, ◌<ℤ◌}
use Rattle.arith.specs.Sums.{Each, sum_over}
use Rattle.limits.specs.Limits.{most_velocity, most_affine}
use Rattle.spline.specs.Spline.{axis_weight}
use Rattle.spline.specs.Moments.{Moments}
use Rattle.particle.specs.declared.Particle.{Particle}
use Rattle.apic.specs.Step.{along_x, along_y, weight, carried, over_nodes}
use Rattle.apic.specs.Totals.{total_mass, motion}
use Rattle.apic.specs.Limits.{ParticleLimits, SetLimits}

-- ---- what the particles carry to the nodes

-- a particle whose weights have the moments on both axes
pub record Placed (w : ℕ → ℕ → ℤ) (D nx ny : ℕ) (p : Particle) : Type 0 where
  pub along-x : Moments (pos D) nx p.x (w p.x)
  pub along-y : Moments (pos D) ny p.y (w p.y)

-- |D·v + B·d|², both axes: D² times the squared velocity that a particle carries to node (i, j)
abbrev pub carried_square : ℕ → Particle → ℕ → ℕ → ℤ
carried_square D p i j = carried D along_x p i j *ℤ carried D along_x p i j +ℤ carried D along_y p i j *ℤ carried D along_y p i j

-- Σ m·w·|D·v + B·d|² over each particle and every node
abbrev pub carried_motion : (ℕ → ℕ → ℤ) → ℕ → ℕ → ℕ → List Particle → ℤ
carried_motion w D nx ny ps =
    sum_over ps (λ p. over_nodes nx ny (λ i j. pos p.mass *ℤ weight w p i j *ℤ carried_square D p i j))

abbrev pub MotionIsCarried : Type 0
MotionIsCarried =
    (w : ℕ → ℕ → ℤ) (D nx ny : ℕ) (ps : List Particle) → Each (Placed w D nx ny) ps → pos (2 ^ 26 * D) *ℤ motion D ps ≡ carried_motion w D nx ny ps

-- the engine's weights, whose D is 1024
abbrev pub SplineMotion : Type 0
SplineMotion =
    (nx ny : ℕ) (ps : List Particle) → Each (ParticleLimits nx ny) ps → pos (2 ^ 26 * 1024) *ℤ motion 1024 ps ≡ carried_motion axis_weight 1024 nx ny ps

-- ---- rest

pub record AtRest (p : Particle) : Type 0 where
  pub vx : p.vx ≡ pos 0
  pub vy : p.vy ≡ pos 0
  pub bxx : p.bxx ≡ pos 0
  pub bxy : p.bxy ≡ pos 0
  pub byx : p.byx ≡ pos 0
  pub byy : p.byy ≡ pos 0

pub record ZeroAtRest (D : ℕ) (ps : List Particle) : Type 0 where
  pub zero-rests : motion D ps ≡ pos 0 → Each AtRest ps
  pub rest-zero : Each AtRest ps → motion D ps ≡ pos 0

abbrev pub MotionIsRest : Type 0
MotionIsRest =
    (D : ℕ) (ps : List Particle) → 0 < D → Each (λ p. 0 < p.mass) ps → ZeroAtRest D ps

-- ---- size

-- a particle's motion for each unit of its mass, at most: two velocities of 63 and four B entries of 2047
abbrev pub most_motion : ℕ → ℕ
most_motion D = 2 * most_velocity ^ 2 * D + 4 * most_affine ^ 2

pub record MotionBounds (D : ℕ) (ps : List Particle) : Type 0 where
  pub least : pos 0 ≤ℤ motion D ps
  pub most : motion D ps ≤ℤ pos (total_mass ps * most_motion D)

abbrev pub MotionWithin : Type 0
MotionWithin = (D nx ny : ℕ) (ps : List Particle) → Each (ParticleLimits nx ny) ps → MotionBounds D ps

-- 24,889,348 for each unit of mass with D = 1024, and so below 2^42 for a set's mass
abbrev pub SplineMotionBelow : Type 0
SplineMotionBelow = (nx ny : ℕ) (ps : List Particle) → SetLimits nx ny ps → motion 1024 ps <ℤ pos (2 ^ 42)
