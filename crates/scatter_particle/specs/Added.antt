-- The particle-to-grid transfer, added to what the grids held, for any axis weights w and their D.
-- Document 01, "Scatter": node mass = sum of m·w, node momentum on axis a = sum of m·w·(D·va + Bax·dx + Bay·dy).
-- Assumes nothing.
use Rattle.std.specs.Prelude.{◌≡◌, List, ℕ, ◌*◌, ◌≤◌, ℤ}
use Rattle.arith.specs.Size.{Bound}
use Rattle.limits.specs.Limits.{most_velocity, most_affine}
use Rattle.spline.specs.Spline.{displacement, nearest_node}
use Rattle.spline.specs.Kernel.{most_d, Kernel}
use Rattle.particle.specs.declared.Particle.{Particle}
use Rattle.apic.specs.Step.{along_x, along_y, node_mass, node_momentum}
use Rattle.apic.specs.Limits.{SizeLimits, ParticleLimits}
use Rattle.grid_cells.specs.Plus.{plus, mass_plus}
use Rattle.scatter_block.specs.Lines.{Held, most_before}

-- the grids after the particles' shares are added to what they held
pub record Added (w : ℕ → ℕ → ℤ) (D nx ny : ℕ) (ps : List Particle) (mass : List ℕ) (px py : List ℤ) (mass' : List ℕ) (px' py' : List ℤ) : Type 0 where
  pub of-mass : mass' ≡ mass_plus nx ny mass (node_mass w ps)
  pub of-px : px' ≡ plus nx ny px (node_momentum w D along_x ps)
  pub of-py : py' ≡ plus nx ny py (node_momentum w D along_y ps)

-- ---- what the functions are called with

pub record ParticleReady (nx ny : ℕ) (p : Particle) (table : List (List ℕ)) (D : ℕ) (mass : List ℕ) (px py : List ℤ) : Type 0 where
  pub sizes : SizeLimits nx ny
  pub limits : ParticleLimits nx ny p
  pub kernel : Kernel table D
  pub held : Held most_before (nx * ny) mass px py

-- the particle of these numbers, with identifier 0 and no marks: no transfer reads them
abbrev pub unlabelled : ℕ → ℕ → ℕ → ℤ → ℤ → ℤ → ℤ → ℤ → ℤ → Particle
unlabelled m x y vx vy bxx bxy byx byy =
    record {
      identifier = 0;
      mass = m;
      x = x;
      y = y;
      vx = vx;
      vy = vy;
      bxx = bxx;
      bxy = bxy;
      byx = byx;
      byy = byy;
      marks = 0;
    }

-- the nearest node minus particle, along one axis
pub record Middle (x : ℕ) (d : ℤ) : Type 0 where
  pub is : d ≡ displacement x (nearest_node x)
  pub most : Bound d 32

pub record SpeedLimits (D : ℕ) (v bx by dx dy : ℤ) : Type 0 where
  pub D-most : D ≤ most_d
  pub v-most : Bound v most_velocity
  pub bx-most : Bound bx most_affine
  pub by_most : Bound by most_affine
  pub dx-most : Bound dx 32
  pub dy-most : Bound dy 32
