-- The numbers that a caller in another language hands in and gets.
--     particle_with, header_with        a particle and a header of these numbers, of any size
--     weight_values, settings          the values of results, as lists; a particle's are its numbers (particle's specs), and those of
--                                     totals their sums (totals' specs)
-- Assumes nothing.
use Rattle.std.specs.Prelude.{List, [], ◌∷◌, ℕ, ℤ, pos}
use Rattle.spline.specs.Answers.{Three}
use Rattle.particle.specs.declared.Particle.{Particle}
use Rattle.bath_file.specs.declared.Header.{Header}

abbrev pub particle_with : ℕ → ℕ → ℕ → ℕ → ℤ → ℤ → ℤ → ℤ → ℤ → ℤ → ℕ → Particle
particle_with identifier mass x y vx vy bxx bxy byx byy marks =
    record {
      identifier = identifier;
      mass = mass;
      x = x;
      y = y;
      vx = vx;
      vy = vy;
      bxx = bxx;
      bxy = bxy;
      byx = byx;
      byy = byy;
      marks = marks;
    }

abbrev pub header_with : ℕ → ℕ → ℤ → ℤ → ℕ → ℕ → ℕ → ℕ → ℕ → Header
header_with nx ny gx gy count steps kind width drag =
    record {
      nx = nx;
      ny = ny;
      gx = gx;
      gy = gy;
      count = count;
      steps = steps;
      kind = kind;
      width = width;
      drag = drag;
    }

-- the lower, the nearest and the upper weight
abbrev pub weight_values : Three → List ℤ
weight_values w = w.lower ∷ w.nearest ∷ w.upper ∷ []

-- Nx, Ny, gx, gy, count, steps, kind, width, drag
abbrev pub settings : Header → List ℤ
settings h = pos h.nx ∷ pos h.ny ∷ h.gx ∷ h.gy ∷ pos h.count ∷ pos h.steps ∷ pos h.kind ∷ pos h.width ∷ pos h.drag ∷ []
