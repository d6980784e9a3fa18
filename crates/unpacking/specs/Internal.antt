-- What the helpers ask. Assumes nothing.
use Rattle.std.specs.Prelude.{◌<◌}
use Rattle.particle.specs.declared.Particle.{Particle}

-- a particle whose mass and place are numbers of 16 bits with sign
pub record Narrow (p : Particle) : Type 0 where
  pub mass : p.mass < 32768
  pub x : p.x < 32768
  pub y : p.y < 32768
