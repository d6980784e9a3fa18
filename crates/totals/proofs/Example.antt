-- The totals of two particles in which every number is another. Assumes nothing.
use mathlib.Core.Path.{◌≡◌, refl}
use mathlib.Core.List.{List, [], ◌∷◌}
use lib.IntN.{pos, neg_ℤ}
use Rattle.particle.specs.declared.Particle.{Particle}
use Rattle.totals.specs.Totals.{totals_of, sums}

particles : List Particle
particles =
    record { identifier = 3; mass = 2; x = 70; y = 90; vx = pos 5; vy = neg_ℤ (pos 6); bxx = pos 7; bxy = neg_ℤ (pos 8); byx = pos 9; byy = neg_ℤ (pos 10); marks = 11 }
    ∷ record { identifier = 4; mass = 3; x = 100; y = 80; vx = neg_ℤ (pos 1); vy = pos 2; bxx = pos 1; bxy = pos 2; byx = neg_ℤ (pos 3); byy = pos 4; marks = 250 }
    ∷ []

six-sums : sums (totals_of particles) ≡ pos 5 ∷ pos 7 ∷ neg_ℤ (pos 6) ∷ neg_ℤ (pos 881) ∷ pos 140966 ∷ pos 261 ∷ []
unfolding particles
six-sums = refl
