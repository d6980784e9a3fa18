-- The checks that a set decides of a record, one law for each way out. Assumes nothing.
use mathlib.Core.Path.{◌≡◌}
use mathlib.Core.Bool.{true, false}
use Prim.Native.Nat.{ℕ, ◌+◌, ◌≤◌, ◌<◌}
use borrow.Author.Tests.{lt-ltb, le-ltb}
use Rattle.refusal.specs.Refused.{gives, refused}
use Rattle.limits.specs.Limits.{most_total_mass}
use Rattle.spline.specs.Spline.{on_axis}
use Rattle.particle.specs.declared.Particle.{Particle}
use Rattle.particles.specs.declared.Entry.{Entry}
use Rattle.particles.specs.Set.{checked_particle}
use Rattle.particles.specs.Walk.{followed, check_particle}

module _ (nx ny k : ℕ) (e : Entry) (p : Particle) where
  pub off-x : on_axis nx p.x ≡ false → check_particle nx ny k e p ≡ refused 7 k
  unfolding checked_particle
  off-x x = rw x

  pub off-y : on_axis nx p.x ≡ true → on_axis ny p.y ≡ false → check_particle nx ny k e p ≡ refused 7 k
  unfolding checked_particle
  off-y x y = rw (x, y)

  pub not-above : on_axis nx p.x ≡ true → on_axis ny p.y ≡ true → p.identifier < e.least → check_particle nx ny k e p ≡ refused 8 k
  unfolding checked_particle
  not-above x y h = rw (x, y, lt-ltb p.identifier e.least h)

  pub too-heavy : on_axis nx p.x ≡ true → on_axis ny p.y ≡ true → e.least ≤ p.identifier → most_total_mass < e.mass + p.mass → check_particle nx ny k e p ≡ refused 9 k
  unfolding checked_particle
  too-heavy x y h m = rw (x, y, le-ltb p.identifier e.least h, lt-ltb most_total_mass (e.mass + p.mass) m)

  pub goes_on : on_axis nx p.x ≡ true → on_axis ny p.y ≡ true → e.least ≤ p.identifier → e.mass + p.mass ≤ most_total_mass → check_particle nx ny k e p ≡ gives (followed e p)
  unfolding checked_particle
  goes_on x y h m = rw (x, y, le-ltb p.identifier e.least h, le-ltb most_total_mass (e.mass + p.mass) m)
