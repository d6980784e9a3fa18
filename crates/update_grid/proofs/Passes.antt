-- The three passes over the nodes: after gravity, drag and rim the velocities are the definition's.
--     axis-within           one axis of nodes within their limits
--     accelerated-length    as many velocities as nodes
--     accelerated-within    no velocity after gravity is beyond its limit
--     passes                drag and then the rim leave the definition's velocities
-- Assumes nothing.
use mathlib.Core.Path.{◌≡◌, sym, ap, ◌∙◌, subst}
use mathlib.Core.Bool.{cond}
use mathlib.Core.List.{List, map}
use Prim.Native.Nat.{ℕ, ◌*◌, ◌≤◌, ◌<◌}
use lib.ListN.{length, get_or, length-map}
use lib.IntN.{ℤ, pos, nat_abs}
use Rattle.arith.specs.Size.{Bound}
use Rattle.arith.specs.Rounding.{rounded}
use Rattle.arith.specs.Sums.{Each, up_to, each-up_to}
use Rattle.arith.specs.Lists.{length-tabulated, get_or-tabulated, map_each, get_or-mapped, each_of}
use Rattle.limits.specs.Limits.{most_node_mass, most_node_velocity, most_gravity}
use Rattle.spline.specs.Kernel.{Spread}
use Rattle.apic.specs.Step.{Axis, gravity, after_drag, updated_velocity}
use Rattle.settings.specs.declared.Settings.{Settings}
use Rattle.update.specs.Update.{velocity_of, velocities}
use Rattle.update.specs.Internal.{accelerated, AxisWithin}
use Rattle.update_rim.specs.Internal.{cleared, held_at}

module _ (d n : ℕ) (g : ℤ) (mass : List ℕ) (momentum : List ℤ) where
  abbrev at : ℕ → ℤ
  at k = velocity_of d g (get_or mass k 0) (get_or momentum k (pos 0))

  pub axis-within : Spread d → length mass ≡ n → length momentum ≡ n → nat_abs g ≤ most_gravity → ((k : ℕ) → k < n → get_or mass k 0 ≤ most_node_mass) → ((k : ℕ) → k < n → get_or mass k 0 ≡ 0 → get_or momentum k (pos 0) ≡ pos 0) → AxisWithin d g mass momentum
  axis-within spread mass-is momentum-is small most massless =
      record {
        spread = spread;
        as_many = mass-is ∙ sym momentum-is;
        gravity = small;
        mass-most = λ k h. most k (subst (λ n. k < n) momentum-is h);
        massless = λ k h. massless k (subst (λ n. k < n) momentum-is h);
      }

  pub accelerated-length : length (accelerated d n g mass momentum) ≡ n
  unfolding accelerated
  accelerated-length = length-tabulated at n

  accelerated-at : (k : ℕ) → k < n → get_or (accelerated d n g mass momentum) k (pos 0) ≡ at k
  unfolding accelerated
  accelerated-at k h = get_or-tabulated at n k (pos 0) h

  pub accelerated-within : ((k : ℕ) → k < n → nat_abs (at k) ≤ most_node_velocity) → Each (λ u. Bound u most_node_velocity) (accelerated d n g mass momentum)
  accelerated-within most =
      each_of (λ u. Bound u most_node_velocity) (pos 0) (accelerated d n g mass momentum)
      (λ k h. let l : k < n = subst (λ m. k < m) accelerated-length h in subst (λ u. Bound u most_node_velocity) (sym (accelerated-at k l)) (record { size = most k l }))

module _ (d : ℕ) (s : Settings) (a : Axis) (mass : List ℕ) (momentum : List ℤ) where
  abbrev before : List ℤ
  before = accelerated d (s.nx * s.ny) (gravity s a) mass momentum

  abbrev slow : ℤ → ℤ
  slow = after_drag rounded s.drag

  long : length (map slow before) ≡ s.nx * s.ny
  long = length-map before slow ∙ accelerated-length d (s.nx * s.ny) (gravity s a) mass momentum

  slowed-at : (k : ℕ) → k < s.nx * s.ny → get_or (map slow before) k (pos 0) ≡ slow (velocity_of d (gravity s a) (get_or mass k 0) (get_or momentum k (pos 0)))
  slowed-at k h =
      get_or-mapped slow (pos 0) (pos 0) before k (subst (λ n. k < n) (sym (accelerated-length d (s.nx * s.ny) (gravity s a) mass momentum)) h)
      ∙ ap slow (accelerated-at d (s.nx * s.ny) (gravity s a) mass momentum k h)

  pub passes : cleared (held_at s a) (map slow before) ≡ velocities d s a mass momentum
  unfolding cleared velocities updated_velocity
  passes =
      ap (λ n. map (λ k. cond (held_at s a k) (pos 0) (get_or (map slow before) k (pos 0))) (up_to n)) long
      ∙ map_each _ _ (up_to (s.nx * s.ny)) (each-up_to _ (s.nx * s.ny) (λ k h. ap (λ u. cond (held_at s a k) (pos 0) u) (slowed-at k h)))
