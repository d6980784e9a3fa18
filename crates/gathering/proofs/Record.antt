-- One record of a particle set: what its numbers are, and what its move is.
--     Placed, placed      the nine nodes of a particle that stands in an array are on the grid
--     on-axis             a coordinate on an axis, as a number
--     x-axis, y-axis      its velocities after the gather
--     storable            a record that passes its checks fits its place
--     moves               the helper `settle` makes the move
-- Assumes nothing.
use Rattle.std.proofs.Common.{Result}
use mathlib.Core.Path.{◌≡◌, refl, ◌∙◌}
use mathlib.Core.List.{List}
use Prim.Native.Nat.{ℕ, ◌+◌, ◌-◌, ◌*◌, ◌≤◌, ◌<◌}
use native.Mathlib.Omega.{arith}
use lib.Dec.{T, leb, leb→le}
use lib.ListN.{length}
use lib.IntN.{ℤ, pos, nat_abs, ◌+ℤ◌}
use mir.Facts.{and_yes}
use Rattle.arith.specs.Size.{bound-widen}
use Rattle.limits.specs.Limits.{most_side, most_velocity, most_affine, most_position}
use Rattle.refusal.specs.declared.Refusal.{Refusal}
use Rattle.spline.specs.Spline.{nearest_node, on_axis}
use Rattle.spline.proofs.Axis.{Touched, touched}
use Rattle.refusal.specs.Refused.{gives, kept_unless, told}
use Rattle.particle.specs.declared.Particle.{Particle}
use Rattle.apic.specs.Step.{moved, gathered_affine}
use Rattle.apic.specs.Limits.{SizeLimits}
use Rattle.unpacked.specs.Unpacked.{per_particle, HoldsAt}
use Rattle.gather_point.specs.declared.AffineVelocity.{AffineVelocity}
use Rattle.gather_point.specs.Point.{Around}
use Rattle.gathering.specs.Gather.{gathered, move_check, NodeVelocities}
use Rattle.gathering.specs.Parts.{check_of, Narrow, particle_stored, moved_stored, Storable, Settled, MovesOne, along_x_of, along_y_of}
use Rattle.gather_point.proofs.Nodes.{axis_of, nodes-inside}
use Rattle.gathering.proofs.Checks.{checked}

pub on-axis : (n x : ℕ) → n ≤ most_side → T (on_axis n x) → (32 ≤ x) × (x ≤ most_position)
unfolding on_axis
on-axis n x most t =
    let l = leb→le 32 x (and_yes (leb 32 x) (leb x (64 * (n - 1) - 33)) t).0 in
    let h = leb→le x (64 * (n - 1) - 33) (and_yes (leb 32 x) (leb x (64 * (n - 1) - 33)) t).1 in
    (l, omega arith)

pub record Placed (nx ny : ℕ) (ux uy : List ℤ) (p : Particle) : Type 0 where
  pub on-x : Touched nx p.x
  pub on-y : Touched ny p.y
  pub around : Around nx p.x p.y ux uy

pub placed : {nx ny : ℕ} {source ux uy : List ℤ} {k : ℕ} {p : Particle} → NodeVelocities nx ny ux → NodeVelocities nx ny uy → HoldsAt nx ny source k p → Placed nx ny ux uy p
placed {nx} {ny} {ux} {uy} {p} x-velocities y-velocities h =
    record {
      on-x = touched nx p.x h.limits.x-on;
      on-y = touched ny p.y h.limits.y-on;
      around =
          record {
            columns = h.sizes.x-most;
            x-least = x-on.0;
            x-most = x-on.1;
            y-least = y-on.0;
            y-most = y-on.1;
            x-nodes = nodes ux x-velocities;
            y-nodes = nodes uy y-velocities;
            x-each = x-velocities.each;
            y-each = y-velocities.each;
          };
    }
  where
    x-on : (32 ≤ p.x) × (p.x ≤ most_position)
    x-on = on-axis nx p.x h.sizes.x-most h.limits.x-on

    y-on : (32 ≤ p.y) × (p.y ≤ most_position)
    y-on = on-axis ny p.y h.sizes.y-most h.limits.y-on

    nodes : (u : List ℤ) → NodeVelocities nx ny u → (nearest_node p.y - 1) * nx + (nearest_node p.x - 1) + 2 * nx + 2 < length u
    nodes u v = nodes-inside nx ny p.x p.y (length u) (touched nx p.x h.limits.x-on) (touched ny p.y h.limits.y-on) v.count

-- a record that passes its checks can be stored
pub storable : (index nx ny at : ℕ) {mass x y : ℤ} {a b : AffineVelocity} {target : List ℤ} → SizeLimits nx ny → at + per_particle ≤ length target → Narrow mass → check_of index nx ny x y a b ≡ gives tt → Storable at mass x y a b target
unfolding check_of
storable index nx ny at {x = x} {y = y} {a = a} {b = b} sizes room mass e =
    let h = (checked nx ny x y a.v b.v a.bx a.by b.bx b.by index (gives tt) e).0 in
    record {
      room = room;
      mass-size = mass;
      x-size = small most_position x tt (on-axis nx (nat_abs x) sizes.x-most h.x.1).1;
      y-size = small most_position y tt (on-axis ny (nat_abs y) sizes.y-most h.y.1).1;
      vx-size = small most_velocity a.v tt h.vx;
      vy-size = small most_velocity b.v tt h.vy;
      bxx-size = small most_affine a.bx tt h.bxx;
      bxy-size = small most_affine a.by tt h.bxy;
      byx-size = small most_affine b.bx tt h.byx;
      byy-size = small most_affine b.by tt h.byy;
    }
  where
    small : (n : ℕ) (z : ℤ) → T (leb n 32767) → nat_abs z ≤ n → Narrow z
    small n z t l = bound-widen (leb→le n 32767 t) (record { size = l })

pub moves : (nx ny index k : ℕ) (p q : Particle) {mass x y : ℤ} {a b : AffineVelocity} {target target' : List ℤ} {r : Result Unit Refusal} → Settled index k nx ny mass (x +ℤ a.v) (y +ℤ b.v) a b target target' r → mass ≡ pos p.mass → x ≡ pos p.x → y ≡ pos p.y → a ≡ along_x_of q → b ≡ along_y_of q → MovesOne nx ny index k p q target target' r
unfolding check_of move_check moved_stored
moves nx ny index k p q {target} {r} s is-mass is_x is_y is-a is_b =
    record {
      answer = s.answer ∙ (λ i. check_of index nx ny (is_x i +ℤ (is-a i).v) (is_y i +ℤ (is_b i).v) (is-a i) (is_b i));
      target_is =
          s.target_is
          ∙ (λ i. kept_unless (told r) (particle_stored target (per_particle * k) (is-mass i) (is_x i +ℤ (is-a i).v) (is_y i +ℤ (is_b i).v) (is-a i) (is_b i)) target);
    }

-- a particle's own axes after the gather
pub x-axis : (w : ℕ → ℕ → ℤ) (nx ny : ℕ) (ux uy : List ℤ) (p : Particle) → axis_of w nx ny ux p ≡ along_x_of (gathered w nx ny ux uy p)
unfolding moved gathered_affine
x-axis w nx ny ux uy p = refl

pub y-axis : (w : ℕ → ℕ → ℤ) (nx ny : ℕ) (ux uy : List ℤ) (p : Particle) → axis_of w nx ny uy p ≡ along_y_of (gathered w nx ny ux uy p)
unfolding moved gathered_affine
y-axis w nx ny ux uy p = refl
