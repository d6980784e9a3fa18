-- A step of particles in an affine flow, over any weights with the moments and any D.
--     flow-weighs        each particle weighs the updated velocities as it does u
--     flow-moved         so one that passes the checks is moved by its v
--     flow-comes-back    the theorem
--     entries-nodes, nodes-entries, whole-by-entries, spline-divides, drift-divides
--                        where the nodes' velocities are whole numbers of 256ths
-- Assumes nothing.
use mathlib.Core.Path.{◌≡◌, refl, ap, ◌∙◌, subst}
use mathlib.Core.List.{List, [], ◌∷◌}
use Prim.Native.Nat.{ℕ, ◌/◌, ◌<◌}
use native.Mathlib.Omega.{arith}
use lib.IntN.{ℤ, pos, nat_abs, ◌+ℤ◌, ◌-ℤ◌, ◌*ℤ◌, *ℤ-zero}
use lib.Signed.{pos-nat_abs}
use Rattle.arith.specs.Solver.{ring, quote}
use Rattle.arith.specs.Rounding.{rounded}
use Rattle.arith.proofs.Rounding.{rounded-error}
use Rattle.arith.specs.Sums.{Each}
use Rattle.particle.specs.declared.Particle.{Particle}
use Rattle.settings.specs.declared.Settings.{Settings}
use Rattle.apic.specs.Step.{Axis, along_x, along_y, coordinate, velocity, affine, node_mass, node_momentum, node_velocity, new_coordinate, moved, node}
use Rattle.apic.specs.Motion.{Placed}
use Rattle.apic.proofs.Quadratic.{Whole}
use Rattle.apic.proofs.Edges.{plain-updated}
use Rattle.apic.proofs.Weighed.{Weighs, massive-weighs}
use Rattle.gathering.proofs.Checks.{Passed}
use Rattle.simulation.specs.Step.{velocities_by, move_by, stepped_by}
use Rattle.simulation.proofs.Fields.{field}
use Rattle.simulation.proofs.Steps.{step-result, all-passed}
use Rattle.affine_flow.specs.Flow.{Flow, Follows, drift, Unforced, MovedBy, EachPair, WholeAtNodes, Divides, WholeByEntries, SplineDivides, FlowComesBack}
use Rattle.affine_flow.proofs.Pairs.{pair-images}
use Rattle.affine_flow.proofs.Nodes.{flow-velocity, flow-gathered, flow-affine}

module _ (w : ℕ → ℕ → ℤ) (D : ℕ) (whole : Whole D) (s : Settings) (unforced : Unforced s) (f : Flow) (nodes : WholeAtNodes D f s.nx s.ny) (ps : List Particle) where
  -- the node velocities after the update
  abbrev updated : Axis → ℕ → ℕ → ℤ
  updated a = node s.nx (velocities_by w D s a ps)

  abbrev move : Particle → Particle
  move = move_by w D s ps

  flow-weighs : Each (Placed w D s.nx s.ny) ps → Each (λ p. 0 < p.mass) ps → Each (Follows D (D / 256) f) ps → (a : Axis) → Each (Weighs w s.nx s.ny (updated a) (nodes.u a)) ps
  flow-weighs on massive follows a =
      massive-weighs w D s.nx s.ny ps on massive (updated a) (nodes.u a) (λ i j in-x in-y M e.
      field w D s ps a i j in-x in-y
      ∙ plain-updated rounded rounded-error D s unforced.plain a i j (nat_abs (node_mass w ps i j)) (node_momentum w D a ps i j)
      ∙ (λ t. node_velocity rounded D (unforced.no-gravity a t) (e t) (node_momentum w D a ps i j))
      ∙ flow-velocity D whole f nodes a w ps on follows i j in-x in-y M e)

  module _ (p : Particle) (placed : Placed w D s.nx s.ny p) (follows : Follows D (D / 256) f p) (on-x : Weighs w s.nx s.ny (updated along_x) (nodes.u along_x) p) (on-y : Weighs w s.nx s.ny (updated along_y) (nodes.u along_y) p) where
    velocity-kept : (a : Axis) → velocity a (move p) ≡ velocity a p
    unfolding moved
    velocity-kept along_x = flow-gathered D whole f nodes along_x placed follows on-x
    velocity-kept along_y = flow-gathered D whole f nodes along_y placed follows on-y

    affine-kept : (a b : Axis) → affine a b (move p) ≡ affine a b p
    unfolding moved
    affine-kept along_x along_x = flow-affine D whole f nodes along_x placed follows on-x along_x
    affine-kept along_x along_y = flow-affine D whole f nodes along_x placed follows on-x along_y
    affine-kept along_y along_x = flow-affine D whole f nodes along_y placed follows on-y along_x
    affine-kept along_y along_y = flow-affine D whole f nodes along_y placed follows on-y along_y

    once : (x v : ℤ) → x +ℤ v ≡ x +ℤ pos 1 *ℤ v
    once x v = ring (x ∷ v ∷ []) (search quote depth 30) (search quote depth 30) tt

    place-moved : Passed s.nx s.ny p (move p) → (a : Axis) → pos (coordinate a (move p)) ≡ pos (coordinate a p) +ℤ pos 1 *ℤ velocity a p
    unfolding moved
    place-moved m along_x =
        pos-nat_abs (new_coordinate along_x p (move p).vx) m.x.0 ∙ ap (new_coordinate along_x p) (velocity-kept along_x) ∙ once (pos p.x) p.vx
    place-moved m along_y =
        pos-nat_abs (new_coordinate along_y p (move p).vy) m.y.0 ∙ ap (new_coordinate along_y p) (velocity-kept along_y) ∙ once (pos p.y) p.vy

    flow-moved : Passed s.nx s.ny p (move p) → MovedBy 1 p (move p)
    unfolding moved
    flow-moved m =
        record {
          same-velocity = velocity-kept;
          same-affine = affine-kept;
          same-identifier = refl;
          same-mass = refl;
          same-marks = refl;
          new-place = place-moved m;
        }

  each-moved : (qs : List Particle) → Each (Placed w D s.nx s.ny) qs → Each (Follows D (D / 256) f) qs → Each (Weighs w s.nx s.ny (updated along_x) (nodes.u along_x)) qs → Each (Weighs w s.nx s.ny (updated along_y) (nodes.u along_y)) qs → Each (λ p. Passed s.nx s.ny p (move p)) qs → Each (λ p. MovedBy 1 p (move p)) qs
  each-moved [] on follows on-x on-y passed = tt
  each-moved (q ∷ qs) on follows on-x on-y passed = (
    flow-moved q on.0 follows.0 on-x.0 on-y.0 passed.0,
    each-moved qs on.1 follows.1 on-x.1 on-y.1 passed.1,
  )

pub flow-comes-back : FlowComesBack
unfolding stepped_by
flow-comes-back w D k multiple some s unforced f nodes ps on massive at-k qs e =
    let whole : Whole D = record { some = omega arith; times = omega arith } in
    let follows : Each (Follows D (D / 256) f) ps = subst (λ k. Each (Follows D k f) ps) (omega arith) at-k in
    let stepped = step-result w D s ps e in
    subst (EachPair (MovedBy 1) ps) stepped.1
    (pair-images (MovedBy 1) (move_by w D s ps) ps
    (each-moved w D whole s unforced f nodes ps ps on follows
    (flow-weighs w D whole s unforced f nodes ps on massive follows along_x)
    (flow-weighs w D whole s unforced f nodes ps on massive follows along_y)
    (all-passed s.nx s.ny (move_by w D s ps) 0 ps stepped.0)))

-- ---- whole numbers of 256ths

pub entries-nodes : (D : ℕ) (f : Flow) (nx ny : ℕ) → Divides D f → WholeAtNodes D f nx ny
entries-nodes D f nx ny h =
    record {
      u = λ a i j. f.A a +ℤ h.quotient a along_x *ℤ pos i +ℤ h.quotient a along_y *ℤ pos j;
      is = λ a i j in-x in-y.
          apiece (pos D) (f.A a) (h.quotient a along_x) (h.quotient a along_y) (pos i) (pos j)
          ∙ (λ t. pos D *ℤ f.A a +ℤ h.is a along_x t *ℤ pos i +ℤ h.is a along_y t *ℤ pos j)
          ∙ together (pos D *ℤ f.A a) (f.B a along_x) (f.B a along_y) (pos i) (pos j);
    }
  where
    apiece : (D A qx qy i j : ℤ) → D *ℤ (A +ℤ qx *ℤ i +ℤ qy *ℤ j) ≡ D *ℤ A +ℤ D *ℤ qx *ℤ i +ℤ D *ℤ qy *ℤ j
    apiece D A qx qy i j = ring (D ∷ A ∷ qx ∷ qy ∷ i ∷ j ∷ []) (search quote depth 30) (search quote depth 30) tt

    together : (c bx by i j : ℤ) → c +ℤ pos 16384 *ℤ bx *ℤ i +ℤ pos 16384 *ℤ by *ℤ j ≡ c +ℤ pos 256 *ℤ (bx *ℤ (pos 64 *ℤ i) +ℤ by *ℤ (pos 64 *ℤ j))
    together c bx by i j = ring (c ∷ bx ∷ by ∷ i ∷ j ∷ []) (search quote depth 30) (search quote depth 30) tt

-- nodes (1, 0) and (0, 1) against node (0, 0)
nodes-entries : (D : ℕ) (f : Flow) (nx ny : ℕ) → 1 < nx → 1 < ny → WholeAtNodes D f nx ny → Divides D f
nodes-entries D f nx ny wide high h = record { quotient = quotient; is = is }
  where
    quotient : Axis → Axis → ℤ
    quotient a along_x = h.u a 1 0 -ℤ h.u a 0 0
    quotient a along_y = h.u a 0 1 -ℤ h.u a 0 0

    apart : (D s t : ℤ) → D *ℤ (s -ℤ t) ≡ D *ℤ s -ℤ D *ℤ t
    apart D s t = ring (D ∷ s ∷ t ∷ []) (search quote depth 30) (search quote depth 30) tt

    x-alone : (c bx by : ℤ) → c +ℤ pos 256 *ℤ (bx *ℤ pos 64 +ℤ by *ℤ pos 0) -ℤ (c +ℤ pos 256 *ℤ (bx *ℤ pos 0 +ℤ by *ℤ pos 0)) ≡ pos 16384 *ℤ bx
    x-alone c bx by = ring (c ∷ bx ∷ by ∷ []) (search quote depth 30) (search quote depth 30) tt

    y-alone : (c bx by : ℤ) → c +ℤ pos 256 *ℤ (bx *ℤ pos 0 +ℤ by *ℤ pos 64) -ℤ (c +ℤ pos 256 *ℤ (bx *ℤ pos 0 +ℤ by *ℤ pos 0)) ≡ pos 16384 *ℤ by
    y-alone c bx by = ring (c ∷ bx ∷ by ∷ []) (search quote depth 30) (search quote depth 30) tt

    is : (a b : Axis) → pos D *ℤ quotient a b ≡ pos 16384 *ℤ f.B a b
    is a along_x =
        apart (pos D) (h.u a 1 0) (h.u a 0 0)
        ∙ (λ t. h.is a 1 0 (omega arith) (omega arith) t -ℤ h.is a 0 0 (omega arith) (omega arith) t)
        ∙ x-alone (pos D *ℤ f.A a) (f.B a along_x) (f.B a along_y)
    is a along_y =
        apart (pos D) (h.u a 0 1) (h.u a 0 0)
        ∙ (λ t. h.is a 0 1 (omega arith) (omega arith) t -ℤ h.is a 0 0 (omega arith) (omega arith) t)
        ∙ y-alone (pos D *ℤ f.A a) (f.B a along_x) (f.B a along_y)

pub whole-by-entries : WholeByEntries
whole-by-entries D f nx ny wide high = record { nodes = entries-nodes D f nx ny; entries = nodes-entries D f nx ny (omega arith) (omega arith) }

pub spline-divides : SplineDivides
spline-divides f =
    record {
      quotient = λ a b. pos 16 *ℤ f.B a b;
      is = λ a b. ring (f.B a b ∷ []) (search quote depth 30) (search quote depth 30) tt;
    }

pub drift-divides : (D : ℕ) (A : Axis → ℤ) → Divides D (drift A)
drift-divides D A = record { quotient = λ a b. pos 0; is = λ a b. *ℤ-zero (pos D) }
