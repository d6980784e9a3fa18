-- The answer of "Update", by the checks at entry and the nodes, and that nothing is refused where settings and nodes keep
-- their limits.
-- Assumes nothing.
use mathlib.Core.Path.{◌≡◌, refl, ap, ◌∙◌}
use mathlib.Core.Bool.{true}
use mathlib.Core.List.{List}
use Prim.Native.Nat.{ℕ, ◌*◌, zero-le}
use native.Mathlib.Omega.{arith}
use lib.ListN.{length}
use lib.IntN.{ℤ}
use borrow.Author.Tests.{le-ltb}
use Rattle.refusal.specs.Refused.{Answer, and_then, done}
use Rattle.refusal.proofs.Answers.{done-leaves}
use Rattle.limits.specs.declared.Caller.{Caller}
use Rattle.limits.specs.Limits.{most_side_of, most_records_of}
use Rattle.spline.specs.Spline.{D}
use Rattle.spline.proofs.Table.{spline-spread}
use Rattle.apic.specs.Step.{along_x, along_y}
use Rattle.particles.specs.Set.{valid_size}
use Rattle.particles.proofs.Checks.{size-limits}
use Rattle.settings.specs.declared.Settings.{Settings}
use Rattle.settings.specs.Settings.{ForceLimits}
use Rattle.entry.specs.declared.Buffers.{Buffers}
use Rattle.entry.specs.declared.Buffers.TheVariants.{Three}
use Rattle.entry.specs.Entry.{begin_answer}
use Rattle.entry.proofs.Entry.{Passed, begins, forces-pass, long-three, three-long}
use Rattle.update.specs.Update.{check_nodes, velocities, both_axes, update_answer, UpdateIs}
use Rattle.update.specs.Internal.{GridLimits}
use Rattle.update.proofs.Walk.{limits-nodes, nodes-limits}

-- ---- the answer

abbrev pub buffers : List ℕ → List ℤ → List ℤ → Buffers
buffers mass px py = Three (length mass) (length px) (length py)

abbrev pub node_answers : Settings → List ℕ → List ℤ → List ℤ → Answer Unit
node_answers s mass px py = check_nodes D (s.nx * s.ny) s.gx s.gy mass px py

module _ (caller : Caller) (s : Settings) (mass : List ℕ) (px py : List ℤ) where
  pub by-entry : {a : Answer Unit} → begin_answer caller s (buffers mass px py) 0 0 ≡ a → update_answer caller s mass px py ≡ and_then a (λ _. node_answers s mass px py)
  unfolding update_answer
  by-entry e = ap (λ a. and_then a (λ _. node_answers s mass px py)) e

  -- ---- with the grids

  pub done-is : {ux uy : List ℤ} → update_answer caller s mass px py ≡ done → ux ≡ velocities D s along_x mass px → uy ≡ velocities D s along_y mass py → UpdateIs caller s mass px py done ux uy
  done-is e x y = done-leaves e (λ i. both_axes (x i) (y i))

  -- ---- the limits

  pub grid-limits : Passed caller s (buffers mass px py) 0 0 → ForceLimits s → node_answers s mass px py ≡ done → GridLimits D s mass px py
  grid-limits t forces e =
      let l = long-three (s.nx * s.ny) (length mass) (length px) (length py) t.long in
      record {
        sizes = size-limits caller s.nx s.ny t.size;
        forces = forces;
        within =
            record {
              spread = spline-spread;
              mass-length = l.mass-is;
              px-length = l.x-is;
              py-length = l.y-is;
              gravity-x = forces.gravity-x;
              gravity-y = forces.gravity-y;
              nodes = nodes-limits D (s.nx * s.ny) s.gx s.gy mass px py e;
            };
      }

  -- nothing is refused where the limits are kept: for the step
  pub update-accepts : valid_size (most_side_of caller) s.nx s.ny ≡ true → GridLimits D s mass px py → update_answer caller s mass px py ≡ done
  update-accepts size g =
      by-entry
      (begins caller s (buffers mass px py) 0 0
      (record {
        size = size;
        whole = refl;
        long = three-long (record { mass-is = g.within.mass-length; x-is = g.within.px-length; y-is = g.within.py-length });
        few = le-ltb (most_records_of caller) 0 zero-le;
      })
      (forces-pass s g.forces done)
      (omega arith))
      ∙ limits-nodes D (s.nx * s.ny) s.gx s.gy mass px py g.within.nodes
