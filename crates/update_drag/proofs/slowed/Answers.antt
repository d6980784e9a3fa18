-- `update_drag::slowed`, by `rounded-shift`. Assumes nothing.
use Rattle.std.proofs.Common.{◌≡◌, ℕ, ◌≤◌, ℤ, pos, ◌+ℤ◌, ◌-ℤ◌, ◌*ℤ◌, w64, FitsSigned, ap}
use lib.Dec.{lit<}
use lib.Signed.{shr_z}
use mir.Facts.{to_z-of_z}
use Rattle.arith.specs.Machine.{read-natural, lowest-bit}
use Rattle.arith.specs.Size.{Bound, fits, sizes}
use Rattle.arith.specs.Rounding.{parity, rounded}
use Rattle.arith.proofs.Rounding.{parity-bound, rounded-shift}
use Rattle.limits.specs.Limits.{most_node_velocity, most_drag}
use Rattle.apic.specs.Step.{after_drag}
use Rattle.update_drag.proofs.slowed.Goals as goal

-- the part of a velocity that is divided by 256, and the steps of its rounding: just below the next half, one more where the floor
-- is odd
module _ (drag : ℕ) (u : ℤ) where
  abbrev part : ℤ
  part = u *ℤ pos drag

  abbrev raised : ℤ
  raised = part +ℤ pos 127 +ℤ pos (parity (shr_z part 256))

  record Fit : Type 0 where
    product : FitsSigned w64 part
    half : FitsSigned w64 (part +ℤ pos 127)
    floor : FitsSigned w64 (shr_z part 256)
    sum : FitsSigned w64 raised
    quotient : FitsSigned w64 (shr_z raised 256)
    rest : FitsSigned w64 (u -ℤ shr_z raised 256)

  fit : Bound u most_node_velocity → drag ≤ most_drag → Fit
  fit small slow =
      let odd = parity-bound (shr_z part 256) in
      record {
        product = fits (search sizes depth 20) tt;
        half = fits (search sizes depth 20) tt;
        floor = fits (search sizes depth 20) tt;
        sum = fits (search sizes depth 20) tt;
        quotient = fits (search sizes depth 20) tt;
        rest = fits (search sizes depth 20) tt;
      }

  result : u -ℤ shr_z raised 256 ≡ after_drag rounded drag u
  unfolding after_drag
  result = ap (λ r. u -ℤ r) (rounded-shift part 128 (lit< tt))

pub overflow_add-result-2 : goal.overflow_add-result-2
overflow_add-result-2 c =
    let f = fit c.args.drag c.args.u c.requires.0 c.requires.1 in
    rw (to_z-of_z c.ranges.u, read-natural w64 c.requires.1 tt, to_z-of_z f.product, to_z-of_z f.half, lowest-bit _ f.floor) f.sum

pub overflow_sub-result : goal.overflow_sub-result
overflow_sub-result c =
    let f = fit c.args.drag c.args.u c.requires.0 c.requires.1 in
    rw (to_z-of_z c.ranges.u, read-natural w64 c.requires.1 tt, to_z-of_z f.product, to_z-of_z f.half, lowest-bit _ f.floor, to_z-of_z f.sum, to_z-of_z f.quotient) f.rest

pub returns : goal.returns
returns c =
    let f = fit c.args.drag c.args.u c.requires.0 c.requires.1 in
    rw (to_z-of_z c.ranges.u, read-natural w64 c.requires.1 tt, to_z-of_z f.product, to_z-of_z f.half, lowest-bit _ f.floor, to_z-of_z f.sum, to_z-of_z f.quotient, to_z-of_z f.rest)
    (result c.args.drag c.args.u)
