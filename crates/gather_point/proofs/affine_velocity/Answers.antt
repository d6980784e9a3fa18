-- `gather_point::affine_velocity` meets its contract. Assumes nothing.
use Rattle.std.proofs.Common.{◌≡◌, sym, ap, ◌∙◌, ◌^◌, ◌<◌, ℤ, w64, to_z, of_z}
use Rattle.std.specs.Int.Signed.{mag}
use lib.Dec.{lit<}
use mir.Val.{hbits}
use Rattle.arith.specs.Size.{Bound, bound-equal}
use Rattle.arith.specs.Machine.{read, read_result}
use Rattle.arith.specs.Rounding.{rounded}
use Rattle.arith.proofs.Rounding.{rounded-bound}
use Rattle.gather_point.specs.Point.{affine_velocity_of, moment_about, most_gathered}
use Rattle.gather_point.proofs.affine_velocity.Goals as goal

-- one entry of B: the calls of `moment` and `rounded`
entry : {sum tilt q m r : ℤ} → Bound sum 9007199254740992 → Bound tilt 9007199254740992 → Bound q 32 → (m ≡ moment_about (to_z w64 (of_z w64 sum)) (to_z w64 (of_z w64 tilt)) (to_z w64 (of_z w64 q))) × Bound m 1152921504606846976 → mag r < 2 ^ hbits w64 → r ≡ rounded (to_z w64 (of_z w64 m)) (2 ^ 34) → to_z w64 (of_z w64 r) ≡ rounded (moment_about sum tilt q) (2 ^ 34)
entry h k l m ok e =
    read_result w64 ok
    (e ∙ ap (λ z. rounded z (2 ^ 34)) (read w64 m.1 tt ∙ m.0 ∙ (λ i. moment_about (read w64 h tt i) (read w64 k tt i) (read w64 l tt i))))

pub returns : goal.returns
unfolding affine_velocity_of
returns c =
    let b = c.requires in
    let v =
    read_result w64 c.rounded.type_inv (c.rounded.ensures ∙ ap (λ z. rounded z (2 ^ 34)) (read w64 b.0.sum-size tt)) in (
      λ i. record {
        v = v i;
        bx = entry b.0.sum-size b.0.across-size b.1 c.moment.ensures c.rounded-2.type_inv c.rounded-2.ensures i;
        by = entry b.0.sum-size b.0.up-size b.2 c.moment-2.ensures c.rounded-3.type_inv c.rounded-3.ensures i;
      },
      bound-equal (sym v) (rounded-bound c.args.b.sum (2 ^ 34) most_gathered (lit< tt) b.0.sum-size),
    )
