-- `gather_point::three_rows` meets its contract: sums of small rows fit. Assumes nothing.
use Rattle.std.proofs.Common.{◌≡◌, sym, ap, subst, ◌∙◌, w64, to_z, of_z}
use Rattle.arith.specs.Machine.{read, read_as}
use Rattle.spline.specs.declared.AxisWeights.{AxisWeights}
use Rattle.gather_point.specs.declared.Shares.{Shares}
use Rattle.gather_point.specs.declared.Block.{Block}
use Rattle.gather_point.specs.Point.{weighed, block_of, SmallWeights, SmallShares, SmallBlock}
use Rattle.gather_point.proofs.Numbers.{block-small}
use Rattle.gather_point.proofs.three_rows.Goals as goal

abbrev read_block : Shares → Shares → Block
read_block s t =
    record { sum = to_z w64 (of_z w64 s.sum); across = to_z w64 (of_z w64 t.sum); up = to_z w64 (of_z w64 s.tilt) }

-- the two calls of `weigh`
rows : {w : AxisWeights} (a b c : Shares) → SmallShares a × SmallShares b × SmallShares c → SmallWeights w → (s t : Shares) → s ≡ weighed w (to_z w64 (of_z w64 a.sum)) (to_z w64 (of_z w64 b.sum)) (to_z w64 (of_z w64 c.sum)) → t ≡ weighed w (to_z w64 (of_z w64 a.tilt)) (to_z w64 (of_z w64 b.tilt)) (to_z w64 (of_z w64 c.tilt)) → (read_block s t ≡ block_of w a b c) × SmallBlock (read_block s t)
unfolding block_of
rows {w} a b c h k s t e f = (is, subst SmallBlock (sym is) small)
  where
    small : SmallBlock (block_of w a b c)
    small = block-small w a b c k h.0 h.1 h.2

    sums : s ≡ weighed w a.sum b.sum c.sum
    sums = e ∙ (λ i. weighed w (read w64 h.0.sum-size tt i) (read w64 h.1.sum-size tt i) (read w64 h.2.sum-size tt i))

    tilts : t ≡ weighed w a.tilt b.tilt c.tilt
    tilts = f ∙ (λ i. weighed w (read w64 h.0.tilt-size tt i) (read w64 h.1.tilt-size tt i) (read w64 h.2.tilt-size tt i))

    is : read_block s t ≡ block_of w a b c
    is =
        λ i. record {
          sum = read_as w64 (ap (λ r. r.sum) sums) small.sum-size tt i;
          across = read_as w64 (ap (λ r. r.sum) tilts) small.across-size tt i;
          up = read_as w64 (ap (λ r. r.tilt) sums) small.up-size tt i;
        }

pub returns : goal.returns
returns c =
    rows c.args.a c.args.b c.args.c c.requires c.weigh-tilts.ensures.1
    c.weigh-sums.result c.weigh-tilts.result
    c.weigh-sums.ensures.0 c.weigh-tilts.ensures.0
