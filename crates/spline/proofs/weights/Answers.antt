-- `spline::weights` meets its contract: past either end it refuses, and between them the formulas' values fit.
-- Assumes nothing.
use Rattle.std.proofs.Common.{◌≡◌, false, pos, negsuc, arith}
use Rattle.std.proofs.lemmas.Int.{ints}
use Rattle.std.specs.Int.Signed.{lt_z}
use mir.Syntax.{w64}
use mir.Val.{to_z, of_z}
use Rattle.spline.proofs.Weigh.{nearest-cast, answer}
use Rattle.spline.proofs.weights.Goals as goal

pub overflow_cast-result-2 : goal.overflow_cast-result-2
overflow_cast-result-2 c =
    let low : lt_z (to_z w64 (of_z w64 c.args.q)) (negsuc 31) ≡ false = grind (arith, ints) in
    let high : lt_z (pos 31) (to_z w64 (of_z w64 c.args.q)) ≡ false = grind (arith, ints) in
    nearest-cast c.args.q c.ranges.q low high

pub returns : goal.returns
returns c =
    let low : lt_z (to_z w64 (of_z w64 c.args.q)) (negsuc 31) ≡ false = grind (arith, ints) in
    let high : lt_z (pos 31) (to_z w64 (of_z w64 c.args.q)) ≡ false = grind (arith, ints) in
    answer c.args.q c.ranges.q low high
