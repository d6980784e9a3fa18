-- `gather_point::offset_of` meets its contract: the remainder is the offset plus 32. Assumes nothing.
use Rattle.std.proofs.Common.{◌≡◌, sym, ap, ◌∙◌, [], ℕ, ◌+◌, ◌%◌, pos, ◌-ℤ◌, arith, w64, to_z}
use Rattle.std.proofs.Math.Facts.{to_z_pos}
use Rattle.arith.specs.Order.{linear, reading, nothing}
use Rattle.arith.specs.Size.{Bound, bound-equal, within-bound}
use Rattle.arith.specs.Machine.{read}
use Rattle.spline.specs.Spline.{offset, nearest_node}
use Rattle.gather_point.proofs.offset_of.Goals as goal

offset-is : (x : ℕ) → to_z w64 ((x + 32) % 64) -ℤ pos 32 ≡ offset x
unfolding offset nearest_node
offset-is x =
    ap (λ z. z -ℤ pos 32) (to_z_pos w64 {n = (x + 32) % 64} (omega arith)) ∙ linear [] nothing (search reading depth 30) (omega arith)

offset-size : (x : ℕ) → Bound (offset x) 32
unfolding offset nearest_node
offset-size x = within-bound (linear [] nothing (search reading depth 30) (omega arith))

raw-size : (x : ℕ) → Bound (to_z w64 ((x + 32) % 64) -ℤ pos 32) 32
raw-size x = bound-equal (sym (offset-is x)) (offset-size x)

pub returns : goal.returns
returns c =
    let e = read w64 (raw-size c.args.x) tt ∙ offset-is c.args.x in
    (e, bound-equal (sym e) (offset-size c.args.x))
