-- `on_axis` meets its contract: the two tests of the definition, in its order. Assumes nothing.
use borrow.Author.Tests.{le-leb, lt-leb}
use Rattle.spline.specs.Spline.{on_axis}
use Rattle.particles.proofs.on_axis.Goals as goal

pub returns-then-place-ge32 : goal.returns-then-place-ge32
unfolding on_axis
returns-then-place-ge32 c = rw (le-leb 32 c.args.x c.if-place-ge32.true)

pub returns-else-place-ge32 : goal.returns-else-place-ge32
unfolding on_axis
returns-else-place-ge32 c = rw (lt-leb 32 c.args.x c.if-place-ge32.false)
