-- `scatter_block::add_line` meets its contract: three products, two rows of momenta and a row of masses.
-- Assumes nothing.
use Rattle.std.proofs.Common.{to_z-of_z}
use Rattle.scatter_block.proofs.Line.{line-added}
use Rattle.scatter_block.proofs.add_line.Goals as goal

pub returns : goal.returns
returns c =
    line-added c.requires c.times-lower.ensures c.times-nearest.ensures c.times-upper.ensures
    (to_z-of_z c.ranges.sx) (to_z-of_z c.ranges.bx) (to_z-of_z c.ranges.sy) (to_z-of_z c.ranges.by)
    c.add_row.ensures c.add_momenta-2.ensures c.add_momenta.ensures
