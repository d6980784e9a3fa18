-- `scatter_block::add_momenta` meets its contract: the three products are what `add_row` adds. Assumes nothing.
use Rattle.scatter_block.proofs.Momenta.{below-is, here-is, above-is, asked, given}
use Rattle.scatter_block.proofs.add_momenta.Goals as goal

pub add_row-requires : goal.add_row-requires
add_row-requires c =
    let p = c.requires in
    asked p c.args.momenta.now (below-is p) (here-is p) (above-is p)

pub returns : goal.returns
returns c =
    let p = c.requires in
    given p _ (below-is p) (here-is p) (above-is p) c.add_row.ensures
