-- `scatter_block::add_block` meets its contract: three products and three lines. Assumes nothing.
use Rattle.scatter_block.proofs.Block.{ask-1, ask-2, ask-3, block-added}
use Rattle.scatter_block.proofs.add_block.Goals as goal

pub add_line-requires : goal.add_line-requires
add_line-requires c = ask-1 c.requires c.times-below.ensures c.times-here.ensures c.times-above.ensures

pub add_line-requires-2 : goal.add_line-requires-2
add_line-requires-2 c = ask-2 c.requires c.times-below.ensures c.times-here.ensures c.times-above.ensures c.add_line.ensures

pub add_line-requires-3 : goal.add_line-requires-3
add_line-requires-3 c =
    ask-3 c.requires c.times-below.ensures c.times-here.ensures c.times-above.ensures c.add_line.ensures c.add_line-2.ensures

pub returns : goal.returns
returns c =
    block-added c.requires c.times-below.ensures c.times-here.ensures c.times-above.ensures c.add_line.ensures c.add_line-2.ensures c.add_line-3.ensures
