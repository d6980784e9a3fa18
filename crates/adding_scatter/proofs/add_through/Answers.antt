-- `adding_scatter::add_through` meets its contract. Assumes nothing.
use lib.Seq.{length-take-le}
use Rattle.adding.proofs.Adding.{on-others, addable, set-added}
use Rattle.adding_scatter.proofs.add_through.Goals as goal

pub scatter_set-requires : goal.scatter_set-requires
scatter_set-requires c =
    on-others c.requires.set (length-take-le _ c.args.a.now c.requires.a-room) (length-take-le _ c.args.b.now c.requires.b-room) (length-take-le _ c.args.c.now c.requires.c-room)

pub add_grids-requires : goal.add_grids-requires
add_grids-requires c = addable c.requires.set c.scatter_set.ensures

pub returns : goal.returns
returns c = set-added c.requires.set c.scatter_set.ensures c.add_grids.ensures
