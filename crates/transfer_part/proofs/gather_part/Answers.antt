-- `transfer_part::gather_part` meets its contract. Assumes nothing.
use Rattle.transfer.proofs.Moving.{gatherable, moved-part}
use Rattle.transfer_part.proofs.gather_part.Goals as goal

pub gather_from-requires : goal.gather_from-requires
gather_from-requires c =
    (gatherable c.args.records.now c.requires.0 c.unpack_set.ensures c.requires.1.target-numbers, c.requires.1.index)

pub returns : goal.returns
returns c =
    moved-part c.args.records.now c.requires.0 c.unpack_set.ensures c.requires.1.target-numbers c.gather_from.ensures
