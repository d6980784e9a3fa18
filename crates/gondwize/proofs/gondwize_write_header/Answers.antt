-- The place of the refusal that `write_header` told is below 2^32. Assumes nothing.
use Rattle.coding.proofs.Coding.{placed}
use Rattle.coding.proofs.Places as places
use Rattle.gondwize.proofs.gondwize_write_header.Goals as goal

pub coded-requires : goal.coded-requires
coded-requires c =
    placed c.write_header.result c.write_header.ensures.answer
    (places.header-written c.header-h.result c.args.bytes.now)
