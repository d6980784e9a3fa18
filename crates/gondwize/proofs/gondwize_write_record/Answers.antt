-- The place of the refusal that `write_record` told is below 2^32. Assumes nothing.
use Rattle.coding.proofs.Coding.{placed}
use Rattle.coding.proofs.Places as places
use Rattle.gondwize.proofs.gondwize_write_record.Goals as goal

pub coded-requires : goal.coded-requires
coded-requires c =
    placed c.write_record.result c.write_record.ensures.answer
    (places.write c.particle-p.result c.args.bytes.now)
