-- The place of the refusal that `read_record` told is below 2^32. Assumes nothing.
use Rattle.coding.proofs.Coding.{place_of}
use Rattle.coding.proofs.Places as places
use Rattle.gondwize.proofs.gondwize_read_record.Goals as goal

pub code-requires : goal.code-requires
code-requires c =
    place_of c.in-Err.refusal c.in-Err.ensures
    (places.read 0 places.nowhere c.args.bytes.now)
