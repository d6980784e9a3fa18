-- The place of the refusal that `read_file` told is below 2^32, and the values of an accepted header are small. Assumes nothing.
use Rattle.coding.proofs.Accepted.{narrow}
use Rattle.coding.proofs.Coding.{place_of}
use Rattle.coding.proofs.Places as places
use Rattle.by_caller.proofs.read_file.Goals as goal

pub code-requires : goal.code-requires
code-requires c =
    place_of c.in-Err.refusal c.in-Err.ensures
    (places.file-read c.args.caller c.args.bytes.now)

pub of_header-requires : goal.of_header-requires
of_header-requires c = narrow c.args.caller c.args.bytes.now c.in-Ok.h c.in-Ok.ensures
