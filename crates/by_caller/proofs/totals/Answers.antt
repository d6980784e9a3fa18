-- The place of the refusal that `totals` told is below 2^32. Assumes nothing.
use Rattle.coding.proofs.Coding.{place_of}
use Rattle.coding.proofs.Places as places
use Rattle.by_caller.proofs.totals.Goals as goal

pub code-requires : goal.code-requires
code-requires c =
    place_of c.in-Err.refusal c.in-Err.ensures
    (places.totalled c.args.caller c.args.nx c.args.ny c.args.records.now)
