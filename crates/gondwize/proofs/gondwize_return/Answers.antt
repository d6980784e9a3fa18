-- The place of the refusal that `return_to` told is below 2^32. Assumes nothing.
use Rattle.coding.proofs.Coding.{place_of}
use Rattle.coding.proofs.Places as places
use Rattle.gondwize.proofs.gondwize_return.Goals as goal

pub code-requires : goal.code-requires
code-requires c =
    place_of c.in-Err.refusal c.in-Err.ensures.answer
    (places.returned c.args.store.now c.args.name.now c.args.buffer.now)
