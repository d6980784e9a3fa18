-- The library's fold of the bytes. Assumes nothing.
use Rattle.std.proofs.Common.{bit_or, ◌∙◌, ap, eqb, rules}
use Rattle.std.proofs.lemmas.Iterator.{YieldsList-from_slice}
use Rattle.std.proofs.lemmas.Iterator.Consumers.{fold_from_yields_List}
use Rattle.store_bytes.proofs.Zeros.{zero-joined}
use Rattle.store_bytes.proofs.joined.Goals as goal

pub returns : goal.returns
returns c =
    let bytes = c.args.bytes.now in
    ap (λ n. eqb n 0) (fold_from_yields_List _ bit_or 0 c.fold.result c.fold.ensures.ran (YieldsList-from_slice bytes cc) (λ a x b q k. search rules))
    ∙ zero-joined bytes 0
