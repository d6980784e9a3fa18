-- The library's `==` of slices. Assumes nothing.
use Rattle.std.proofs.Common.{sym, ap, ◌∙◌}
use Rattle.std.proofs.lemmas.Slice.Eq.{bytes_eq-Decides}
use Rattle.std.proofs.lemmas.Bool.Decides.{same_from_decides}
use Rattle.store.specs.Names.{same_bytes}
use Rattle.store.proofs.Bytes.{same_self, same-is}
use Rattle.store_bytes.proofs.same.Goals as goal

pub returns : goal.returns
returns c =
    let bytes = c.args.bytes.now in
    let other = c.args.other.now in
    c.eq.ensures ∙ same_from_decides _ (same_bytes bytes other) (bytes_eq-Decides bytes other) (same-is bytes other, λ e. ap (same_bytes bytes) (sym e) ∙ same_self bytes)
