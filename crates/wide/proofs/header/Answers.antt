-- `wide::header` meets its contract: the header is that of the numbers cut to 16 bits. Assumes nothing.
use Rattle.std.proofs.Common.{ℤ, sym, ap₂, subst}
use Rattle.bath_file.specs.declared.Header.{Header}
use Rattle.wide.specs.Values.{header_with}
use Rattle.wide.specs.Internal.{SameHeader}
use Rattle.wide.proofs.Narrowing.{field}
use Rattle.wide.proofs.Writing.{same-header}
use Rattle.wide.proofs.header.Goals as goal

pub returns : goal.returns
returns c =
    let h = c.args in
    let gx = field c.signed.type_inv c.signed.ensures c.ranges.gx in
    let gy = field c.signed-2.type_inv c.signed-2.ensures c.ranges.gy in
    let with : ℤ → ℤ → Header = λ gx gy. header_with h.nx h.ny gx gy h.count h.steps h.kind h.width h.drag in
    subst (λ k. SameHeader k (with h.gx h.gy)) (sym (ap₂ with gx gy)) (same-header (with h.gx h.gy))
