-- The word's own bytes in the place of what was lent of them. Assumes nothing.
use Rattle.std.proofs.Common.{ap, ◌∙◌, subst}
use Rattle.lines.specs.Words.{Signed, bits, has_minus, with_word}
use Rattle.lines.proofs.words.Word.number.Goals as goal

pub returns : goal.returns
returns c =
    let m = bits c.new.result in
    let minus = c.contains.ensures.value ∙ ap has_minus c.deref-2.ensures.value in
    let size = c.magnitude.ensures ∙ ap (λ word. with_word 0 word) c.deref.ensures.value in
    subst (λ negative. Signed m negative (with_word 0 c.args.self.now.bytes.items)) minus (subst (λ n. Signed m c.contains.result n) size c.new.ensures)
