-- `put` meets its contract: the two words are the high and the low bits of the record's number, and their bytes are the record. Assumes nothing.
use Rattle.std.proofs.Common.{ap, ◌∙◌}
use mathlib.Core.Path.{ap₂}
use lib.Dec.{lit≤}
use Rattle.bits.specs.Internal.{word_bytes, stored}
use Rattle.bits.proofs.Bytes.{two-words}
use Rattle.record_writer.proofs.Words.{number, first_word, second_word}
use Rattle.record_writer.proofs.put.Goals as goal

pub returns : goal.returns
returns c =
    let a = c.args in
    let below = c.requires.0 in
    c.put_word-2.ensures
    ∙ ap₂ (λ v l. stored (word_bytes v) l 0)
    (first_word a.identifier a.mass a.x a.y a.vx a.vy a.bxx a.bxy a.byx a.byy a.marks below)
    (c.put_word.ensures
    ∙ ap (λ v. stored (word_bytes v) a.bytes.now 7)
    (second_word a.identifier a.mass a.x a.y a.vx a.vy a.bxx a.bxy a.byx a.byy a.marks below))
    ∙ two-words 7 (lit≤ tt) (number a.identifier a.mass a.x a.y a.vx a.vy a.bxx a.bxy a.byx a.byy a.marks below) a.bytes.now c.requires.1
