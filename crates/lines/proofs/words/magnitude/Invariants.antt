-- What `magnitude`'s loop keeps: the bytes left make of the number what the word makes of zero.
use Rattle.std.proofs.Common.{◌≡◌, drop}
use Rattle.lines.specs.Words.{with_word}
use Rattle.lines.proofs.words.magnitude.Given as goal

abbrev pub invariant-loop-byte : goal.invariant-loop-byte
invariant-loop-byte l = with_word l.number (drop l.byte-index l.word) ≡ with_word l.initial.number l.initial.word
