-- Both words are the header. Assumes nothing.
use Rattle.header_writer.proofs.Words.{both_words}
use Rattle.header_writer.proofs.put.Goals as goal

pub returns : goal.returns
returns c =
    let a = c.args in
    both_words a.nx a.ny a.gx a.gy a.count a.steps a.kind a.width a.drag c.requires.0 a.bytes.now {half = c.put_word.new.bytes} {whole = c.put_word-2.new.bytes} c.requires.1 (cc) (cc)
