-- `answer` is safe: what it writes is within the text. Assumes nothing.
use Rattle.program.proofs.Files.{text-within}
use Rattle.serve.proofs.answer.Goals as goal

pub deliver-requires : goal.deliver-requires
deliver-requires g c = text-within _ _ c.run_file-printed.ensures.answer c.run_file-printed.ensures.text
