-- What is printed of a refused file. Assumes nothing.
use mathlib.Core.Path.{refl, sym}
use Rattle.program.proofs.Files.{prints}
use Rattle.run_file.proofs.run_file.Goals as goal

pub returns-in-Err : goal.returns-in-Err
returns-in-Err c =
    let told = prints c.args.file.now (sym c.in-Err.ensures) c.report_refusal.ensures.0 c.report_refusal.ensures.1 refl refl refl in
    record { answer = told.answer; text = told.buffer; file = told.file; grids = told.nodes }
