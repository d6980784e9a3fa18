-- The records lie behind the header, and the run and its report are the program's. Assumes nothing.
use Rattle.program.proofs.Files.{file-sizes, file-long, back_long, report-ready, accepted-prints}
use Rattle.run_file.proofs.run_accepted.Goals as goal

pub slice_bounds-run_records-count : goal.slice_bounds-run_records-count
slice_bounds-run_records-count c = file-long c.requires

pub slice_bounds-run_records-start : goal.slice_bounds-run_records-start
slice_bounds-run_records-start c = file-long c.requires

pub run_records-ran-requires : goal.run_records-ran-requires
run_records-ran-requires c = (file-sizes c.requires, c.requires.grids)

pub slice_bounds-report_run-count : goal.slice_bounds-report_run-count
slice_bounds-report_run-count c = back_long c.args.file.now c.run_records-ran.new.records (file-long c.requires)

pub slice_bounds-report_run-start : goal.slice_bounds-report_run-start
slice_bounds-report_run-start c = back_long c.args.file.now c.run_records-ran.new.records (file-long c.requires)

pub report_run-length-requires : goal.report_run-length-requires
report_run-length-requires c = report-ready c.requires c.run_records-ran.result c.run_records-ran.ensures

pub returns : goal.returns
returns c = accepted-prints c.requires c.run_records-ran.result c.run_records-ran.ensures c.report_run-length.ensures
