-- The worked examples, by computing. Assumes nothing.
use mathlib.Core.Path.{refl}
use Rattle.arith.specs.Rounding.{nearest}
use Rattle.spline.specs.Spline.{nearest_node, offset, on_axis, axis_weight}
use Rattle.particle.specs.Record.{particle_of, record_of, read_particle, read_answer}
use Rattle.apic.specs.Step.{node_mass, node_momentum, node_velocity, after_drag, updated_velocity, gathered_velocity, gathered_affine, moved}
use Rattle.particles.specs.Set.{checked_particle, set_from, records_of, particles_in}
use Rattle.gathering.specs.Gather.{move_check, move_checks}
use Rattle.update.specs.Update.{velocities}
use Rattle.entry.specs.Entry.{checked_forces, begin_answer, entry_answer}
use Rattle.simulation.specs.Step.{masses_by, momenta_by, velocities_by, stepped_by, step_by}
use Rattle.simulation.specs.Run.{run_by, run_entry, run_after}
use Rattle.bath_file.specs.File.{header_in, checked_header, header_answer, records_answer}
use Rattle.text.specs.Decimal.{digits_within, decimal, signed}
use Rattle.report.specs.Lines.{refused_line, done_line, totals_line, particle_line, particle_lines}
use Rattle.report.specs.Report.{run_text}
use Rattle.run_report.specs.RunReport.{report_of}
use Rattle.program.specs.Program.{program_text}
use Rattle.program.specs.Examples.{Examples}

pub examples : Examples
unfolding nearest nearest_node offset on_axis axis_weight particle_of record_of read_particle read_answer checked_particle set_from records_of particles_in node_mass node_momentum node_velocity after_drag updated_velocity gathered_velocity gathered_affine moved move_check move_checks velocities masses_by momenta_by velocities_by stepped_by step_by run_by checked_forces entry_answer begin_answer run_entry run_after header_in checked_header header_answer records_answer digits_within decimal signed refused_line done_line totals_line particle_line particle_lines run_text report_of program_text
examples = record { printed = refl; stopped = refl; held = refl; wide = refl; refused = refl }
