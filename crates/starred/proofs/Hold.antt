-- The table of starred examples, by computing both sides of every row. Assumes nothing.
use mathlib.Core.Path.{refl}
use Rattle.arith.specs.Rounding.{nearest}
use Rattle.spline.specs.Spline.{nearest_node, offset, on_axis, axis_weight}
use Rattle.particle.specs.Record.{particle_of, record_of, read_particle, read_answer}
use Rattle.particles.specs.Set.{checked_particle, set_from, records_of, particles_in}
use Rattle.apic.specs.Step.{node_mass, node_momentum, node_velocity, after_drag, updated_velocity, gathered_velocity, gathered_affine, moved}
use Rattle.gathering.specs.Gather.{move_check, move_checks}
use Rattle.update.specs.Update.{velocities}
use Rattle.entry.specs.Entry.{checked_forces, begin_answer, entry_answer}
use Rattle.simulation.specs.Step.{masses_by, momenta_by, velocities_by, stepped_by, step_by, step_entry, step_from, step_after}
use Rattle.starred.specs.Examples.{examples, ExamplesHold}

pub examples-hold : ExamplesHold
unfolding nearest nearest_node offset on_axis axis_weight particle_of record_of read_particle read_answer checked_particle set_from records_of particles_in node_mass node_momentum node_velocity after_drag updated_velocity gathered_velocity gathered_affine moved move_check move_checks velocities masses_by momenta_by velocities_by stepped_by step_by checked_forces entry_answer begin_answer step_entry step_from step_after examples
examples-hold = refl
