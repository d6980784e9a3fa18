-- Document 01's example of "The program", as calls. Assumes nothing.
use mathlib.Core.Path.{◌≡◌, refl}
use mathlib.Core.List.{List, [], ◌∷◌, map}
use Prim.Native.Nat.{ℕ}
use lib.ListN.{replicate}
use lib.IntN.{ℤ, pos, negsuc}
use Rattle.arith.specs.Rounding.{nearest}
use Rattle.limits.specs.declared.Caller.TheVariants.{Bench, Page}
use Rattle.spline.specs.Spline.{nearest_node, offset, on_axis, axis_weight}
use Rattle.particle.specs.declared.Particle.{Particle}
use Rattle.particle.specs.Record.{particle_of, record_of, read_particle, read_answer}
use Rattle.particles.specs.Set.{checked_particle, set_from, records_of, particles_in}
use Rattle.apic.specs.Step.{node_mass, node_momentum, node_velocity, after_drag, updated_velocity, gathered_velocity, gathered_affine, moved, Grids}
use Rattle.gathering.specs.Gather.{move_check, move_checks}
use Rattle.update.specs.Update.{velocities}
use Rattle.settings.specs.declared.Edge.TheVariants.{Open}
use Rattle.settings.specs.declared.Settings.{Settings}
use Rattle.entry.specs.Entry.{checked_forces, begin_answer, entry_answer}
use Rattle.simulation.specs.Step.{masses_by, momenta_by, velocities_by, stepped_by, step_by, step_entry, step_from, step_after}
use Rattle.simulation.specs.Run.{run_by, run_entry, run_after}
use Rattle.simulation.specs.Demand3.{Call, step, run, leaves, leaves_all, completes_all}

still : Settings
still = record { nx = 4; ny = 4; gx = pos 0; gy = pos 0; edge = Open; drag = 0 }

abbrev given : Grids
given = record { mass = replicate 16 5; x = replicate 16 (pos 5); y = replicate 16 (pos 5) }

abbrev short : Grids
short = record { mass = replicate 15 5; x = replicate 16 (pos 5); y = replicate 16 (pos 5) }

-- "00 07 00 81 00 10 01 FE ..", with 200 marks
abbrev start : List ℕ
start = 0 ∷ 7 ∷ 0 ∷ 129 ∷ 0 ∷ 16 ∷ 1 ∷ 254 ∷ 0 ∷ 0 ∷ 0 ∷ 0 ∷ 0 ∷ 0 ∷ 200 ∷ []

-- a run of one step; a step with a buffer that is too short; a run that is stopped at its 16th step, off the grid in y
abbrev calls : List Call
calls = run Page still 1 given ∷ step Page still short ∷ run Bench still 40 given ∷ []

abbrev line : Particle → List ℤ
line p = pos p.identifier ∷ pos p.mass ∷ pos p.x ∷ pos p.y ∷ p.vx ∷ p.vy ∷ p.bxx ∷ p.bxy ∷ p.byx ∷ p.byy ∷ pos p.marks ∷ []

record Worked : Type 0 where
  -- "7 2 67 62 3 -2 0 0 0 0 200"
  first : map line (particles_in (leaves (run Page still 1 given) start)) ≡ (pos 7 ∷ pos 2 ∷ pos 67 ∷ pos 62 ∷ pos 3 ∷ negsuc 1 ∷ pos 0 ∷ pos 0 ∷ pos 0 ∷ pos 0 ∷ pos 200 ∷ []) ∷ []
  number : completes_all calls start ≡ 16
  last : map line (particles_in (leaves_all calls start)) ≡ (pos 7 ∷ pos 2 ∷ pos 112 ∷ pos 32 ∷ pos 3 ∷ negsuc 1 ∷ pos 0 ∷ pos 0 ∷ pos 0 ∷ pos 0 ∷ pos 200 ∷ []) ∷ []

worked : Worked
unfolding nearest nearest_node offset on_axis axis_weight particle_of record_of read_particle read_answer checked_particle set_from records_of node_mass node_momentum node_velocity after_drag updated_velocity gathered_velocity gathered_affine moved move_check move_checks velocities masses_by momenta_by velocities_by stepped_by step_by checked_forces entry_answer begin_answer step_entry step_from step_after run_by run_entry run_after still particles_in leaves_all completes_all
worked = record { first = refl; number = refl; last = refl }
