-- Document 01, operations "Scatter" and "Gather": what each answers to a caller for any numbers and any buffers, and what the buffers
-- hold afterwards. The sums are those of "The step", scatter and gather. Assumes nothing.
use Rattle.std.specs.Prelude.{not, List, map, ℕ, ◌*◌, length, get_or, ℤ, pos, nat_abs}
use Rattle.refusal.specs.Refused.{Answer, gives, refuse_if, and_then, done, for_each, Leaves}
use Rattle.limits.specs.Limits.{most_node_velocity}
use Rattle.limits.specs.declared.Caller.{Caller}
use Rattle.spline.specs.Spline.{axis_weight, D}
use Rattle.particle.specs.declared.Particle.{Particle}
use Rattle.apic.specs.Step.{along_x, along_y, node_mass, node_momentum, Grids, grids_of, grid}
use Rattle.particles.specs.Set.{records_of}
use Rattle.entry.specs.Checks.{both_within}
use Rattle.settings.specs.Settings.{still}
use Rattle.entry.specs.declared.Buffers.TheVariants.{Two, Three}
use Rattle.entry.specs.Entry.{entry_answer}
use Rattle.gathering.specs.Gather.{gathered, move_checks}

-- ---- scatter

-- the result is the particles of the set; the buffers are given by their lengths
abbrev pub scatter_answer : Caller → ℕ → ℕ → List ℕ → ℕ → ℕ → ℕ → Answer (List Particle)
scatter_answer caller nx ny records mass px py = entry_answer caller (still nx ny) (Three mass px py) 0 records

-- the masses and momenta of particles
abbrev pub scatter_of : ℕ → ℕ → List Particle → Grids
scatter_of nx ny ps =
    grids_of (grid nx ny (λ i j. nat_abs (node_mass axis_weight ps i j)))
    (grid nx ny (node_momentum axis_weight D along_x ps)) (grid nx ny (node_momentum axis_weight D along_y ps))

-- what is told of an answer, and the three grids that are left: masses and momenta of its particles, or what they were
abbrev pub Fills : ℕ → ℕ → Answer (List Particle) → List ℕ → List ℤ → List ℤ → Answer Unit → List ℕ → List ℤ → List ℤ → Type 0
Fills nx ny a mass px py told mass' px' py' = Leaves a (scatter_of nx ny) (grids_of mass px py) told (grids_of mass' px' py')

abbrev pub ScatterIs : Caller → ℕ → ℕ → List ℕ → List ℕ → List ℤ → List ℤ → Answer Unit → List ℕ → List ℤ → List ℤ → Type 0
ScatterIs caller nx ny records mass px py told mass' px' py' =
    Fills nx ny (scatter_answer caller nx ny records (length mass) (length px) (length py)) mass px py told mass' px' py'

-- ---- gather

-- 12 for each node with a velocity beyond ±131,072
abbrev pub velocity_check : List ℤ → List ℤ → ℕ → Answer Unit
velocity_check ux uy k = refuse_if (not (both_within most_node_velocity (get_or ux k (pos 0)) (get_or uy k (pos 0)))) 12 k done

unfoldable pub velocity_checks : ℕ → List ℤ → List ℤ → Answer Unit
velocity_checks n ux uy = for_each (velocity_check ux uy) 0 n

-- 2; 1, also for the velocity buffers; 3; the set; 12 for each node
unfoldable pub checked_set : Caller → ℕ → ℕ → List ℕ → List ℤ → List ℤ → Answer (List Particle)
checked_set caller nx ny records ux uy =
    and_then (entry_answer caller (still nx ny) (Two (length ux) (length uy)) 0 records)
    (λ ps. and_then (velocity_checks (nx * ny) ux uy) (λ _. gives ps))

-- then for each record 13, 14, 15; the result is the moved particles
abbrev pub move_answer : ℕ → ℕ → List ℤ → List ℤ → List Particle → Answer (List Particle)
move_answer nx ny ux uy ps = move_checks nx ny (gathered axis_weight nx ny ux uy) 0 ps (gives (map (gathered axis_weight nx ny ux uy) ps))

abbrev pub gather_answer : Caller → ℕ → ℕ → List ℕ → List ℤ → List ℤ → Answer (List Particle)
gather_answer caller nx ny records ux uy = and_then (checked_set caller nx ny records ux uy) (λ ps. move_answer nx ny ux uy ps)

-- what is told of an answer, and the records that are left: those of its particles, or what they were
abbrev pub Moves : Answer (List Particle) → List ℕ → Answer Unit → List ℕ → Type 0
Moves a records told records' = Leaves a records_of records told records'

abbrev pub GatherIs : Caller → ℕ → ℕ → List ℕ → List ℤ → List ℤ → Answer Unit → List ℕ → Type 0
GatherIs caller nx ny records ux uy told records' = Moves (gather_answer caller nx ny records ux uy) records told records'
