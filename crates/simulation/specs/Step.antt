-- Documents 01 and 02, "The step" and the operation step: scatter, update and gather on a particle set, and what a caller with any
-- numbers and any buffers sees after a call: the answer, the records and the three grids. Assumes nothing.
use Rattle.std.specs.Prelude.{◌≡◌, List, map, ℕ, length, ℤ, nat_abs}
use Rattle.refusal.specs.Refused.{Answer, gives, refused, either, done}
use Rattle.limits.specs.declared.Caller.{Caller}
use Rattle.spline.specs.Spline.{axis_weight, D}
use Rattle.particle.specs.declared.Particle.{Particle}
use Rattle.apic.specs.Step.{Axis, along_x, along_y, Grids, grid, node_mass, node_momentum}
use Rattle.particles.specs.Set.{records_of}
use Rattle.gathering.specs.Gather.{gathered, move_checks}
use Rattle.entry.specs.declared.Buffers.{Buffers}
use Rattle.entry.specs.declared.Buffers.TheVariants.{Three}
use Rattle.entry.specs.Entry.{entry_answer}
use Rattle.update.specs.Update.{velocities}
use Rattle.settings.specs.declared.Settings.{Settings}

-- ---- scatter, update, gather, with axis weights w and their second moment d

-- the node masses, and the node momenta on an axis, after the scatter
unfoldable pub masses_by : (ℕ → ℕ → ℤ) → Settings → List Particle → List ℕ
masses_by w s ps = grid s.nx s.ny (λ i j. nat_abs (node_mass w ps i j))

unfoldable pub momenta_by : (ℕ → ℕ → ℤ) → ℕ → Settings → Axis → List Particle → List ℤ
momenta_by w d s a ps = grid s.nx s.ny (node_momentum w d a ps)

-- the node velocities on an axis after the update
unfoldable pub velocities_by : (ℕ → ℕ → ℤ) → ℕ → Settings → Axis → List Particle → List ℤ
velocities_by w d s a ps = velocities d s a (masses_by w s ps) (momenta_by w d s a ps)

-- a particle after the gather
abbrev pub move_by : (ℕ → ℕ → ℤ) → ℕ → Settings → List Particle → Particle → Particle
move_by w d s ps = gathered w s.nx s.ny (velocities_by w d s along_x ps) (velocities_by w d s along_y ps)

-- the particles after a step
unfoldable pub stepped_by : (ℕ → ℕ → ℤ) → ℕ → Settings → List Particle → List Particle
stepped_by w d s ps = map (move_by w d s ps) ps

-- a step that is tried: for each record 13, 14, 15
unfoldable pub step_by : (ℕ → ℕ → ℤ) → ℕ → Settings → List Particle → Answer (List Particle)
step_by w d s ps = move_checks s.nx s.ny (move_by w d s ps) 0 ps (gives (stepped_by w d s ps))

-- "the grid holds masses and updated velocities of the last step tried"
abbrev pub nodes_by : (ℕ → ℕ → ℤ) → ℕ → Settings → List Particle → Grids
nodes_by w d s ps = record { mass = masses_by w s ps; x = velocities_by w d s along_x ps; y = velocities_by w d s along_y ps }

-- ---- with the spline's

abbrev pub masses : Settings → List Particle → List ℕ
masses = masses_by axis_weight

abbrev pub momenta : Settings → Axis → List Particle → List ℤ
momenta = momenta_by axis_weight D

abbrev pub updated_velocities : Settings → Axis → List Particle → List ℤ
updated_velocities = velocities_by axis_weight D

abbrev pub stepped : Settings → List Particle → List Particle
stepped = stepped_by axis_weight D

abbrev pub step_of : Settings → List Particle → Answer (List Particle)
step_of = step_by axis_weight D

abbrev pub nodes_of : Settings → List Particle → Grids
nodes_of = nodes_by axis_weight D

-- ---- what a caller sees

-- the answer of a call, and the records and grids as it leaves them
pub record After (A : Type 0) : Type 0 where
  pub answer : A
  pub records : List ℕ
  pub grids : Grids

abbrev pub seen : {A : Type 0} → A → List ℕ → Grids → After A
seen answer records grids = record { answer = answer; records = records; grids = grids }

-- what a caller sees is what a definition says, and nothing else: for the promises of step and run
pub record Sees {A : Type 0} (after : After A) (told : A) (bytes mass : List ℕ) (x y : List ℤ) : Type 0 where
  pub answer : told ≡ after.answer
  pub records : bytes ≡ after.records
  pub masses : mass ≡ after.grids.mass
  pub x-velocities : x ≡ after.grids.x
  pub y-velocities : y ≡ after.grids.y

-- ---- the operation

abbrev pub buffers_of : Grids → Buffers
buffers_of grids = Three (length grids.mass) (length grids.x) (length grids.y)

-- 2; 1, also for the grid buffers; 3; 10; 18; 19; the set
unfoldable pub step_entry : Caller → Settings → List ℕ → Grids → Answer (List Particle)
step_entry caller s records grids = entry_answer caller s (buffers_of grids) 0 records

-- a step from the particles ps of the records: on 13, 14, 15 no record has moved
unfoldable pub step_from : Settings → List ℕ → List Particle → After (Answer Unit)
step_from s records ps =
    either (step_of s ps)
    (λ qs. record { answer = done; records = records_of qs; grids = nodes_of s ps })
    (λ n k. record { answer = refused n k; records = records; grids = nodes_of s ps })

-- refused at entry, nothing has changed
unfoldable pub step_after : Caller → Settings → List ℕ → Grids → After (Answer Unit)
step_after caller s records grids =
    either (step_entry caller s records grids) (λ ps. step_from s records ps)
    (λ n k. record { answer = refused n k; records = records; grids = grids })
