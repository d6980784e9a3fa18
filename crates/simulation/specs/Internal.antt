-- What the internal functions of a step and a run are given and leave: their contracts name these, and no public one does.
-- Assumes nothing.
use Rattle.std.specs.Prelude.{◌≡◌, cond, List, ℕ, zero, suc, ◌*◌, ◌%◌, ◌≤◌, eqb, length, ℤ, Result, Ok}
use Rattle.refusal.specs.declared.Refusal.{Refusal}
use Rattle.refusal.specs.Refused.{Answer, gives, and_then, told}
use Rattle.limits.specs.declared.Caller.TheVariants.{Bench}
use Rattle.spline.specs.Kernel.{Kernel}
use Rattle.particle.specs.declared.Particle.{Particle}
use Rattle.particles.specs.Set.{set_length, records_of, particles_in, set_answer}
use Rattle.unpacked.specs.Unpacked.{unpacked, Holds, UnpackedSet}
use Rattle.packing.specs.Packing.{labels}
use Rattle.settings.specs.declared.Settings.{Settings}
use Rattle.settings.specs.Settings.{ForceLimits}
use Rattle.simulation.specs.declared.Stop.{Stop}
use Rattle.apic.specs.Step.{Grids, grids_of}
use Rattle.simulation.specs.Step.{seen, nodes_by, stepped_by, step_by}
use Rattle.simulation.specs.Run.{told_ran, run_by, run_from}

-- ---- one step, from an array of particles to another

pub record StepReady (s : Settings) (source : List ℤ) (weights : List (List ℕ)) (d : ℕ) (mass : List ℕ) (px py target : List ℤ) : Type 0 where
  pub set : UnpackedSet s.nx s.ny source
  pub forces : ForceLimits s
  pub kernel : Kernel weights d
  pub mass-long : length mass ≡ s.nx * s.ny
  pub px-long : length px ≡ s.nx * s.ny
  pub py-long : length py ≡ s.nx * s.ny
  pub room : length target ≡ length source

-- what is told of a gather to the particles qs
abbrev pub told_gathered_to : Result Unit Refusal → List Particle → Answer (List Particle)
told_gathered_to r qs = and_then (told r) (λ _. gives qs)

pub record StepLeaves (w : ℕ → ℕ → ℤ) (D : ℕ) (s : Settings) (ps : List Particle) (r : Result Unit Refusal) (mass : List ℕ) (px py target : List ℤ) : Type 0 where
  pub grids : grids_of mass px py ≡ nodes_by w D s ps
  pub answer : told_gathered_to r (stepped_by w D s ps) ≡ step_by w D s ps
  pub moved : r ≡ Ok tt → target ≡ unpacked (stepped_by w D s ps)

-- whichever particles the source holds
abbrev pub Steps : (ℕ → ℕ → ℤ) → ℕ → Settings → List ℤ → Result Unit Refusal → List ℕ → List ℤ → List ℤ → List ℤ → Type 0
Steps w D s source r mass px py target =
    (ps : List Particle) → Holds s.nx s.ny source ps → StepLeaves w D s ps r mass px py target

-- ---- a run, back and forth between two arrays

-- the array that holds the particles after so many steps, and the other
abbrev pub current : ℕ → List ℤ → List ℤ → List ℤ
current steps a b = cond (eqb (steps % 2) 0) a b

abbrev pub other : ℕ → List ℤ → List ℤ → List ℤ
other steps a b = current steps b a

pub record Turns (w : ℕ → ℕ → ℤ) (D : ℕ) (s : Settings) (steps : ℕ) (a b : List ℤ) (r : Result Unit Refusal) (mass : List ℕ) (px py a' b' : List ℤ) : Type 0 where
  pub kept : current steps a' b' ≡ current steps a b
  pub step : Steps w D s (current steps a b) r mass px py (other steps a' b')

-- the records after so many steps that led to the particles qs: where there was none they are as they were
abbrev pub records_after : List ℕ → ℕ → List Particle → List ℕ
records_after records zero qs = records
records_after records (suc n) qs = records_of qs

abbrev pub completed_by : Result ℕ Stop → ℕ
completed_by r = (told_ran r).completed

-- a run from the particles ps: those that the array holds after it, with their labels, and what a caller sees who gave
-- any records
pub record RepeatsFrom (w : ℕ → ℕ → ℤ) (D : ℕ) (s : Settings) (steps : ℕ) (ps : List Particle) (grids : Grids) (r : Result ℕ Stop) (mass : List ℕ) (px py a b : List ℤ) : Type 0 where
  pub particles : List Particle
  pub holds : Holds s.nx s.ny (current (completed_by r) a b) particles
  pub labelled : labels particles ≡ labels ps
  pub is : (records : List ℕ) → seen (told_ran r) (records_after records (completed_by r) particles) (grids_of mass px py) ≡ run_by w D s steps records ps grids

-- whichever particles the source holds
abbrev pub Repeats : (ℕ → ℕ → ℤ) → ℕ → Settings → ℕ → List ℤ → Grids → Result ℕ Stop → List ℕ → List ℤ → List ℤ → List ℤ → List ℤ → Type 0
Repeats w D s steps source grids r mass px py a b =
    (ps : List Particle) → Holds s.nx s.ny source ps → RepeatsFrom w D s steps ps grids r mass px py a b

-- the records after so many steps that led to the particles of this array, whichever they are
abbrev pub Settles : ℕ → List ℤ → List ℕ → List ℕ → Type 0
Settles steps l records records' =
    (ps : List Particle) → l ≡ unpacked ps → labels ps ≡ labels (particles_in records) → records' ≡ records_after records steps ps

-- what a run of accepted records answers and leaves
abbrev pub Runs : Settings → ℕ → List ℕ → List ℕ → List ℤ → List ℤ → Result ℕ Stop → List ℕ → List ℕ → List ℤ → List ℤ → Type 0
Runs s steps records mass px py r records' mass' px' py' =
    seen (told_ran r) records' (grids_of mass' px' py') ≡ run_from s steps records (particles_in records) (grids_of mass px py)

-- an accepted set and its grids
pub record RunReady (s : Settings) (records mass : List ℕ) (px py : List ℤ) : Type 0 where
  pub particles : List Particle
  pub set : set_answer Bench s.nx s.ny records ≡ gives particles
  pub most : length records ≤ set_length
  pub forces : ForceLimits s
  pub mass-long : length mass ≡ s.nx * s.ny
  pub px-long : length px ≡ s.nx * s.ny
  pub py-long : length py ≡ s.nx * s.ny
