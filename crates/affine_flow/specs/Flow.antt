-- Document 02, Paper 7: an affine flow comes back exactly. This file says what such a flow is, what a step leaves of it, and the
-- theorems: of a step by its promise; of a run where the flow is a uniform drift; and of a step's definition over any weights with
-- the moments and any D. Places and velocities are in the engine's units, nodes 64 apart. Assumes nothing.
use Rattle.std.specs.Prelude.{◌≡◌, List, [], ◌∷◌, ℕ, ◌*◌, ◌<◌, ◌≤◌, ℤ, pos, ◌+ℤ◌, ◌*ℤ◌}
use Rattle.refusal.specs.Refused.{Answer, gives, done}
use Rattle.arith.specs.Sums.{Each}
use Rattle.limits.specs.declared.Caller.{Caller}
use Rattle.particle.specs.declared.Particle.{Particle}
use Rattle.particles.specs.Set.{particles_in}
use Rattle.settings.specs.declared.Settings.{Settings}
use Rattle.settings.specs.Settings.{Plain}
use Rattle.apic.specs.Step.{Axis, along_x, along_y, coordinate, velocity, affine, gravity, Grids}
use Rattle.apic.specs.Motion.{Placed}
use Rattle.simulation.specs.Step.{Sees, step_by, step_after}
use Rattle.simulation.specs.Run.{Completion, run_after}

-- ---- a flow

-- one vector A, in 256ths of a velocity unit, and one B: velocity axis, then offset axis
pub record Flow : Type 0 where
  pub A : Axis → ℤ
  pub B : Axis → Axis → ℤ

-- B·place on a velocity axis
abbrev pub times_place : Flow → Axis → ℕ → ℕ → ℤ
times_place f a x y = f.B a along_x *ℤ pos x +ℤ f.B a along_y *ℤ pos y

-- the particle has the flow's B, and its v is A + B·(its place)/D: with D = 256·k it is D·v = k·A + B·place, and so for the
-- engine's D 1024·v = 4·A + B·place
pub record Follows (D k : ℕ) (f : Flow) (p : Particle) : Type 0 where
  pub its-affine : (a b : Axis) → affine a b p ≡ f.B a b
  pub its-velocity : (a : Axis) → pos D *ℤ velocity a p ≡ pos k *ℤ f.A a +ℤ times_place f a p.x p.y

-- B = 0
abbrev pub drift : (Axis → ℤ) → Flow
drift A = record { A = A; B = λ a b. pos 0 }

-- open edges, no drag, no gravity
pub record Unforced (s : Settings) : Type 0 where
  pub plain : Plain s
  pub no-gravity : (a : Axis) → gravity s a ≡ pos 0

-- ---- what a step leaves of it

-- q is p moved by n times its v, with v, B, identifier, mass and marks as they were
pub record MovedBy (n : ℕ) (p q : Particle) : Type 0 where
  pub same-velocity : (a : Axis) → velocity a q ≡ velocity a p
  pub same-affine : (a b : Axis) → affine a b q ≡ affine a b p
  pub same-identifier : q.identifier ≡ p.identifier
  pub same-mass : q.mass ≡ p.mass
  pub same-marks : q.marks ≡ p.marks
  pub new-place : (a : Axis) → pos (coordinate a q) ≡ pos (coordinate a p) +ℤ pos n *ℤ velocity a p

-- two lists of one length, and R of the elements at each place
abbrev pub EachPair : {A : Type 0} → (A → A → Type 0) → List A → List A → Type 0
EachPair R [] [] = Unit {0}
EachPair R [] (y ∷ ys) = ⊥
EachPair R (x ∷ xs) [] = ⊥
EachPair R (x ∷ xs) (y ∷ ys) = R x y × EachPair R xs ys

-- ---- step

-- "a step that isn't refused", by what its promise says that a caller sees. A set that is not accepted is refused
abbrev pub StepKeepsFlow : Type 0
StepKeepsFlow =
    (caller : Caller) (s : Settings) → Unforced s → (f : Flow) (records : List ℕ) → Each (Follows 1024 4 f) (particles_in records) → (grids : Grids)
    → (told : Answer Unit) (after mass : List ℕ) (x y : List ℤ) → Sees (step_after caller s records grids) told after mass x y
    → told ≡ done → EachPair (MovedBy 1) (particles_in records) (particles_in after)

-- ---- run

-- as many steps as are wanted where nothing stops it; and each particle is moved by as many times its v as steps are completed
pub record Drifts (steps : ℕ) (told : Completion) (before after : List Particle) : Type 0 where
  pub unstopped : told.stop ≡ done → told.completed ≡ steps
  pub each : EachPair (MovedBy told.completed) before after

-- "a uniform drift is the case B = 0": a run of any length, refused at entry or not, stopped or not
abbrev pub RunKeepsDrift : Type 0
RunKeepsDrift =
    (caller : Caller) (s : Settings) → Unforced s → (A : Axis → ℤ) (records : List ℕ) → Each (Follows 1024 4 (drift A)) (particles_in records)
    → (steps : ℕ) (grids : Grids)
    → (told : Completion) (after mass : List ℕ) (x y : List ℤ) → Sees (run_after caller s steps records grids) told after mass x y
    → Drifts steps told (particles_in records) (particles_in after)

-- ---- any weights, any D

-- "A + B·(node place)/D must then be a whole number of 256ths at every node" (Paper 11): u of node (i, j), at (64·i, 64·j)
pub record WholeAtNodes (D : ℕ) (f : Flow) (nx ny : ℕ) : Type 0 where
  pub u : Axis → ℕ → ℕ → ℤ
  pub is : (a : Axis) (i j : ℕ) → i < nx → j < ny → pos D *ℤ u a i j ≡ pos D *ℤ f.A a +ℤ pos 256 *ℤ times_place f a (64 * i) (64 * j)

-- D divides 16384·B entry by entry
pub record Divides (D : ℕ) (f : Flow) : Type 0 where
  pub quotient : Axis → Axis → ℤ
  pub is : (a b : Axis) → pos D *ℤ quotient a b ≡ pos 16384 *ℤ f.B a b

-- of two nodes or more each way, the two are the same
pub record EntriesAndNodes (D : ℕ) (f : Flow) (nx ny : ℕ) : Type 0 where
  pub nodes : Divides D f → WholeAtNodes D f nx ny
  pub entries : WholeAtNodes D f nx ny → Divides D f

abbrev pub WholeByEntries : Type 0
WholeByEntries = (D : ℕ) (f : Flow) (nx ny : ℕ) → 2 ≤ nx → 2 ≤ ny → EntriesAndNodes D f nx ny

-- 1024 divides every B so
abbrev pub SplineDivides : Type 0
SplineDivides = (f : Flow) → Divides 1024 f

-- a step's definition, of particles with mass whose weights have the moments
abbrev pub FlowComesBack : Type 0
FlowComesBack =
    (w : ℕ → ℕ → ℤ) (D k : ℕ) → D ≡ 256 * k → 0 < k → (s : Settings) → Unforced s
    → (f : Flow) → WholeAtNodes D f s.nx s.ny → (ps : List Particle) → Each (Placed w D s.nx s.ny) ps
    → Each (λ p. 0 < p.mass) ps → Each (Follows D k f) ps
    → (qs : List Particle) → step_by w D s ps ≡ gives qs → EachPair (MovedBy 1) ps qs
