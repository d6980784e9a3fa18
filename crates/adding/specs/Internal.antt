-- What the internal functions of the adding scatter are given and leave: their contracts name these, and no public one does.
-- Assumes nothing.
use Rattle.std.specs.Prelude.{◌≡◌, List, map, ℕ, ◌+◌, ◌*◌, ◌≤◌, ◌<◌, length, get_or, ℤ, pos, ◌+ℤ◌}
use Rattle.std.specs.Int.{w64}
use Rattle.std.proofs.Common.{Fits, SFits}
use Rattle.arith.specs.Size.{Bound}
use Rattle.arith.specs.Sums.{up_to}
use Rattle.limits.specs.Limits.{most_side, most_node_mass, most_present_momentum}
use Rattle.refusal.specs.Refused.{Answer}
use Rattle.apic.specs.Step.{Grids, grids_of}
use Rattle.particles.specs.Set.{particles_in}
use Rattle.transfer.specs.Transfer.{scatter_of}
use Rattle.transfer.specs.Internal.{ScatterSet}
use Rattle.adding.specs.Adding.{added_grids, Adds}

-- two grids of one length, whose sums node by node fit a cell
pub record SumRoom {A : Type 0} (zero : A) (fits : A → A → Type 0) (l m : List A) : Type 0 where
  pub same : length m ≡ length l
  pub each : (k : ℕ) → k < length l → fits (get_or l k zero) (get_or m k zero)

-- the sums of two grids of n nodes
abbrev pub cell_sums : {A : Type 0} → A → (A → A → A) → ℕ → List A → List A → List A
cell_sums zero sum n l m = map (λ k. sum (get_or l k zero) (get_or m k zero)) (up_to n)

-- of masses, and of momenta on an axis
abbrev pub MassRoom : List ℕ → List ℕ → Type 0
MassRoom = SumRoom 0 (λ x y. Fits w64 (x + y))

abbrev pub MomentumRoom : List ℤ → List ℤ → Type 0
MomentumRoom = SumRoom (pos 0) (λ x y. SFits w64 (x +ℤ y))

-- grids of n nodes
pub record Sized (n : ℕ) (mass : List ℕ) (px py : List ℤ) : Type 0 where
  pub mass-long : length mass ≡ n
  pub px-long : length px ≡ n
  pub py-long : length py ≡ n

-- grids of n nodes, and masses that they would gain, none of them above 2^43
pub record Gaining (n : ℕ) (mass : List ℕ) (px py : List ℤ) (gain : List ℕ) : Type 0 where
  pub held : Sized n mass px py
  pub gain-long : length gain ≡ n
  pub light : (k : ℕ) → k < n → get_or gain k 0 ≤ most_node_mass

-- 20's test as a fact: a mass of at most 2^43, and momenta of at most 457,536 times it
pub record Moderate (M : ℕ) (px py : ℤ) : Type 0 where
  pub light : M ≤ most_node_mass
  pub slow-x : Bound px (M * most_present_momentum)
  pub slow-y : Bound py (M * most_present_momentum)

-- at each of n nodes
abbrev pub ModerateGrids : ℕ → Grids → Type 0
ModerateGrids n g = (k : ℕ) → k < n → Moderate (get_or g.mass k 0) (get_or g.x k (pos 0)) (get_or g.y k (pos 0))

-- two grids of n nodes, the second as a scatter leaves them
pub record Addable (n : ℕ) (mass : List ℕ) (px py : List ℤ) (mass' : List ℕ) (px' py' : List ℤ) : Type 0 where
  pub held : Sized n mass px py
  pub gain : Sized n mass' px' py'
  pub moderate : ModerateGrids n (grids_of mass' px' py')

-- a set that is accepted, grids of its size, and room for as many nodes
pub record Through (nx ny : ℕ) (records mass : List ℕ) (px py : List ℤ) (a : List ℕ) (b c : List ℤ) : Type 0 where
  pub set : ScatterSet nx ny records mass px py
  pub a-room : nx * ny ≤ length a
  pub b-room : nx * ny ≤ length b
  pub c-room : nx * ny ≤ length c

-- what is told and left where the particles of a set that is accepted are added
abbrev pub AddsSet : ℕ → ℕ → List ℕ → List ℕ → List ℤ → List ℤ → Answer Unit → List ℕ → List ℤ → List ℤ → Type 0
AddsSet nx ny records mass px py told mass' px' py' =
    Adds (added_grids (nx * ny) (grids_of mass px py) (scatter_of nx ny (particles_in records))) mass px py told mass' px' py'

-- the larger arrays for a set's own grids have room for so many nodes
abbrev pub most_room : ℕ
most_room = most_side * most_side + 64
