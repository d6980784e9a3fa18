-- What a line of three nodes and a block of three lines add to a grid's list, as the code adds it, and the bounds within
-- which it is called. Assumes nothing.
use Rattle.std.specs.Prelude.{◌≡◌, List, map, ℕ, ◌+◌, ◌-◌, ◌*◌, ◌≤◌, ◌<◌, length, ℤ, pos, ◌+ℤ◌, ◌-ℤ◌, ◌*ℤ◌}
use Rattle.arith.specs.Size.{Bound}
use Rattle.limits.specs.Limits.{most_mass, most_velocity, most_affine}
use Rattle.spline.specs.declared.AxisWeights.{AxisWeights}
use Rattle.spline.specs.Kernel.{most_d, WeightsMost}
use Rattle.grid_cells.specs.Cells.{add_row, add_mass_row, Cells, most_held}

-- ---- a line

-- mass times weight at each of the three nodes, times s, which changes by b from node to node
unfoldable pub momentum_row : List ℤ → ℕ → ℕ → ℕ → ℕ → ℤ → ℤ → List ℤ
momentum_row l k lower nearest upper s b =
    add_row l k (pos lower *ℤ (s -ℤ b)) (pos nearest *ℤ s) (pos upper *ℤ (s +ℤ b))

-- the most of mass times one axis's weight, and times the weights of both
abbrev pub most_line_mass : ℕ
most_line_mass = most_mass * 8192

abbrev pub most_mass_weight : ℕ
most_mass_weight = most_mass * 67108864

-- the most of b, 64 times an entry of B; of s at the nearest node, which is D·v and two entries of B times at most 32; of s
-- one line from it; and of s at any of the nine nodes
abbrev pub most_change : ℕ
most_change = 64 * most_affine

abbrev pub most_middle : ℕ
most_middle = most_d * most_velocity + 2 * (most_affine * 32)

abbrev pub most_speed : ℕ
most_speed = most_middle + most_change

abbrev pub most_rate : ℕ
most_rate = most_speed + most_change

pub record MomentumLimits (l : List ℤ) (k lower nearest upper : ℕ) (s b : ℤ) : Type 0 where
  pub low : 1 ≤ k
  pub high : k + 1 < length l
  pub cells : Cells most_held l
  pub lower-most : lower ≤ most_mass_weight
  pub nearest-most : nearest ≤ most_mass_weight
  pub upper-most : upper ≤ most_mass_weight
  pub s-most : Bound s most_speed
  pub b-most : Bound b most_change

-- the three grids have as many cells as size says, and none is above n
pub record Held (n size : ℕ) (mass : List ℕ) (px py : List ℤ) : Type 0 where
  pub mass-long : length mass ≡ size
  pub px-long : length px ≡ size
  pub py-long : length py ≡ size
  pub mass-cells : Cells n (map pos mass)
  pub px-cells : Cells n px
  pub py-cells : Cells n py

-- a line around cell k, with what is added to it
pub record LineNumbers (size k c : ℕ) (w : AxisWeights) (sx bx sy by : ℤ) : Type 0 where
  pub low : 1 ≤ k
  pub high : k + 1 < size
  pub c-most : c ≤ most_line_mass
  pub weights : WeightsMost w
  pub sx-most : Bound sx most_speed
  pub bx-most : Bound bx most_change
  pub sy-most : Bound sy most_speed
  pub by_most : Bound by most_change

pub record LineLimits (size : ℕ) (mass : List ℕ) (px py : List ℤ) (k c : ℕ) (w : AxisWeights) (sx bx sy by : ℤ) : Type 0 where
  pub held : Held most_held size mass px py
  pub numbers : LineNumbers size k c w sx bx sy by

unfoldable pub mass_line : List ℕ → ℕ → ℕ → AxisWeights → List ℕ
mass_line l k c w = add_mass_row l k (c * w.lower) (c * w.nearest) (c * w.upper)

unfoldable pub momentum_line : List ℤ → ℕ → ℕ → AxisWeights → ℤ → ℤ → List ℤ
momentum_line l k c w s b = momentum_row l k (c * w.lower) (c * w.nearest) (c * w.upper) s b

pub record LineAdded (mass : List ℕ) (px py : List ℤ) (mass' : List ℕ) (px' py' : List ℤ) (k c : ℕ) (w : AxisWeights) (sx bx sy by : ℤ) : Type 0 where
  pub of-mass : mass' ≡ mass_line mass k c w
  pub of-px : px' ≡ momentum_line px k c w sx bx
  pub of-py : py' ≡ momentum_line py k c w sy by

-- ---- a block

-- the most that a cell may hold before a block is added
abbrev pub most_before : ℕ
most_before = 8700000000000000000

pub record BlockLimits (size nx : ℕ) (mass : List ℕ) (px py : List ℤ) (k m : ℕ) (wx wy : AxisWeights) (sx bxx bxy sy byx byy : ℤ) : Type 0 where
  pub low : nx + 1 ≤ k
  pub high : k + nx + 1 < size
  pub held : Held most_before size mass px py
  pub m-most : m ≤ most_mass
  pub x-weights : WeightsMost wx
  pub y-weights : WeightsMost wy
  pub sx-most : Bound sx most_middle
  pub bxx-most : Bound bxx most_change
  pub bxy-most : Bound bxy most_change
  pub sy-most : Bound sy most_middle
  pub byx-most : Bound byx most_change
  pub byy-most : Bound byy most_change

unfoldable pub mass_block : ℕ → List ℕ → ℕ → ℕ → AxisWeights → AxisWeights → List ℕ
mass_block nx l k m wx wy =
    mass_line (mass_line (mass_line l (k - nx) (m * wy.lower) wx) k (m * wy.nearest) wx) (k + nx) (m * wy.upper) wx

-- s changes by b along a line and by c from line to line
unfoldable pub momentum_block : ℕ → List ℤ → ℕ → ℕ → AxisWeights → AxisWeights → ℤ → ℤ → ℤ → List ℤ
momentum_block nx l k m wx wy s b c =
    momentum_line
    (momentum_line (momentum_line l (k - nx) (m * wy.lower) wx (s -ℤ c) b) k (m * wy.nearest) wx s b)
    (k + nx) (m * wy.upper) wx (s +ℤ c) b

pub record BlockAdded (nx : ℕ) (mass : List ℕ) (px py : List ℤ) (mass' : List ℕ) (px' py' : List ℤ) (k m : ℕ) (wx wy : AxisWeights) (sx bxx bxy sy byx byy : ℤ) : Type 0 where
  pub of-mass : mass' ≡ mass_block nx mass k m wx wy
  pub of-px : px' ≡ momentum_block nx px k m wx wy sx bxx bxy
  pub of-py : py' ≡ momentum_block nx py k m wx wy sy byx byy
