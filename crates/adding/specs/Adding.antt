-- Document 02, paper 4: "an adding scatter puts a set on a grid that already holds masses and momenta". What it answers to a
-- caller for any numbers and any buffers, and what the grids hold afterwards. Assumes nothing.
use Rattle.std.specs.Prelude.{Bool, not, List, map, ℕ, ◌+◌, ◌*◌, ltb, length, get_or, ℤ, pos, ◌+ℤ◌}
use Rattle.arith.specs.Sums.{up_to}
use Rattle.refusal.specs.Refused.{Answer, gives, refuse_if, and_then, done, for_each, Leaves}
use Rattle.limits.specs.Limits.{most_node_mass, most_present_momentum}
use Rattle.limits.specs.declared.Caller.{Caller}
use Rattle.apic.specs.Step.{Grids, grids_of}
use Rattle.node_momentum.specs.Momentum.{momenta_within}
use Rattle.transfer.specs.Transfer.{scatter_answer, scatter_of}

-- ---- the checks of a node

-- a present node that may be added to: mass at most 2^43, and momentum on each axis at most 457,536 times it
abbrev pub valid_present : ℕ → ℤ → ℤ → Bool
valid_present M px py = momenta_within most_present_momentum M px py

-- node k with its mass and momenta, and the mass that it would gain: 20, and after it 21 where the sum is above 2^43
unfoldable pub check_node : ℕ → ℕ → ℤ → ℤ → ℕ → Answer Unit
check_node k M px py gain =
    refuse_if (not (valid_present M px py)) 20 k (refuse_if (ltb most_node_mass (M + gain)) 21 k done)

abbrev pub check_node_at : Grids → List ℕ → ℕ → Answer Unit
check_node_at g gain k = check_node k (get_or g.mass k 0) (get_or g.x k (pos 0)) (get_or g.y k (pos 0)) (get_or gain k 0)

unfoldable pub check_nodes : ℕ → Grids → List ℕ → Answer Unit
check_nodes n g gain = for_each (check_node_at g gain) 0 n

-- ---- the sums

-- of two grids of n nodes, node by node
unfoldable pub mass_sums : ℕ → List ℕ → List ℕ → List ℕ
mass_sums n l m = map (λ k. get_or l k 0 + get_or m k 0) (up_to n)

unfoldable pub momentum_sums : ℕ → List ℤ → List ℤ → List ℤ
momentum_sums n l m = map (λ k. get_or l k (pos 0) +ℤ get_or m k (pos 0)) (up_to n)

abbrev pub grid_sums : ℕ → Grids → Grids → Grids
grid_sums n g h = grids_of (mass_sums n g.mass h.mass) (momentum_sums n g.x h.x) (momentum_sums n g.y h.y)

-- grids h added to grids g: for each node 20, 21; the result is the sums
unfoldable pub added_grids : ℕ → Grids → Grids → Answer Grids
added_grids n g h = and_then (check_nodes n g h.mass) (λ _. gives (grid_sums n g h))

-- ---- the operation

-- 2; 1, also for the grid buffers; 3; the set; then what scatter makes of its particles is added
unfoldable pub adding_answer : Caller → ℕ → ℕ → List ℕ → Grids → Answer Grids
adding_answer caller nx ny records g =
    and_then (scatter_answer caller nx ny records (length g.mass) (length g.x) (length g.y))
    (λ ps. added_grids (nx * ny) g (scatter_of nx ny ps))

-- what is told of an answer, and the three grids that are left: its result, or what they were
abbrev pub Adds : Answer Grids → List ℕ → List ℤ → List ℤ → Answer Unit → List ℕ → List ℤ → List ℤ → Type 0
Adds a mass px py told mass' px' py' = Leaves a (λ g. g) (grids_of mass px py) told (grids_of mass' px' py')

abbrev pub AddingIs : Caller → ℕ → ℕ → List ℕ → List ℕ → List ℤ → List ℤ → Answer Unit → List ℕ → List ℤ → List ℤ → Type 0
AddingIs caller nx ny records mass px py told mass' px' py' =
    Adds (adding_answer caller nx ny records (grids_of mass px py)) mass px py told mass' px' py'
