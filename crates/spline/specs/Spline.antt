-- Document 01, "Units" and "Spline": nodes 64 position units apart, and the quadratic B-spline in whole numbers.
-- Assumes nothing.
use Rattle.std.specs.Prelude.{Bool, cond, ◌&&◌, ℕ, ◌+◌, ◌-◌, ◌*◌, ◌/◌, eqb, leb, ℤ, pos, ◌+ℤ◌, ◌-ℤ◌, ◌*ℤ◌}

-- the nearest node of coordinate x, and the offset from it, −32 to 31
unfoldable pub nearest_node : ℕ → ℕ
nearest_node x = (x + 32) / 64

unfoldable pub offset : ℕ → ℤ
offset x = pos x -ℤ pos (64 * nearest_node x)

-- x is on an axis of n nodes
unfoldable pub on_axis : ℕ → ℕ → Bool
on_axis n x = leb 32 x && leb x (64 * (n - 1) - 33)

-- node i minus particle, along one axis
abbrev pub displacement : ℕ → ℕ → ℤ
displacement x i = pos (64 * i) -ℤ pos x

-- the spline's second moment: a quarter of the squared spacing (source document 002)
abbrev pub D : ℕ
D = 1024

-- the weights of the lower, the nearest and the upper node at offset q
abbrev pub lower_weight : ℤ → ℤ
lower_weight q = (pos 32 -ℤ q) *ℤ (pos 32 -ℤ q)

abbrev pub nearest_weight : ℤ → ℤ
nearest_weight q = pos 6144 -ℤ pos 2 *ℤ (q *ℤ q)

abbrev pub upper_weight : ℤ → ℤ
upper_weight q = (pos 32 +ℤ q) *ℤ (pos 32 +ℤ q)

-- the weight of node i of an axis for a particle at x; all nodes but three weigh 0
unfoldable pub axis_weight : ℕ → ℕ → ℤ
axis_weight x i =
    cond (eqb (i + 1) (nearest_node x)) (lower_weight (offset x))
    (cond (eqb i (nearest_node x)) (nearest_weight (offset x))
    (cond (eqb i (nearest_node x + 1)) (upper_weight (offset x)) (pos 0)))
