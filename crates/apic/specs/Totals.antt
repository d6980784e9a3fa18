-- Document 01, "Totals", with document 02's motion and marks: the sums over a list of particles, gravity's torque in a step,
-- and what drag and rim change.
-- Gravity is in 256ths, so its torque is what stands here divided by 256. Assumes nothing.
use Rattle.std.specs.Prelude.{List, ℕ, ◌*◌, ℤ, pos, ◌+ℤ◌, ◌-ℤ◌, ◌*ℤ◌}
use Rattle.arith.specs.Sums.{sum_over, total_over}
use Rattle.particle.specs.declared.Particle.{Particle}
use Rattle.settings.specs.declared.Settings.{Settings}
use Rattle.apic.specs.Step.{Axis, along_x, along_y, velocity, gravity, node_mass, over_nodes, after_gravity, after_update}

abbrev pub total_mass : List Particle → ℕ
total_mass ps = total_over ps (λ p. p.mass)

-- px and py
abbrev pub momentum : Axis → List Particle → ℤ
momentum a ps = sum_over ps (λ p. pos p.mass *ℤ velocity a p)

-- one particle's angular momentum about node (0, 0) for each unit of its mass, affine part included
abbrev pub spin_per_mass : Particle → ℤ
spin_per_mass p = pos p.x *ℤ p.vy -ℤ pos p.y *ℤ p.vx +ℤ p.byx -ℤ p.bxy

-- spin
abbrev pub angular_momentum : List Particle → ℤ
angular_momentum ps = sum_over ps (λ p. pos p.mass *ℤ spin_per_mass p)

-- one particle's motion for each unit of its mass, its turning part in the second line; D is the weights' second moment
abbrev pub motion_per_mass : ℕ → Particle → ℤ
motion_per_mass D p =
    pos D *ℤ (p.vx *ℤ p.vx +ℤ p.vy *ℤ p.vy)
    +ℤ (p.bxx *ℤ p.bxx +ℤ p.bxy *ℤ p.bxy +ℤ p.byx *ℤ p.byx +ℤ p.byy *ℤ p.byy)

-- motion
abbrev pub motion : ℕ → List Particle → ℤ
motion D ps = sum_over ps (λ p. pos p.mass *ℤ motion_per_mass D p)

-- marks
abbrev pub total_marks : List Particle → ℕ
total_marks ps = total_over ps (λ p. p.marks)

-- gravity's torque in a step, times 256, over the places before it
abbrev pub torque : ℤ → ℤ → List Particle → ℤ
torque gx gy ps = sum_over ps (λ p. pos p.mass *ℤ (pos p.x *ℤ gy -ℤ pos p.y *ℤ gx))

-- the change that drag and rim make of a node's velocity on an axis, in 256ths
unfoldable pub node_change : (ℤ → ℕ → ℤ) → (ℕ → ℕ → ℤ) → ℕ → Settings → Axis → List Particle → ℕ → ℕ → ℤ
node_change round w D s a ps i j = after_update round w D s a ps i j -ℤ after_gravity round w D (gravity s a) a ps i j

-- the impulse of drag and rim in a step, times 2^34: each node's change times its mass
abbrev pub impulse : (ℤ → ℕ → ℤ) → (ℕ → ℕ → ℤ) → ℕ → Settings → Axis → List Particle → ℤ
impulse round w D s a ps =
    over_nodes s.nx s.ny (λ i j. node_mass w ps i j *ℤ node_change round w D s a ps i j)

-- their angular impulse about node (0, 0), times 2^34: node (i, j) stands at (64i, 64j)
abbrev pub angular_impulse : (ℤ → ℕ → ℤ) → (ℕ → ℕ → ℤ) → ℕ → Settings → List Particle → ℤ
angular_impulse round w D s ps =
    over_nodes s.nx s.ny
    (λ i j.
    node_mass w ps i j
    *ℤ (pos (64 * i) *ℤ node_change round w D s along_y ps i j -ℤ pos (64 * j) *ℤ node_change round w D s along_x ps i j))

-- the sum of mass times (x + y)
abbrev pub first_moment : List Particle → ℤ
first_moment ps = sum_over ps (λ p. pos p.mass *ℤ (pos p.x +ℤ pos p.y))
