-- Document 01, "The step", with document 02's edges and drag: source document 003's transfers (3) and (4) in whole numbers.
-- The weights w of an axis (w x i: node i for a particle at x), their second moment D and the rounding are parameters. The
-- engine's are spline's axis_weight and D, and arith's rounded. Assumes nothing.
use Rattle.std.specs.Prelude.{Bool, false, cond, ◌||◌, List, map, ℕ, zero, suc, ◌+◌, ◌*◌, ◌/◌, ◌%◌, ◌^◌, ltb, leb, get_or, ℤ, pos, nat_abs, ◌+ℤ◌, ◌-ℤ◌, ◌*ℤ◌}
use Rattle.arith.specs.Sums.{sum_over, up_to}
use Rattle.spline.specs.Spline.{displacement}
use Rattle.particle.specs.declared.Particle.{Particle}
use Rattle.settings.specs.declared.Edge.{Edge}
use Rattle.settings.specs.declared.Edge.TheVariants.{Open, Sticky, Slip}
use Rattle.settings.specs.declared.Settings.{Settings}

pub data Axis : Type 0 where
  along_x along_y : Axis

-- a particle's coordinate and velocity along an axis; B pairs velocity axis a with offset axis b
abbrev pub coordinate : Axis → Particle → ℕ
coordinate along_x p = p.x
coordinate along_y p = p.y

abbrev pub velocity : Axis → Particle → ℤ
velocity along_x p = p.vx
velocity along_y p = p.vy

abbrev pub affine : Axis → Axis → Particle → ℤ
affine along_x along_x p = p.bxx
affine along_x along_y p = p.bxy
affine along_y along_x p = p.byx
affine along_y along_y p = p.byy

-- node (i, j) minus particle, along an axis
abbrev pub apart : Axis → Particle → ℕ → ℕ → ℤ
apart along_x p i j = displacement p.x i
apart along_y p i j = displacement p.y j

-- the weight of node (i, j): the product over both axes
abbrev pub weight : (ℕ → ℕ → ℤ) → Particle → ℕ → ℕ → ℤ
weight w p i j = w p.x i *ℤ w p.y j

-- ---- scatter, transfer (3)

-- M = Σ m·w over all particles
unfoldable pub node_mass : (ℕ → ℕ → ℤ) → List Particle → ℕ → ℕ → ℤ
node_mass w ps i j = sum_over ps (λ p. pos p.mass *ℤ weight w p i j)

-- D times the velocity that a particle carries to node (i, j) on axis a: D·va + Bax·dx + Bay·dy
abbrev pub carried : ℕ → Axis → Particle → ℕ → ℕ → ℤ
carried D a p i j =
    pos D *ℤ velocity a p +ℤ affine a along_x p *ℤ apart along_x p i j +ℤ affine a along_y p *ℤ apart along_y p i j

-- momentum on axis a = Σ m·w·(D·va + Bax·dx + Bay·dy) over all particles
unfoldable pub node_momentum : (ℕ → ℕ → ℤ) → ℕ → Axis → List Particle → ℕ → ℕ → ℤ
node_momentum w D a ps i j = sum_over ps (λ p. pos p.mass *ℤ weight w p i j *ℤ carried D a p i j)

-- ---- update

-- where the mass M is above 0, velocity in 256ths = momentum/(M·D/256), rounded, plus gravity; where M is 0 it is 0
unfoldable pub node_velocity : (ℤ → ℕ → ℤ) → ℕ → ℤ → ℕ → ℤ → ℤ
node_velocity round D g zero momentum = pos 0
node_velocity round D g (suc M) momentum = round momentum (D / 256 * suc M) +ℤ g

abbrev pub gravity : Settings → Axis → ℤ
gravity s along_x = s.gx
gravity s along_y = s.gy

-- after gravity a velocity u loses u·drag/256, rounded
unfoldable pub after_drag : (ℤ → ℕ → ℤ) → ℕ → ℤ → ℤ
after_drag round drag u = u -ℤ round (u *ℤ pos drag) 256

-- column i of n, or row: whether it is among the outermost to this width
abbrev pub in_band : ℕ → ℕ → ℕ → Bool
in_band width n i = ltb i width || leb n (i + width)

-- where the rim holds node (i, j) on an axis: sticky in the band on both; slip on x in the band's columns, on y in its rows
abbrev pub holds : Edge → ℕ → ℕ → Axis → ℕ → ℕ → Bool
holds Open nx ny a i j = false
holds (Sticky width) nx ny a i j = in_band width nx i || in_band width ny j
holds (Slip width) nx ny along_x i j = in_band width nx i
holds (Slip width) nx ny along_y i j = in_band width ny j

-- its velocity is 0 there
abbrev pub after_rim : Settings → Axis → ℕ → ℕ → ℤ → ℤ
after_rim s a i j u = cond (holds s.edge s.nx s.ny a i j) (pos 0) u

-- what the update leaves at node (i, j) on an axis: velocity after gravity, then drag, then the rim
unfoldable pub updated_velocity : (ℤ → ℕ → ℤ) → ℕ → Settings → Axis → ℕ → ℕ → ℕ → ℤ → ℤ
updated_velocity round D s a i j M momentum =
    after_rim s a i j (after_drag round s.drag (node_velocity round D (gravity s a) M momentum))

-- of the nodes after a scatter of ps: after gravity g, and what the update leaves
abbrev pub after_gravity : (ℤ → ℕ → ℤ) → (ℕ → ℕ → ℤ) → ℕ → ℤ → Axis → List Particle → ℕ → ℕ → ℤ
after_gravity round w D g a ps i j = node_velocity round D g (nat_abs (node_mass w ps i j)) (node_momentum w D a ps i j)

abbrev pub after_update : (ℤ → ℕ → ℤ) → (ℕ → ℕ → ℤ) → ℕ → Settings → Axis → List Particle → ℕ → ℕ → ℤ
after_update round w D s a ps i j = updated_velocity round D s a i j (nat_abs (node_mass w ps i j)) (node_momentum w D a ps i j)

-- ---- gather, transfer (4)

-- a sum over all nodes of a grid
abbrev pub over_nodes : ℕ → ℕ → (ℕ → ℕ → ℤ) → ℤ
over_nodes nx ny f = sum_over (up_to ny) (λ j. sum_over (up_to nx) (λ i. f i j))

-- velocity = Σ w·u over all nodes, divided by 2^34, rounded; u is the nodes' velocity on one axis
unfoldable pub gathered_velocity : (ℤ → ℕ → ℤ) → (ℕ → ℕ → ℤ) → ℕ → ℕ → (ℕ → ℕ → ℤ) → Particle → ℤ
gathered_velocity round w nx ny u p = round (over_nodes nx ny (λ i j. weight w p i j *ℤ u i j)) (2 ^ 34)

-- an entry of B = Σ w·u·(offset b) over all nodes, divided by 2^34, rounded
unfoldable pub gathered_affine : (ℤ → ℕ → ℤ) → (ℕ → ℕ → ℤ) → ℕ → ℕ → Axis → (ℕ → ℕ → ℤ) → Particle → ℤ
gathered_affine round w nx ny b u p =
    round (over_nodes nx ny (λ i j. weight w p i j *ℤ u i j *ℤ apart b p i j)) (2 ^ 34)

-- the new coordinate: the old one and the new velocity
abbrev pub new_coordinate : Axis → Particle → ℤ → ℤ
new_coordinate a p v = pos (coordinate a p) +ℤ v

-- the particle after the gather; its coordinates are numbers of a record where the new place is on the grid
unfoldable pub moved : (ℤ → ℕ → ℤ) → (ℕ → ℕ → ℤ) → ℕ → ℕ → (ℕ → ℕ → ℤ) → (ℕ → ℕ → ℤ) → Particle → Particle
moved round w nx ny ux uy p =
    record {
      identifier = p.identifier;
      mass = p.mass;
      x = nat_abs (new_coordinate along_x p (gathered_velocity round w nx ny ux p));
      y = nat_abs (new_coordinate along_y p (gathered_velocity round w nx ny uy p));
      vx = gathered_velocity round w nx ny ux p;
      vy = gathered_velocity round w nx ny uy p;
      bxx = gathered_affine round w nx ny along_x ux p;
      bxy = gathered_affine round w nx ny along_y ux p;
      byx = gathered_affine round w nx ny along_x uy p;
      byy = gathered_affine round w nx ny along_y uy p;
      marks = p.marks;
    }

-- ---- grids as lists: node (i, j) has index j·Nx + i

abbrev pub grid : {A : Type 0} → ℕ → ℕ → (ℕ → ℕ → A) → List A
grid nx ny f = map (λ k. f (k % nx) (k / nx)) (up_to (nx * ny))

abbrev pub node : ℕ → List ℤ → ℕ → ℕ → ℤ
node nx u i j = get_or u (j * nx + i) (pos 0)

-- the three grids: node masses, and momenta or velocities on each axis
pub record Grids : Type 0 where
  pub mass : List ℕ
  pub x : List ℤ
  pub y : List ℤ

abbrev pub grids_of : List ℕ → List ℤ → List ℤ → Grids
grids_of mass x y = record { mass = mass; x = x; y = y }
