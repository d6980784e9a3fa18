-- Grids added to grids, and the operation.
--     gaining, mass-room, x-room, y-room     no sum is beyond 64 bits
--     grids-stopped, grids-added                what is told and left of both grids
--     nodes-most, nodes-fit, on-others, addable, set-added
--                                               a set that is scattered on grids of its own
--     bad-entry, with-set                       the operation, by the answer at entry
-- Assumes nothing.
use mathlib.Core.Path.{◌≡◌, sym, ap, ◌∙◌, subst}
use mathlib.Core.List.{List}
use Prim.Native.Nat.{ℕ, ◌+◌, ◌*◌, ◌^◌, ◌<◌, ◌≤◌}
use native.Mathlib.Nat.{lt_of_le_of_lt, mul-le-mul, mul-le-mul_right}
use native.Mathlib.Omega.{arith}
use lib.Dec.{lit<}
use lib.ListN.{length, get_or}
use lib.IntN.{ℤ, pos, ◌+ℤ◌}
use mir.Syntax.{w64}
use mir.Val.{Fits, SFits}
use Rattle.refusal.specs.Refused.{Answer, gives, refused, and_then, done}
use Rattle.refusal.proofs.Answers.{refused-leaves, done-leaves}
use Rattle.arith.specs.Size.{Bound, bound-fits}
use Rattle.limits.specs.Limits.{most_side, most_node_mass, most_present_momentum}
use Rattle.limits.specs.declared.Caller.{Caller}
use Rattle.spline.specs.Spline.{axis_weight, D}
use Rattle.particle.specs.declared.Particle.{Particle}
use Rattle.apic.specs.Step.{Grids, grids_of}
use Rattle.apic.proofs.Bounds.{limited-set}
use Rattle.particles.specs.Set.{particles_in}
use Rattle.unpacking.proofs.Sets.{particles_in-accepted}
use Rattle.scatter_core.specs.Scatter.{ScatteredGrids}
use Rattle.settings.specs.Settings.{still}
use Rattle.entry.specs.declared.Buffers.TheVariants.{Three}
use Rattle.entry.proofs.Entry.{accepted}
use Rattle.transfer.specs.Transfer.{scatter_answer, scatter_of}
use Rattle.transfer.specs.Internal.{ScatterSet}
use Rattle.transfer.proofs.Sets.{accepted-set}
use Rattle.adding.specs.Adding.{check_nodes, mass_sums, momentum_sums, grid_sums, added_grids, adding_answer, Adds, AddingIs}
use Rattle.adding.specs.Internal.{MassRoom, MomentumRoom, cell_sums, Gaining, Moderate, ModerateGrids, Addable, AddsSet}
use Rattle.adding.proofs.Nodes.{gained}
use Rattle.adding.proofs.Scattered.{some-columns, scattered-moderate, length-mass, length-x, length-y}

-- ---- a sum that passes 20's test fits

mass-fits : {M : ℕ} {px py : ℤ} → Moderate M px py → Fits w64 M
mass-fits {M} m = record { fits = small M m.light }
  where
    small : (M : ℕ) → M ≤ most_node_mass → M < 2 ^ 64
    small M h = omega arith

momentum-fits : {M : ℕ} {p : ℤ} → M ≤ most_node_mass → Bound p (M * most_present_momentum) → SFits w64 p
momentum-fits h b = bound-fits b (lt_of_le_of_lt (mul-le-mul_right most_present_momentum h) (lit< tt))

-- ---- grids added to grids

module _ {n : ℕ} {mass : List ℕ} {px py : List ℤ} {mass' : List ℕ} {px' py' : List ℤ} (a : Addable n mass px py mass' px' py') where
  abbrev g : Grids
  g = grids_of mass px py

  abbrev h : Grids
  h = grids_of mass' px' py'

  pub gaining : Gaining n mass px py mass'
  gaining = record { held = a.held; gain-long = a.gain.mass-long; light = λ k b. (a.moderate k b).light }

  pub grids-stopped : {m k : ℕ} → check_nodes n g mass' ≡ refused m k → Adds (added_grids n g h) mass px py (refused m k) mass px py
  unfolding added_grids
  grids-stopped e = refused-leaves (ap (λ b. and_then b (λ _. gives (grid_sums n g h))) e)

  module _ (e : check_nodes n g mass' ≡ done) where
    pub mass-room : MassRoom mass mass'
    mass-room =
        record {
          same = a.gain.mass-long ∙ sym a.held.mass-long;
          each = λ k b. mass-fits (gained n g h a.moderate e k (subst (λ m. k < m) a.held.mass-long b));
        }

    -- on an axis
    axis-room : (p p' : List ℤ) → length p ≡ n → length p' ≡ n → ((k : ℕ) → k < n → SFits w64 (get_or p k (pos 0) +ℤ get_or p' k (pos 0))) → MomentumRoom p p'
    axis-room p p' l l' f = record { same = l' ∙ sym l; each = λ k b. f k (subst (λ m. k < m) l b) }

    pub x-room : MomentumRoom px px'
    x-room =
        axis-room px px' a.held.px-long a.gain.px-long
        (λ k b. let m = gained n g h a.moderate e k b in momentum-fits m.light m.slow-x)

    pub y-room : MomentumRoom py py'
    y-room =
        axis-room py py' a.held.py-long a.gain.py-long
        (λ k b. let m = gained n g h a.moderate e k b in momentum-fits m.light m.slow-y)

    pub grids-added : {mass'' : List ℕ} {px'' py'' : List ℤ} → mass'' ≡ cell_sums 0 ◌+◌ (length mass) mass mass' → px'' ≡ cell_sums (pos 0) ◌+ℤ◌ (length px) px px' → py'' ≡ cell_sums (pos 0) ◌+ℤ◌ (length py) py py' → Adds (added_grids n g h) mass px py done mass'' px'' py''
    unfolding added_grids mass_sums momentum_sums
    grids-added i j k =
        done-leaves (ap (λ b. and_then b (λ _. gives (grid_sums n g h))) e)
        (λ t.
        grids_of ((i ∙ ap (λ m. cell_sums 0 ◌+◌ m mass mass') a.held.mass-long) t)
        ((j ∙ ap (λ m. cell_sums (pos 0) ◌+ℤ◌ m px px') a.held.px-long) t)
        ((k ∙ ap (λ m. cell_sums (pos 0) ◌+ℤ◌ m py py') a.held.py-long) t))

-- ---- an accepted set, scattered on grids of its own

module _ {nx ny : ℕ} {records mass : List ℕ} {px py : List ℤ} (s : ScatterSet nx ny records mass px py) where
  -- the number of its nodes
  pub nodes-most : nx * ny ≤ most_side * most_side
  nodes-most =
      let sizes = (accepted-set nx ny records s.set).sizes in
      mul-le-mul sizes.x-most sizes.y-most

  pub nodes-fit : Fits w64 (nx * ny)
  nodes-fit = record { fits = lt_of_le_of_lt nodes-most (lit< tt) }

  -- other grids of that size
  pub on-others : {mass' : List ℕ} {px' py' : List ℤ} → length mass' ≡ nx * ny → length px' ≡ nx * ny → length py' ≡ nx * ny → ScatterSet nx ny records mass' px' py'
  on-others i j k = record { particles = s.particles; set = s.set; mass-long = i; px-long = j; py-long = k }

  module _ {gain : List ℕ} {gainx gainy : List ℤ} (scattered : ScatteredGrids axis_weight D nx ny (particles_in records) gain gainx gainy) where
    these-are : grids_of gain gainx gainy ≡ scatter_of nx ny (particles_in records)
    these-are = λ t. grids_of (scattered.of-mass t) (scattered.of-px t) (scattered.of-py t)

    pub addable : Addable (nx * ny) mass px py gain gainx gainy
    addable =
        let limits = accepted-set nx ny records s.set in
        let ps = particles_in records in
        record {
          held = record { mass-long = s.mass-long; px-long = s.px-long; py-long = s.py-long };
          gain =
              record {
                mass-long = ap length scattered.of-mass ∙ length-mass nx ny ps;
                px-long = ap length scattered.of-px ∙ length-x nx ny ps;
                py-long = ap length scattered.of-py ∙ length-y nx ny ps;
              };
          moderate =
              subst (ModerateGrids (nx * ny)) (sym these-are)
              (scattered-moderate nx ny (some-columns limits.sizes) ps (limited-set limits));
        }

    pub set-added : {told : Answer Unit} {mass' : List ℕ} {px' py' : List ℤ} → Adds (added_grids (nx * ny) (grids_of mass px py) (grids_of gain gainx gainy)) mass px py told mass' px' py' → AddsSet nx ny records mass px py told mass' px' py'
    set-added {told} {mass'} {px'} {py'} h =
        subst (λ added. Adds (added_grids (nx * ny) (grids_of mass px py) added) mass px py told mass' px' py') these-are h

-- ---- the operation

module _ (caller : Caller) (nx ny : ℕ) (records mass : List ℕ) (px py : List ℤ) where
  pub bad-entry : {n k : ℕ} → scatter_answer caller nx ny records (length mass) (length px) (length py) ≡ refused n k → AddingIs caller nx ny records mass px py (refused n k) mass px py
  unfolding adding_answer
  bad-entry e = refused-leaves (ap (λ a. and_then a (λ ps. added_grids (nx * ny) (grids_of mass px py) (scatter_of nx ny ps))) e)

  module _ {ps : List Particle} (e : scatter_answer caller nx ny records (length mass) (length px) (length py) ≡ gives ps) where
    pub with-set : {told : Answer Unit} {mass' : List ℕ} {px' py' : List ℤ} → AddsSet nx ny records mass px py told mass' px' py' → AddingIs caller nx ny records mass px py told mass' px' py'
    unfolding adding_answer
    with-set {told} {mass'} {px'} {py'} h =
        subst (λ a. Adds a mass px py told mass' px' py')
        (sym (ap (λ a. and_then a (λ qs. added_grids (nx * ny) (grids_of mass px py) (scatter_of nx ny qs))) (e ∙ ap gives (sym (particles_in-accepted nx ny records (accepted caller (still nx ny) (Three (length mass) (length px) (length py)) 0 records e).set)))))
        h
