-- Adding particle after particle.
--     added_none, added-append      no particle, and one set after another
--     SoFar, SoFarIn, begin, turn, finish
--                                   the loop over a set: what is added after k particles
--     added-held, held-before, held-so-far
--                                   the mass added so far bounds every cell on the way
--     cleared-held, scattered       cleared grids, and a set added to them
-- Assumes nothing.
use mathlib.Core.Path.{◌≡◌, refl, sym, ap, subst, ◌∙◌}
use mathlib.Core.List.{List, [], ◌∷◌, ◌++◌, map}
use Prim.Native.Nat.{ℕ, zero, suc, ◌+◌, ◌*◌, ◌/◌, ◌%◌, ◌^◌, ◌<◌, ◌≤◌, zero-le}
use native.Mathlib.Nat.{le_trans, mul-le-mul_right, zero-add, add-mul}
use native.Mathlib.Numerals.{add-one}
use native.Mathlib.Omega.{arith}
use lib.Dec.{lit≤}
use lib.ListN.{length, get_or, take, replicate, length-map, length-replicate, get_or-map}
use lib.Seq.{take-suc, take_all}
use lib.IntN.{ℤ, pos, nat_abs, ◌+ℤ◌, +ℤ_idr, +ℤ_idl}
use Rattle.arith.specs.Size.{Bound, bound-widen}
use Rattle.arith.specs.Lists.{each_append, total-take}
use Rattle.arith.specs.Sums.{Each, sum-append}
use Rattle.limits.specs.Limits.{most_total_mass}
use Rattle.spline.specs.Kernel.{weight_in, most_d, Kernel}
use Rattle.particle.specs.declared.Particle.{Particle}
use Rattle.apic.specs.Step.{Axis, along_x, along_y, node_mass, node_momentum, grid, node}
use Rattle.apic.specs.Totals.{total_mass}
use Rattle.apic.specs.Limits.{ParticleLimits}
use Rattle.apic.proofs.Bounds.{Limited, limited-set, limited-take, most_momentum}
use Rattle.apic.proofs.Kernel.{kernel-mass-nonneg, kernel-mass, kernel-momentum}
use Rattle.unpacked.specs.Unpacked.{per_particle, Holds, HoldsAt}
use Rattle.unpacked.proofs.Laws.{many, holds_at, nobody}
use Rattle.grid_cells.specs.Cells.{Cells}
use Rattle.grid_cells.specs.Plus.{plus, mass_plus}
use Rattle.grid_cells.proofs.Grids.{grid-cong, length-plus, plus-from, plus-cong, plus-plus, plus-cells, mass-plus, plus-mass, length-mass-plus}
use Rattle.scatter_block.specs.Lines.{Held, most_before, most_rate}
use Rattle.scatter_block.proofs.Line.{held-widen}
use Rattle.scatter_particle.specs.Added.{Added}
use Rattle.scatter_core.specs.Scatter.{ScatteredGrids, SetReady, ScatterReady, NthReady, AddsNth, Adds, most_share}

-- ---- no particle, and one set after another

plus_none : (nx ny : ℕ) (l : List ℤ) (f : ℕ → ℕ → ℤ) → ((i j : ℕ) → f i j ≡ pos 0) → length l ≡ nx * ny → l ≡ plus nx ny l f
plus_none nx ny l f none long =
    plus-from nx ny l l f long (λ n h. sym (ap (λ z. get_or l n (pos 0) +ℤ z) (none (n % nx) (n / nx)) ∙ +ℤ_idr (get_or l n (pos 0))))

-- what a mass of m brings to a cell is at most m times a unit's share
mass-share : (m : ℕ) → 2 ^ 26 * m ≤ m * most_share
mass-share m = omega arith

momentum-share : (D m : ℕ) → D ≤ most_d → most_momentum D * (2 ^ 26 * m) ≤ m * most_share
momentum-share D m h = le_trans (mul-le-mul_right (2 ^ 26 * m) (rate D h)) (shares m)
  where
    rate : (D : ℕ) → D ≤ most_d → most_momentum D ≤ most_rate
    rate D h = omega arith

    shares : (m : ℕ) → most_rate * (2 ^ 26 * m) ≤ m * most_share
    shares m = omega arith

module _ {table : List (List ℕ)} {D : ℕ} (kernel : Kernel table D) (nx ny : ℕ) where
  abbrev w : ℕ → ℕ → ℤ
  w = weight_in table

  pub added_none : {n : ℕ} {mass : List ℕ} {px py : List ℤ} → Held n (nx * ny) mass px py → Added w D nx ny [] mass px py mass px py
  unfolding node_mass node_momentum
  added_none {mass} {px} {py} h =
      record {
        of-mass =
            mass-plus nx ny mass mass (node_mass w []) (kernel-mass-nonneg kernel nx ny [] tt)
            (plus_none nx ny (map pos mass) (node_mass w []) (λ i j. refl) (length-map mass pos ∙ h.mass-long));
        of-px = plus_none nx ny px (node_momentum w D along_x []) (λ i j. refl) h.px-long;
        of-py = plus_none nx ny py (node_momentum w D along_y []) (λ i j. refl) h.py-long;
      }

  momentum-append : (a : Axis) (ps qs : List Particle) (l : List ℤ) {l' l'' : List ℤ} → l' ≡ plus nx ny l (node_momentum w D a ps) → l'' ≡ plus nx ny l' (node_momentum w D a qs) → l'' ≡ plus nx ny l (node_momentum w D a (ps ++ qs))
  unfolding node_momentum
  momentum-append a ps qs l e f =
      f ∙ ap (λ m. plus nx ny m (node_momentum w D a qs)) e
      ∙ plus-plus nx ny l (node_momentum w D a ps) (node_momentum w D a qs)
      ∙ plus-cong nx ny l (λ i j. node_momentum w D a ps i j +ℤ node_momentum w D a qs i j) (node_momentum w D a (ps ++ qs)) (λ i j. sym (sum-append _ ps qs))

  mass-append : (ps qs : List Particle) (l l' l'' : List ℕ) → Each (ParticleLimits nx ny) ps → Each (ParticleLimits nx ny) qs → l' ≡ mass_plus nx ny l (node_mass w ps) → l'' ≡ mass_plus nx ny l' (node_mass w qs) → l'' ≡ mass_plus nx ny l (node_mass w (ps ++ qs))
  unfolding node_mass
  mass-append ps qs l l' l'' h g e f =
      mass-plus nx ny l l'' (node_mass w (ps ++ qs)) (kernel-mass-nonneg kernel nx ny (ps ++ qs) (each_append (ParticleLimits nx ny) ps qs h g))
      (ap (map pos) f ∙ plus-mass nx ny l' (node_mass w qs) (kernel-mass-nonneg kernel nx ny qs g)
      ∙ ap (λ m. plus nx ny m (node_mass w qs)) (ap (map pos) e ∙ plus-mass nx ny l (node_mass w ps) (kernel-mass-nonneg kernel nx ny ps h))
      ∙ plus-plus nx ny (map pos l) (node_mass w ps) (node_mass w qs)
      ∙ plus-cong nx ny (map pos l) (λ i j. node_mass w ps i j +ℤ node_mass w qs i j) (node_mass w (ps ++ qs)) (λ i j. sym (sum-append _ ps qs)))

  pub added-append : (ps qs : List Particle) {mass mass' mass'' : List ℕ} {px py px' py' px'' py'' : List ℤ} → Each (ParticleLimits nx ny) ps → Each (ParticleLimits nx ny) qs → Added w D nx ny ps mass px py mass' px' py' → Added w D nx ny qs mass' px' py' mass'' px'' py'' → Added w D nx ny (ps ++ qs) mass px py mass'' px'' py''
  added-append ps qs {mass} {mass'} {mass''} {px} {py} h g a b =
      record {
        of-mass = mass-append ps qs mass mass' mass'' h g a.of-mass b.of-mass;
        of-px = momentum-append along_x ps qs px a.of-px b.of-px;
        of-py = momentum-append along_y ps qs py a.of-py b.of-py;
      }

  -- the mass added so far bounds every cell
  pub added-held : (ps : List Particle) {mass mass' : List ℕ} {px py px' py' : List ℤ} (already : ℕ) → 0 < nx → Limited nx ny ps → Held (already * most_share) (nx * ny) mass px py → Added w D nx ny ps mass px py mass' px' py' → Held ((already + total_mass ps) * most_share) (nx * ny) mass' px' py'
  added-held ps {mass} {px} {py} already some limits held a =
      record {
        mass-long = ap length a.of-mass ∙ length-mass-plus nx ny mass (node_mass w ps);
        px-long = ap length a.of-px ∙ length-plus nx ny px (node_momentum w D along_x ps);
        py-long = ap length a.of-py ∙ length-plus nx ny py (node_momentum w D along_y ps);
        mass-cells =
            rw (ap (map pos) a.of-mass ∙ plus-mass nx ny mass (node_mass w ps) (kernel-mass-nonneg kernel nx ny ps limits.each))
            (cells-after (map pos mass) (node_mass w ps) held.mass-cells
            (λ i j in-x in-y. bound-widen (mass-share (total_mass ps)) (kernel-mass kernel nx ny ps limits i j in-x in-y)));
        px-cells = rw a.of-px (momentum-cells along_x px held.px-cells);
        py-cells = rw a.of-py (momentum-cells along_y py held.py-cells);
      }
    where
      cells-after : (l : List ℤ) (f : ℕ → ℕ → ℤ) → Cells (already * most_share) l → ((i j : ℕ) → i < nx → j < ny → Bound (f i j) (total_mass ps * most_share)) → Cells ((already + total_mass ps) * most_share) (plus nx ny l f)
      cells-after l f c b =
          subst (λ n. Cells n (plus nx ny l f)) (sym (add-mul already (total_mass ps) most_share))
          (plus-cells nx ny l f (already * most_share) (total_mass ps * most_share) some c b)

      momentum-cells : (a : Axis) (l : List ℤ) → Cells (already * most_share) l → Cells ((already + total_mass ps) * most_share) (plus nx ny l (node_momentum w D a ps))
      momentum-cells a l c =
          cells-after l (node_momentum w D a ps) c
          (λ i j in-x in-y. bound-widen (momentum-share D (total_mass ps) kernel.spread.most) (kernel-momentum kernel nx ny ps limits i j in-x in-y a))

-- the grids are light enough for another particle
pub held-before : {m size : ℕ} {mass : List ℕ} {px py : List ℤ} → m ≤ most_total_mass → Held (m * most_share) size mass px py → Held most_before size mass px py
held-before h held = held-widen (le_trans (mul-le-mul_right most_share h) (lit≤ tt)) held

-- ---- the loop over a set

-- after k of the particles ps
pub record SoFar (w : ℕ → ℕ → ℤ) (D nx ny : ℕ) (ps : List Particle) (mass : List ℕ) (px py : List ℤ) (mass' : List ℕ) (px' py' : List ℤ) (k : ℕ) : Type 0 where
  pub within : k ≤ length ps
  pub added : Added w D nx ny (take k ps) mass px py mass' px' py'

-- whichever particles the array holds
abbrev pub SoFarIn : List (List ℕ) → ℕ → ℕ → ℕ → List ℤ → List ℕ → List ℤ → List ℤ → List ℕ → List ℤ → List ℤ → ℕ → Type 0
SoFarIn table D nx ny l mass px py mass' px' py' k =
    (ps : List Particle) → Holds nx ny l ps → SoFar (weight_in table) D nx ny ps mass px py mass' px' py' k

module _ {nx ny : ℕ} {l : List ℤ} {table : List (List ℕ)} {D : ℕ} {mass : List ℕ} {px py : List ℤ} (ready : SetReady nx ny l table D mass px py) where
  pub begin : SoFarIn table D nx ny l mass px py mass px py 0
  begin ps s = record { within = zero-le; added = added_none ready.kernel nx ny ready.room.held }

  limited : {ps : List Particle} → Holds nx ny l ps → (k : ℕ) → Limited nx ny (take k ps)
  limited {ps} s k = limited-take k ps (limited-set s.limits)

  module _ {mass' : List ℕ} {px' py' : List ℤ} {k : ℕ} (so_far : SoFarIn table D nx ny l mass px py mass' px' py' k) where
    pub held-so-far : Held most_before (nx * ny) mass' px' py'
    held-so-far =
        held-before (light ready.already (total_mass (take k here)) (total_mass here) (total-take (λ p. p.mass) k here) ready.room.light)
        (added-held ready.kernel nx ny (take k here) ready.already (omega (arith, ready.set.holds.limits.sizes.x-least)) (limited ready.set.holds k) ready.room.held (so_far here ready.set.holds).added)
      where
        here : List Particle
        here = ready.set.particles

        light : (m a b : ℕ) → a ≤ b → m + b ≤ most_total_mass → m + a ≤ most_total_mass
        light m a b h k = omega arith

    pub nth-ready : k < length l / per_particle → NthReady nx ny l k table D mass' px' py'
    nth-ready h = record { set = ready.set; below = h; kernel = ready.kernel; held = held-so-far }

    pub turn : {mass'' : List ℕ} {px'' py'' : List ℤ} → k < length l / per_particle → AddsNth nx ny l k table D mass' px' py' mass'' px'' py'' → SoFarIn table D nx ny l mass px py mass'' px'' py'' (k + 1)
    turn {mass''} {px''} {py''} h a ps s =
        record {
          within = omega (arith, below);
          added =
              subst (λ qs. Added (weight_in table) D nx ny qs mass px py mass'' px'' py'') (sym next)
              (added-append ready.kernel nx ny (take k ps) (p ∷ []) (limited s k).each (at.limits, tt) (so_far ps s).added (a p at));
        }
      where
        below : k < length ps
        below = subst (λ n. k < n) (many s) h

        p : Particle
        p = get_or ps k nobody

        at : HoldsAt nx ny l k p
        at = holds_at s k nobody below

        next : take (k + 1) ps ≡ take k ps ++ p ∷ []
        next = ap (λ n. take n ps) (add-one k) ∙ take-suc ps k nobody below

    pub finish : length l / per_particle ≤ k → Adds nx ny l table D mass px py mass' px' py'
    finish h ps s =
        subst (λ qs. Added (weight_in table) D nx ny qs mass px py mass' px' py')
        (take_all k ps (subst (λ n. n ≤ k) (many s) h))
        (so_far ps s).added

-- ---- cleared grids

get_or-zeros : {A : Type 0} (a : A) (n k : ℕ) → get_or (replicate n a) k a ≡ a
get_or-zeros a zero k = refl
get_or-zeros a (suc n) zero = refl
get_or-zeros a (suc n) (suc k) = get_or-zeros a n k

plus-zeros : (nx ny n : ℕ) (f : ℕ → ℕ → ℤ) → plus nx ny (replicate n (pos 0)) f ≡ grid nx ny f
unfolding plus
plus-zeros nx ny n f =
    grid-cong nx ny (λ i j. node nx (replicate n (pos 0)) i j +ℤ f i j) f
    (λ i j. ap (λ z. z +ℤ f i j) (get_or-zeros (pos 0) n (j * nx + i)) ∙ +ℤ_idl (f i j))

mass-plus-zeros : (nx ny n : ℕ) (f : ℕ → ℕ → ℤ) → mass_plus nx ny (replicate n 0) f ≡ grid nx ny (λ i j. nat_abs (f i j))
unfolding mass_plus
mass-plus-zeros nx ny n f =
    grid-cong nx ny (λ i j. get_or (replicate n 0) (j * nx + i) 0 + nat_abs (f i j)) (λ i j. nat_abs (f i j))
    (λ i j. ap (λ z. z + nat_abs (f i j)) (get_or-zeros 0 n (j * nx + i)) ∙ zero-add (nat_abs (f i j)))

zero-bound : (n : ℕ) (l : List ℤ) → ((k : ℕ) → get_or l k (pos 0) ≡ pos 0) → Cells n l
zero-bound n l h = record { cell = λ k. rw (h k) (record { size = zero-le }) }

module _ (mass : List ℕ) (px py : List ℤ) {mass' : List ℕ} {px' py' : List ℤ} (of-mass : mass' ≡ replicate (length mass) 0) (of-px : px' ≡ replicate (length px) (pos 0)) (of-py : py' ≡ replicate (length py) (pos 0)) where
  pub cleared-held : {size : ℕ} (n : ℕ) → length mass ≡ size → length px ≡ size → length py ≡ size → Held n size mass' px' py'
  cleared-held n mass-long px-long py-long =
      record {
        mass-long = ap length of-mass ∙ length-replicate (length mass) 0 ∙ mass-long;
        px-long = ap length of-px ∙ length-replicate (length px) (pos 0) ∙ px-long;
        py-long = ap length of-py ∙ length-replicate (length py) (pos 0) ∙ py-long;
        mass-cells =
            zero-bound n (map pos mass')
            (λ k. get_or-map pos mass' k 0 ∙ ap pos (ap (λ m. get_or m k 0) of-mass ∙ get_or-zeros 0 (length mass) k));
        px-cells = zero-bound n px' (λ k. ap (λ m. get_or m k (pos 0)) of-px ∙ get_or-zeros (pos 0) (length px) k);
        py-cells = zero-bound n py' (λ k. ap (λ m. get_or m k (pos 0)) of-py ∙ get_or-zeros (pos 0) (length py) k);
      }

  pub set-ready : {nx ny : ℕ} {l : List ℤ} {table : List (List ℕ)} {D : ℕ} → ScatterReady nx ny l table D mass px py → SetReady nx ny l table D mass' px' py'
  set-ready ready =
      record {
        set = ready.set;
        kernel = ready.kernel;
        already = 0;
        room = record { light = omega (arith, ready.set.holds.limits.mass); held = cleared-held 0 ready.mass-long ready.px-long ready.py-long };
      }

  pub scattered : {w : ℕ → ℕ → ℤ} {D nx ny : ℕ} {ps : List Particle} {mass'' : List ℕ} {px'' py'' : List ℤ} → Added w D nx ny ps mass' px' py' mass'' px'' py'' → ScatteredGrids w D nx ny ps mass'' px'' py''
  scattered {w} {D} {nx} {ny} {ps} a =
      record {
        of-mass =
            a.of-mass ∙ ap (λ m. mass_plus nx ny m (node_mass w ps)) of-mass ∙ mass-plus-zeros nx ny (length mass) (node_mass w ps);
        of-px =
            a.of-px ∙ ap (λ m. plus nx ny m (node_momentum w D along_x ps)) of-px ∙ plus-zeros nx ny (length px) (node_momentum w D along_x ps);
        of-py =
            a.of-py ∙ ap (λ m. plus nx ny m (node_momentum w D along_y ps)) of-py ∙ plus-zeros nx ny (length py) (node_momentum w D along_y ps);
      }
