-- Parts of a list, and a list in another order.
--     part-limits                  particles of a set, in its order, are within a set's limits
--     sum-rearranged, total-rearranged, scattered-rearranged
--                                  sums, and so what scatter makes of particles, don't depend on the order
--     parts-each                   what is true of each part's elements is true of all of them together
--     front-in-order .. turned-together     a list that is cut in two
--     records-cut                  the records of such a list
-- Assumes nothing.
use mathlib.Core.Path.{◌≡◌, refl, sym, ap, ap₂, ◌∙◌, subst}
use mathlib.Core.List.{List, [], ◌∷◌, ◌++◌, append-nil}
use Prim.Native.Nat.{ℕ, zero, suc, ◌+◌, ◌*◌, ◌≤◌, ◌<◌}
use native.Mathlib.Nat.{lt_trans, mul-zero}
use native.Mathlib.Omega.{arith}
use lib.ListN.{length, take, drop, take-append-drop}
use lib.Seq.{take-nil, drop-nil, take-add, take_at, drop_at, drop-drop}
use lib.IntN.{ℤ, pos, nat_abs, ◌+ℤ◌, ◌*ℤ◌, +ℤ_assoc, +ℤ_comm}
use Rattle.arith.specs.Sums.{Each, sum_over, total_over, total-pos}
use Rattle.arith.specs.Lists.{each_append}
use Rattle.spline.specs.Spline.{axis_weight, D}
use Rattle.particle.specs.declared.Particle.{Particle}
use Rattle.particle.specs.Layout.{record_length}
use Rattle.particle.specs.Record.{record_of}
use Rattle.particle.proofs.RoundTrip.{record-length}
use Rattle.particles.specs.Set.{records_of}
use Rattle.apic.specs.Step.{Axis, along_x, along_y, weight, node_mass, carried, node_momentum, grids_of, grid}
use Rattle.apic.specs.Limits.{Rising, SetLimits}
use Rattle.grid_cells.proofs.Grids.{grid-cong}
use Rattle.scatter_core.proofs.Parts.{rising-tail}
use Rattle.transfer.specs.Transfer.{scatter_of}
use Rattle.adding.specs.Sections.{InOrder, none, taken, passed, Rearranged, empty, kept, exchanged, again, joined}

-- ---- particles of a set, in its order

module _ {A : Type 0} where
  part-each : (P : A → Type 0) {xs ys : List A} → InOrder xs ys → Each P ys → Each P xs
  part-each P none e = tt
  part-each P (taken o) e = (e.0, part-each P o e.1)
  part-each P (passed o) e = part-each P o e.1

  pub part_length : {xs ys : List A} → InOrder xs ys → length xs ≤ length ys
  part_length none = omega arith
  part_length (taken o) = let h = part_length o in omega arith
  part_length (passed o) = let h = part_length o in omega arith

  part-total : (f : A → ℕ) {xs ys : List A} → InOrder xs ys → total_over xs f ≤ total_over ys f
  part-total f none = omega arith
  part-total f (taken o) = let h = part-total f o in omega arith
  part-total f (passed o) = let h = part-total f o in omega arith

-- the first of these, if there is one, has an identifier above this
Above : ℕ → List Particle → Type 0
Above i [] = Unit {0}
Above i (p ∷ ps) = i < p.identifier

above : (p : Particle) {qs ps : List Particle} → InOrder qs ps → Rising (p ∷ ps) → Above p.identifier qs
unfolding Above
above p none r = tt
above p (taken o) r = r.0
above p {qs} (passed {y = q} o) r = further qs r.0 (above q o r.1)
  where
    further : (qs : List Particle) → p.identifier < q.identifier → Above q.identifier qs → Above p.identifier qs
    further [] h a = tt
    further (x ∷ qs) h a = lt_trans h a

rising-on : (p : Particle) (qs : List Particle) → Above p.identifier qs → Rising qs → Rising (p ∷ qs)
unfolding Above
rising-on p [] a r = tt
rising-on p (q ∷ qs) a r = (a, r)

part-rising : {qs ps : List Particle} → InOrder qs ps → Rising ps → Rising qs
part-rising none r = tt
part-rising (taken {x = p} {xs = qs} {ys = ps} o) r = rising-on p qs (above p o r) (part-rising o (rising-tail p ps r))
part-rising (passed {y = p} {ys = ps} o) r = part-rising o (rising-tail p ps r)

pub part-limits : {nx ny : ℕ} {qs ps : List Particle} → InOrder qs ps → SetLimits nx ny ps → SetLimits nx ny qs
part-limits {nx} {ny} {qs} {ps} o l =
    let count = part_length o in
    let mass = part-total (λ p. p.mass) o in
    record {
      sizes = l.sizes;
      count = omega (arith, count, l.count);
      each = part-each _ o l.each;
      rising = part-rising o l.rising;
      mass = omega (arith, mass, l.mass);
    }

-- ---- another order

module _ {A : Type 0} where
  pub sum-rearranged : (f : A → ℤ) {xs ys : List A} → Rearranged xs ys → sum_over xs f ≡ sum_over ys f
  sum-rearranged f empty = refl
  sum-rearranged f (kept {x = x} r) = ap (λ s. f x +ℤ s) (sum-rearranged f r)
  sum-rearranged f (exchanged {x = x} {y = y} {xs = xs}) =
      sym (+ℤ_assoc (f x) (f y) (sum_over xs f)) ∙ ap (λ s. s +ℤ sum_over xs f) (+ℤ_comm (f x) (f y)) ∙ +ℤ_assoc (f y) (f x) (sum_over xs f)
  sum-rearranged f (again r s) = sum-rearranged f r ∙ sum-rearranged f s

  pub total-rearranged : (f : A → ℕ) {xs ys : List A} → Rearranged xs ys → total_over xs f ≡ total_over ys f
  total-rearranged f {xs} {ys} r =
      ap nat_abs (total-pos f xs ∙ sum-rearranged (λ x. pos (f x)) r ∙ sym (total-pos f ys))

pub scattered-rearranged : (nx ny : ℕ) {ps qs : List Particle} → Rearranged ps qs → scatter_of nx ny ps ≡ scatter_of nx ny qs
unfolding node_mass node_momentum
scattered-rearranged nx ny {ps} {qs} r = λ t. grids_of (masses t) (momenta along_x t) (momenta along_y t)
  where
    masses : grid nx ny (λ i j. nat_abs (node_mass axis_weight ps i j)) ≡ grid nx ny (λ i j. nat_abs (node_mass axis_weight qs i j))
    masses =
        grid-cong nx ny (λ i j. nat_abs (node_mass axis_weight ps i j)) (λ i j. nat_abs (node_mass axis_weight qs i j))
        (λ i j. ap nat_abs (sum-rearranged (λ p. pos p.mass *ℤ weight axis_weight p i j) r))

    momenta : (a : Axis) → grid nx ny (node_momentum axis_weight D a ps) ≡ grid nx ny (node_momentum axis_weight D a qs)
    momenta a =
        grid-cong nx ny (node_momentum axis_weight D a ps) (node_momentum axis_weight D a qs)
        (λ i j. sum-rearranged (λ p. pos p.mass *ℤ weight axis_weight p i j *ℤ carried D a p i j) r)

-- ---- several parts

pub parts-each : {A : Type 0} (P : A → Type 0) (parts : List (List A)) → Each (Each P) parts → Each P (joined parts)
parts-each P [] e = tt
parts-each P (part ∷ parts) e = each_append P part (joined parts) e.0 (parts-each P parts e.1)

-- ---- a list that is cut

module _ {A : Type 0} where
  pub none-taken : (xs : List A) → InOrder [] xs
  none-taken [] = none
  none-taken (x ∷ xs) = passed (none-taken xs)

  pub all-taken : (xs : List A) → InOrder xs xs
  all-taken [] = none
  all-taken (x ∷ xs) = taken (all-taken xs)

  pub front-in-order : (k : ℕ) (xs : List A) → InOrder (take k xs) xs
  front-in-order zero xs = none-taken xs
  front-in-order (suc k) [] = none
  front-in-order (suc k) (x ∷ xs) = taken (front-in-order k xs)

  pub back-in-order : (k : ℕ) (xs : List A) → InOrder (drop k xs) xs
  back-in-order zero xs = all-taken xs
  back-in-order (suc k) [] = none
  back-in-order (suc k) (x ∷ xs) = passed (back-in-order k xs)

  unmoved : (xs : List A) → Rearranged xs xs
  unmoved [] = empty
  unmoved (x ∷ xs) = kept (unmoved xs)

  to_front : (xs : List A) (y : A) (ys : List A) → Rearranged (xs ++ y ∷ ys) (y ∷ xs ++ ys)
  to_front [] y ys = unmoved (y ∷ ys)
  to_front (x ∷ xs) y ys = again (kept (to_front xs y ys)) exchanged

  turned : (xs ys : List A) → Rearranged (xs ++ ys) (ys ++ xs)
  turned xs [] = subst (λ l. Rearranged l xs) (sym (append-nil xs)) (unmoved xs)
  turned xs (y ∷ ys) = again (to_front xs y ys) (kept (turned xs ys))

  pub cut-together : (k : ℕ) (xs : List A) → Rearranged (joined (take k xs ∷ drop k xs ∷ [])) xs
  cut-together k xs =
      subst (λ l. Rearranged l xs) (sym (ap (λ l. take k xs ++ l) (append-nil (drop k xs)) ∙ take-append-drop k xs)) (unmoved xs)

  pub turned-together : (k : ℕ) (xs : List A) → Rearranged (joined (drop k xs ∷ take k xs ∷ [])) xs
  turned-together k xs =
      subst (λ l. Rearranged (drop k xs ++ l) xs) (sym (append-nil (take k xs)))
      (subst (Rearranged (drop k xs ++ take k xs)) (take-append-drop k xs) (turned (drop k xs) (take k xs)))

-- the records of a list that is cut
abbrev CutAt : ℕ → List Particle → Type 0
CutAt k ps =
    (take (record_length * k) (records_of ps) ≡ records_of (take k ps)) × (drop (record_length * k) (records_of ps) ≡ records_of (drop k ps))

pub records-cut : (k : ℕ) (ps : List Particle) → CutAt k ps
unfolding records_of
records-cut zero ps = (ap (λ n. take n (records_of ps)) (mul-zero record_length), ap (λ n. drop n (records_of ps)) (mul-zero record_length))
records-cut (suc k) [] = (take-nil (record_length * suc k), drop-nil (record_length * suc k))
records-cut (suc k) (p ∷ ps) =
    let rest = records-cut k ps in (
      ap (λ n. take n (records_of (p ∷ ps))) next
          ∙ take-add record_length (record_length * k) (records_of (p ∷ ps))
          ∙ ap₂ ◌++◌ (take_at (record_of p) (records_of ps) record_length (record-length p)) (ap (take (record_length * k)) behind ∙ rest.0),
      ap (λ n. drop n (records_of (p ∷ ps))) next
          ∙ sym (drop-drop (record_length * k) record_length (records_of (p ∷ ps)))
          ∙ ap (drop (record_length * k)) behind
          ∙ rest.1,
    )
  where
    next : record_length * suc k ≡ record_length + record_length * k
    next = omega arith

    behind : drop record_length (records_of (p ∷ ps)) ≡ records_of ps
    behind = drop_at (record_of p) (records_of ps) record_length (record-length p)
