-- The statements about sections, and about what stays true.
--     scatters              an accepted set on grids of its size passes scatter's checks
--     more_added            particles added to what other particles left
-- Assumes nothing.
use mathlib.Core.Path.{◌≡◌, refl, sym, ap, ap₂, ◌∙◌, subst}
use mathlib.Core.Bool.{true, ◌&&◌}
use mathlib.Core.List.{List, [], ◌∷◌, ◌++◌, map, append_assoc, append-nil}
use Prim.Native.Nat.{ℕ, ◌*◌, ◌≤◌}
use native.Mathlib.Nat.{le_trans}
use native.Mathlib.Omega.{arith}
use lib.ListN.{length, get_or, take, drop, length-replicate}
use lib.IntN.{ℤ, pos}
use borrow.Author.Tests.{le-leb}
use Rattle.arith.specs.Size.{bound-widen}
use Rattle.arith.specs.Sums.{Each, each_map}
use Rattle.refusal.specs.Refused.{Answer, gives, refused, and_then, Leaves}
use Rattle.refusal.proofs.Answers.{same-result, went_on}
use Rattle.limits.specs.declared.Caller.{Caller}
use Rattle.limits.specs.Limits.{most_total_mass, most_node_mass, most_present_momentum, CallerLimits}
use Rattle.spline.specs.Spline.{D}
use Rattle.particle.specs.declared.Particle.{Particle}
use Rattle.particle.specs.Layout.{record_length}
use Rattle.apic.specs.Step.{Grids, grids_of}
use Rattle.apic.specs.Limits.{SizeLimits, ParticleLimits, SetLimits}
use Rattle.apic.proofs.Bounds.{Limited, limited-set, limited-prefix}
use Rattle.apic.proofs.Spline.{spline-lawful}
use Rattle.particles.specs.Set.{set_answer, records_of}
use Rattle.particles.proofs.Checks.{bench-accepts}
use Rattle.particles.proofs.Accepted.{accepted-limits, accepted-within, accepted-records, within-accepted}
use Rattle.settings.specs.Settings.{still}
use Rattle.entry.specs.declared.Buffers.{Buffers}
use Rattle.entry.specs.declared.Buffers.TheVariants.{Three}
use Rattle.entry.specs.Entry.{begin_answer}
use Rattle.entry.proofs.Entry.{Long, long-three, three-long, both-within, accepted, enters, passed-checks}
use Rattle.update.specs.Update.{update_answer}
use Rattle.update.specs.Update as update
use Rattle.update.specs.Internal.{calm_momentum, is_calm}
use Rattle.update.proofs.Walk.{limits-nodes}
use Rattle.update.proofs.Calm.{calm-limits}
use Rattle.transfer.specs.Transfer.{scatter_answer, scatter_of}
use Rattle.adding.specs.Adding.{check_nodes, grid_sums, added_grids, adding_answer, valid_present}
use Rattle.adding.specs.Sections.{ScatterIsAdding, ScattersAlike, SectionsAdded, CutAdded, StaysPresent, PresentUpdated, AddedUpdated, joined, adding_all, zeros, zero_grids, Present}
use Rattle.adding.proofs.Nodes.{present-moderate, moderate-present, nodes-pass, sums-present}
use Rattle.adding.proofs.Scattered.{some-columns, scattered-moderate, scattered-none, scattered-sum, light-sum, length-mass, length-x, length-y}
use Rattle.adding.proofs.Lists.{part_length, part-limits, total-rearranged, scattered-rearranged, parts-each, front-in-order, back-in-order, cut-together, turned-together, records-cut}

-- ---- particles added to what other particles left

module _ (nx ny : ℕ) (sizes : SizeLimits nx ny) (qs rs : List Particle) (limits : Limited nx ny (qs ++ rs)) (second : Each (ParticleLimits nx ny) rs) where
  first : Limited nx ny qs
  first = limited-prefix qs rs limits

  more_added : added_grids (nx * ny) (scatter_of nx ny qs) (scatter_of nx ny rs) ≡ gives (scatter_of nx ny (qs ++ rs))
  unfolding added_grids
  more_added =
      ap (λ a. and_then a (λ _. gives (grid_sums (nx * ny) (scatter_of nx ny qs) (scatter_of nx ny rs))))
      (nodes-pass (nx * ny) (scatter_of nx ny qs) (scatter_of nx ny rs).mass
      (λ k h. moderate-present _ _ _ (scattered-moderate nx ny (some-columns sizes) qs first k h))
      (light-sum nx ny qs rs first.each second (some-columns sizes) limits))
      ∙ ap gives (scattered-sum nx ny qs rs first.each second)

-- ---- an accepted set on grids of its size

pub scatters : (caller : Caller) (nx ny : ℕ) (records : List ℕ) {ps : List Particle} {mass x y : ℕ} → set_answer caller nx ny records ≡ gives ps → Long (nx * ny) mass x y → scatter_answer caller nx ny records mass x y ≡ gives ps
scatters caller nx ny records {mass = mass} {x = x} {y = y} e l =
    enters caller (still nx ny) (Three mass x y) 0 records e (three-long l)
    (record { gravity-x = omega arith; gravity-y = omega arith; edge = refl; drag = omega arith })
    (omega arith)

module _ (caller : Caller) (nx ny : ℕ) (records : List ℕ) (a b c : ℕ) {ps : List Particle} (e : scatter_answer caller nx ny records a b c ≡ gives ps) where
  set-limits : SetLimits nx ny ps
  set-limits = accepted-limits nx ny records (accepted caller (still nx ny) (Three a b c) 0 records e).set

  long : Long (nx * ny) a b c
  long = long-three (nx * ny) a b c (accepted caller (still nx ny) (Three a b c) 0 records e).long

-- ---- scatter

pub scatter-is-adding : ScatterIsAdding
unfolding adding_answer
scatter-is-adding caller nx ny records a b c =
    (λ t. and_then (scatter_answer caller nx ny records (length-replicate {A = ℕ} a 0 t) (length-replicate b (pos 0) t) (length-replicate c (pos 0) t)) (λ ps. added_grids (nx * ny) (zeros a b c) (scatter_of nx ny ps)))
    ∙ by_answer (scatter_answer caller nx ny records a b c) refl
  where
    by_answer : (r : Answer (List Particle)) → scatter_answer caller nx ny records a b c ≡ r → and_then r (λ ps. added_grids (nx * ny) (zeros a b c) (scatter_of nx ny ps)) ≡ and_then r (λ ps. gives (scatter_of nx ny ps))
    by_answer (refused n k) e = refl
    by_answer (gives ps) e =
        let l = long caller nx ny records a b c e in
        let limits = set-limits caller nx ny records a b c e in
        ap (λ g. added_grids (nx * ny) g (scatter_of nx ny ps))
        ((λ t. zeros (l.mass-is t) (l.x-is t) (l.y-is t)) ∙ scattered-none nx ny)
        ∙ more_added nx ny limits.sizes [] ps (limited-set limits) limits.each

-- what is made of a result, and the same as the result
module _ {A B : Type 0} (new : A → B) {old left : B} {told : Answer Unit} where
  as-result : (a : Answer A) → Leaves a new old told left → Leaves (and_then a (λ x. gives (new x))) (λ y. y) old told left
  as-result (gives x) l = record { answer = l.answer; left_is = l.left_is }
  as-result (refused n k) l = record { answer = l.answer; left_is = l.left_is }

  of-result : (a : Answer A) → Leaves (and_then a (λ x. gives (new x))) (λ y. y) old told left → Leaves a new old told left
  of-result (gives x) l = record { answer = l.answer; left_is = l.left_is }
  of-result (refused n k) l = record { answer = l.answer; left_is = l.left_is }

pub scatters-alike : ScattersAlike
scatters-alike caller nx ny records a b c told mass px py = (
  λ h. subst promise (sym same) (as-result (scatter_of nx ny) answer h),
  λ h. of-result (scatter_of nx ny) answer (subst promise same h),
)
  where
    g : Grids
    g = zeros a b c

    answer : Answer (List Particle)
    answer = scatter_answer caller nx ny records (length g.mass) (length g.x) (length g.y)

    promise : Answer Grids → Type 0
    promise r = Leaves r (λ y. y) g told (grids_of mass px py)

    same : adding_answer caller nx ny records g ≡ and_then answer (λ ps. gives (scatter_of nx ny ps))
    same =
        scatter-is-adding caller nx ny records a b c
        ∙ (λ t. and_then (scatter_answer caller nx ny records (sym (length-replicate {A = ℕ} a 0) t) (sym (length-replicate b (pos 0)) t) (sym (length-replicate c (pos 0)) t)) (λ ps. gives (scatter_of nx ny ps)))

-- ---- sections

module _ (caller : Caller) (nx ny : ℕ) (sizes : SizeLimits nx ny) where
  -- a part that is an accepted set
  record Part (part : List Particle) : Type 0 where
    limits : SetLimits nx ny part
    within : CallerLimits caller nx ny (length part)

  accepts : (part : List Particle) → Part part → set_answer caller nx ny (records_of part) ≡ gives part
  accepts part p = within-accepted caller nx ny part p.limits p.within

  one-added : (qs rs : List Particle) → Part rs → Limited nx ny (qs ++ rs) → adding_answer caller nx ny (records_of rs) (scatter_of nx ny qs) ≡ gives (scatter_of nx ny (qs ++ rs))
  unfolding adding_answer
  one-added qs rs part limits =
      ap (λ a. and_then a (λ ps. added_grids (nx * ny) (scatter_of nx ny qs) (scatter_of nx ny ps)))
      (scatters caller nx ny (records_of rs) (accepts rs part) (record { mass-is = length-mass nx ny qs; x-is = length-x nx ny qs; y-is = length-y nx ny qs }))
      ∙ more_added nx ny sizes qs rs limits part.limits.each

  parts_added : (qs : List Particle) (parts : List (List Particle)) → Each Part parts → Limited nx ny (qs ++ joined parts) → adding_all caller nx ny (map records_of parts) (scatter_of nx ny qs) ≡ gives (scatter_of nx ny (qs ++ joined parts))
  unfolding adding_all
  parts_added qs [] sets limits = ap (λ ps. gives (scatter_of nx ny ps)) (sym (append-nil qs))
  parts_added qs (part ∷ parts) sets limits =
      let whole = subst (Limited nx ny) (sym (append_assoc qs part (joined parts))) limits in
      ap (λ a. and_then a (λ h. adding_all caller nx ny (map records_of parts) h)) (one-added qs part sets.0 (limited-prefix (qs ++ part) (joined parts) whole))
      ∙ parts_added (qs ++ part) parts sets.1 whole
      ∙ ap (λ ps. gives (scatter_of nx ny ps)) (append_assoc qs part (joined parts))

pub sections-added : SectionsAdded
sections-added caller nx ny records ps bytes e parts of =
    let bench = bench-accepts caller nx ny records e in
    let limits = accepted-limits nx ny records bench in
    let within = accepted-within caller nx ny records e in
    let sets = each_map _ (Part caller nx ny limits.sizes) (λ part o. record { limits = part-limits o limits; within = record { x-within = within.x-within; y-within = within.y-within; records-within = le_trans (part_length o) within.records-within } }) parts of.in_order in
    let light : Limited nx ny (joined parts) = record { each = parts-each (ParticleLimits nx ny) parts (each_map (Part caller nx ny limits.sizes) _ (λ part p. p.limits.each) parts sets); mass = subst (λ m. m ≤ most_total_mass) (sym (total-rearranged (λ p. p.mass) of.together)) limits.mass } in
    record {
      written = accepted-records nx ny records bytes bench;
      accepted = each_map (Part caller nx ny limits.sizes) _ (accepts caller nx ny limits.sizes) parts sets;
      grids =
          ap (adding_all caller nx ny (map records_of parts)) (scattered-none nx ny)
          ∙ parts_added caller nx ny limits.sizes [] parts sets light
          ∙ ap gives (scattered-rearranged nx ny of.together);
    }

pub cut-added : CutAdded
cut-added caller nx ny records ps bytes e k =
    let is = accepted-records nx ny records bytes (bench-accepts caller nx ny records e) in
    let cut = records-cut k ps in
    let front = ap (take (record_length * k)) is ∙ cut.0 in
    let back = ap (drop (record_length * k)) is ∙ cut.1 in (
      (λ t. adding_all caller nx ny (front t ∷ back t ∷ []) (zero_grids (nx * ny)))
          ∙ (sections-added caller nx ny records ps bytes e (take k ps ∷ drop k ps ∷ []) (record { in_order = (front-in-order k ps, (back-in-order k ps, tt)); together = cut-together k ps })).grids,
      (λ t. adding_all caller nx ny (back t ∷ front t ∷ []) (zero_grids (nx * ny)))
          ∙ (sections-added caller nx ny records ps bytes e (drop k ps ∷ take k ps ∷ []) (record { in_order = (back-in-order k ps, (front-in-order k ps, tt)); together = turned-together k ps })).grids,
    )

-- ---- what stays true

pub stays-present : StaysPresent
unfolding adding_answer added_grids
stays-present caller nx ny records g h e =
    let a = went_on (scatter_answer caller nx ny records (length g.mass) (length g.x) (length g.y)) _ e in
    let b = went_on (check_nodes (nx * ny) g (scatter_of nx ny a.0).mass) _ a.2 in
    let limits = set-limits caller nx ny records (length g.mass) (length g.x) (length g.y) a.1 in
    subst (Present (nx * ny)) (same-result b.2)
    (sums-present (nx * ny) g (scatter_of nx ny a.0) (scattered-moderate nx ny (some-columns limits.sizes) a.0 (limited-set limits)) b.1)

-- a momentum of 457,536 times the mass is calm
present-calm : (M : ℕ) (px py : ℤ) → valid_present M px py ≡ true → is_calm M px py ≡ true
present-calm M px py e =
    let m = present-moderate M px py e in
    ap₂ ◌&&◌ (le-leb M most_node_mass m.light)
    (both-within (M * calm_momentum) px py (bound-widen slower m.slow-x).size (bound-widen slower m.slow-y).size)
  where
    slower : M * most_present_momentum ≤ M * calm_momentum
    slower = omega arith

abbrev lengths : Grids → Buffers
lengths g = Three (length g.mass) (length g.x) (length g.y)

pub present-updated : PresentUpdated
unfolding update_answer
present-updated caller s g present = by_answer (begin_answer caller s (lengths g) 0 0) refl
  where
    by_answer : (a : Answer Unit) → begin_answer caller s (lengths g) 0 0 ≡ a → and_then a (λ _. update.check_nodes D (s.nx * s.ny) s.gx s.gy g.mass g.x g.y) ≡ a
    by_answer (refused n k) e = refl
    by_answer (gives u) e =
        let forces = (passed-checks caller s (lengths g) 0 0 e).1 in
        limits-nodes D (s.nx * s.ny) s.gx s.gy g.mass g.x g.y
        (λ k h.
        calm-limits D s.gx s.gy (get_or g.mass k 0) (get_or g.x k (pos 0)) (get_or g.y k (pos 0)) spline-lawful.spread forces.gravity-x forces.gravity-y
        (present-calm (get_or g.mass k 0) (get_or g.x k (pos 0)) (get_or g.y k (pos 0)) (present k h)))

pub added-updated : AddedUpdated
added-updated adds updates s records g h e = present-updated updates s h (stays-present adds s.nx s.ny records g h e)
