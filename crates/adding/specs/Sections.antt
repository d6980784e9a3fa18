-- Document 02, paper 4: what the adding scatter is for. Named statements about what it promises every caller, proved in proofs/.
--     ScatterIsAdding, ScattersAlike
--                           scatter is the adding scatter on a zero grid
--     SectionsAdded         the parts of an accepted set, added to a zero grid in any order, give the grid of the whole set
--     CutAdded              so do both parts of a set that is cut at a record, in either order
--     StaysPresent          every node of a grid that was added to passes 20's test again
--     PresentUpdated, AddedUpdated
--                           and Update tells neither 11 nor 12 of it
-- Assumes nothing.
use Rattle.std.specs.Prelude.{◌≡◌, true, List, [], ◌∷◌, ◌++◌, map, ℕ, ◌*◌, ◌<◌, length, get_or, take, drop, replicate, ℤ, pos}
use Rattle.arith.specs.Sums.{Each}
use Rattle.refusal.specs.Refused.{Answer, gives, and_then}
use Rattle.limits.specs.declared.Caller.{Caller}
use Rattle.particle.specs.declared.Particle.{Particle}
use Rattle.particle.specs.Layout.{record_length}
use Rattle.particles.specs.Set.{Bytes, set_answer, records_of}
use Rattle.apic.specs.Step.{Grids, grids_of}
use Rattle.settings.specs.declared.Settings.{Settings}
use Rattle.entry.specs.declared.Buffers.TheVariants.{Three}
use Rattle.entry.specs.Entry.{begin_answer}
use Rattle.update.specs.Update.{update_answer}
use Rattle.transfer.specs.Transfer.{scatter_answer, scatter_of, ScatterIs}
use Rattle.adding.specs.Adding.{valid_present, adding_answer, AddingIs}

-- grids of these lengths, with zero at every node
abbrev pub zeros : ℕ → ℕ → ℕ → Grids
zeros a b c = grids_of (replicate a 0) (replicate b (pos 0)) (replicate c (pos 0))

-- ---- scatter

-- the same answer and the same grids, for buffers of any lengths
abbrev pub ScatterIsAdding : Type 0
ScatterIsAdding =
    (caller : Caller) (nx ny : ℕ) (records : List ℕ) (a b c : ℕ) →
    adding_answer caller nx ny records (zeros a b c)
    ≡ and_then (scatter_answer caller nx ny records a b c) (λ ps. gives (scatter_of nx ny ps))

-- so what either scatter tells and leaves of grids of zeros the other does, refused calls too
abbrev pub ScattersAlike : Type 0
ScattersAlike =
    (caller : Caller) (nx ny : ℕ) (records : List ℕ) (a b c : ℕ) (told : Answer Unit) (mass : List ℕ) (px py : List ℤ) →
    let g = zeros a b c in
    (ScatterIs caller nx ny records g.mass g.x g.y told mass px py → AddingIs caller nx ny records g.mass g.x g.y told mass px py)
    × (AddingIs caller nx ny records g.mass g.x g.y told mass px py → ScatterIs caller nx ny records g.mass g.x g.y told mass px py)

-- ---- sections

abbrev pub zero_grids : ℕ → Grids
zero_grids n = zeros n n n

-- one call for each of these sets, on the grids that the call before left
unfoldable pub adding_all : Caller → ℕ → ℕ → List (List ℕ) → Grids → Answer Grids
adding_all caller nx ny [] g = gives g
adding_all caller nx ny (records ∷ sets) g = and_then (adding_answer caller nx ny records g) (λ h. adding_all caller nx ny sets h)

-- xs are elements of ys, in the order that they have there
pub data InOrder {A : Type 0} : List A → List A → Type 0 where
  none : InOrder [] []
  taken : {x : A} {xs ys : List A} → InOrder xs ys → InOrder (x ∷ xs) (x ∷ ys)
  passed : {y : A} {xs ys : List A} → InOrder xs ys → InOrder xs (y ∷ ys)

-- xs are the elements of ys, each as often, in any order
pub data Rearranged {A : Type 0} : List A → List A → Type 0 where
  empty : Rearranged [] []
  kept : {x : A} {xs ys : List A} → Rearranged xs ys → Rearranged (x ∷ xs) (x ∷ ys)
  exchanged : {x y : A} {xs : List A} → Rearranged (x ∷ y ∷ xs) (y ∷ x ∷ xs)
  again : {xs ys zs : List A} → Rearranged xs ys → Rearranged ys zs → Rearranged xs zs

abbrev pub joined : {A : Type 0} → List (List A) → List A
joined [] = []
joined (xs ∷ xss) = xs ++ joined xss

-- parts of a set: each has its particles in the set's order, and together they have each of the set's once
pub record PartsOf (ps : List Particle) (parts : List (List Particle)) : Type 0 where
  pub in_order : Each (λ part. InOrder part ps) parts
  pub together : Rearranged (joined parts) ps

-- the particles' records are the set's; each part is itself an accepted set; and no call is refused
pub record Sections (caller : Caller) (nx ny : ℕ) (records : List ℕ) (ps : List Particle) (parts : List (List Particle)) : Type 0 where
  pub written : records ≡ records_of ps
  pub accepted : Each (λ part. set_answer caller nx ny (records_of part) ≡ gives part) parts
  pub grids : adding_all caller nx ny (map records_of parts) (zero_grids (nx * ny)) ≡ gives (scatter_of nx ny ps)

abbrev pub SectionsAdded : Type 0
SectionsAdded =
    (caller : Caller) (nx ny : ℕ) (records : List ℕ) (ps : List Particle) → Bytes records → set_answer caller nx ny records ≡ gives ps →
    (parts : List (List Particle)) → PartsOf ps parts → Sections caller nx ny records ps parts

-- the bytes of the records before record k, and the others
abbrev pub CutAdded : Type 0
CutAdded =
    (caller : Caller) (nx ny : ℕ) (records : List ℕ) (ps : List Particle) → Bytes records → set_answer caller nx ny records ≡ gives ps →
    (k : ℕ) →
    (adding_all caller nx ny (take (record_length * k) records ∷ drop (record_length * k) records ∷ []) (zero_grids (nx * ny)) ≡ gives (scatter_of nx ny ps))
    × (adding_all caller nx ny (drop (record_length * k) records ∷ take (record_length * k) records ∷ []) (zero_grids (nx * ny)) ≡ gives (scatter_of nx ny ps))

-- ---- what stays true

-- each of n nodes passes 20's test
abbrev pub Present : ℕ → Grids → Type 0
Present n g = (k : ℕ) → k < n → valid_present (get_or g.mass k 0) (get_or g.x k (pos 0)) (get_or g.y k (pos 0)) ≡ true

abbrev pub StaysPresent : Type 0
StaysPresent =
    (caller : Caller) (nx ny : ℕ) (records : List ℕ) (g h : Grids) → adding_answer caller nx ny records g ≡ gives h → Present (nx * ny) h

-- Update answers what it does before it looks at a node
abbrev pub NoNodeRefused : Caller → Settings → Grids → Type 0
NoNodeRefused caller s g =
    update_answer caller s g.mass g.x g.y ≡ begin_answer caller s (Three (length g.mass) (length g.x) (length g.y)) 0 0

abbrev pub PresentUpdated : Type 0
PresentUpdated = (caller : Caller) (s : Settings) (g : Grids) → Present (s.nx * s.ny) g → NoNodeRefused caller s g

-- whoever added, and whoever updates
abbrev pub AddedUpdated : Type 0
AddedUpdated =
    (adds updates : Caller) (s : Settings) (records : List ℕ) (g h : Grids) → adding_answer adds s.nx s.ny records g ≡ gives h → NoNodeRefused updates s h
