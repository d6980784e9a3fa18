-- The walk over the records.
--     Walk          k records are moved, what stands behind them is as it was, and the answer is that of the others
--     start, turn, stop, end     it begins, goes on, leaves with a refusal, and ends
--     Walks, with the same laws  this for whichever particles the source holds
-- Assumes nothing.
use Rattle.std.proofs.Common.{Result, Ok, Err}
use mathlib.Core.Path.{◌≡◌, refl, sym, ap, ap₂, subst, ◌∙◌}
use mathlib.Core.List.{List, [], ◌∷◌, ◌++◌, map, map-append}
use Prim.Native.Nat.{ℕ, suc, ◌+◌, ◌-◌, ◌*◌, ◌/◌, ◌≤◌, ◌<◌}
use native.Mathlib.Nat.{add-zero}
use native.Mathlib.Numerals.{add-one}
use native.Mathlib.Omega.{arith}
use lib.ListN.{length, take, drop, get_or, set, length-map, take-append-drop}
use lib.Seq.{take-suc, drop-cons, drop-length, drop-drop, length-take-le}
use lib.IntN.{ℤ, pos}
use lib.Signed.{pos-nat_abs}
use Rattle.refusal.specs.declared.Refusal.{Refusal}
use Rattle.refusal.specs.Refused.{Answer, gives, number, place, refused_by, told}
use Rattle.particle.specs.declared.Particle.{Particle}
use Rattle.apic.specs.Step.{moved, new_coordinate, along_x, along_y}
use Rattle.unpacked.specs.Unpacked.{per_particle, unpacked, Holds}
use Rattle.unpacked.proofs.Laws.{numbers-count, many, holds_at, nobody, stored, length-stored, take-stored, drop-stored}
use Rattle.gathering.specs.Gather.{gathered, move_checks, answer_from, moved_before, moved_into, target_from, GathersFrom, Gathers}
use Rattle.gathering.specs.Parts.{particle_stored, moved_stored, MovesOne, MovesAt}
use Rattle.gathering.proofs.Checks.{follow, check-follow, refused-at, Passed, passed}

-- ---- a record that passes is stored whole

stored_is : (w : ℕ → ℕ → ℤ) (nx ny : ℕ) (ux uy : List ℤ) (l : List ℤ) (at : ℕ) (p : Particle) → Passed nx ny p (gathered w nx ny ux uy p) → moved_stored l at p (gathered w nx ny ux uy p) ≡ stored l at (gathered w nx ny ux uy p)
unfolding moved_stored particle_stored moved
stored_is w nx ny ux uy l at p h =
    λ i. set (set (set (set (set (set (set (set (set l at (pos p.mass))
    (at + 1) (sym (pos-nat_abs (new_coordinate along_x p (gathered w nx ny ux uy p).vx) h.x.0) i))
    (at + 2) (sym (pos-nat_abs (new_coordinate along_y p (gathered w nx ny ux uy p).vy) h.y.0) i))
    (at + 3) (gathered w nx ny ux uy p).vx) (at + 4) (gathered w nx ny ux uy p).vy) (at + 5) (gathered w nx ny ux uy p).bxx)
    (at + 6) (gathered w nx ny ux uy p).bxy) (at + 7) (gathered w nx ny ux uy p).byx) (at + 8) (gathered w nx ny ux uy p).byy

-- ---- the walk over the particles ps

-- the answer of the particles from place k on, where the first of all is record `first`
abbrev pub checks_from : (ℕ → ℕ → ℤ) → ℕ → ℕ → ℕ → List ℤ → List ℤ → List Particle → ℕ → Answer (Unit {0})
checks_from w first nx ny ux uy ps k = answer_from w (first + k) nx ny ux uy (drop k ps)

pub record Walk (w : ℕ → ℕ → ℤ) (first nx ny : ℕ) (ps : List Particle) (ux uy target₀ : List ℤ) (k : ℕ) (target : List ℤ) : Type 0 where
  pub most : k ≤ length ps
  pub room : length target ≡ per_particle * length ps
  pub taken : take (per_particle * k) target ≡ unpacked (map (gathered w nx ny ux uy) (take k ps))
  pub behind : drop (per_particle * k) target ≡ drop (per_particle * k) target₀
  pub answer : answer_from w first nx ny ux uy ps ≡ checks_from w first nx ny ux uy ps k

pub start : (w : ℕ → ℕ → ℤ) (first nx ny : ℕ) (ps : List Particle) (ux uy target : List ℤ) → length target ≡ per_particle * length ps → Walk w first nx ny ps ux uy target 0 target
unfolding unpacked
start w first nx ny ps ux uy target e =
    record {
      most = omega arith;
      room = e;
      taken = refl;
      behind = refl;
      answer = ap (λ n. answer_from w n nx ny ux uy ps) (sym (add-zero first));
    }

module _ {w : ℕ → ℕ → ℤ} {first nx ny : ℕ} {ps : List Particle} {ux uy target₀ : List ℤ} {k : ℕ} {target : List ℤ} (so_far : Walk w first nx ny ps ux uy target₀ k target) where
  -- the target of a call that ends with this answer, once k records are moved
  target-of : (a : Answer (Unit {0})) → answer_from w first nx ny ux uy ps ≡ a → moved_before a first (length ps) ≡ k → target ≡ target_from w first nx ny ux uy ps target₀
  unfolding target_from
  target-of a is many =
      sym (take-append-drop (per_particle * k) target)
      ∙ ap₂ ◌++◌ so_far.taken so_far.behind
      ∙ ap (λ n. moved_into (gathered w nx ny ux uy) n ps target₀) (sym many ∙ ap (λ b. moved_before b first (length ps)) (sym is))

  pub end : length ps ≤ k → GathersFrom w first nx ny ps ux uy target₀ target (Ok tt)
  unfolding move_checks
  end h = record { answer = sym passes; target_is = target-of (gives tt) passes (sym all) }
    where
      all : k ≡ length ps
      all = omega (arith, so_far.most)

      passes : answer_from w first nx ny ux uy ps ≡ gives tt
      passes = so_far.answer ∙ ap (answer_from w (first + k) nx ny ux uy) (ap (λ n. drop n ps) all ∙ drop-length ps)

  -- the particle at place k
  abbrev here : Particle
  here = get_or ps k nobody

  -- and after its move
  abbrev next : Particle
  next = gathered w nx ny ux uy (get_or ps k nobody)

  module _ (h : k < length ps) {target' : List ℤ} where
    -- the answer of record k and of those behind it
    from-here : {r : Result Unit Refusal} → MovesOne nx ny (first + k) k (get_or ps k nobody) (gathered w nx ny ux uy (get_or ps k nobody)) target target' r → answer_from w first nx ny ux uy ps ≡ follow (told r) (checks_from w first nx ny ux uy ps (k + 1))
    unfolding move_checks
    from-here m =
        so_far.answer
        ∙ ap (answer_from w (first + k) nx ny ux uy) (drop-cons ps k nobody h)
        ∙ check-follow nx ny here next (first + k) (answer_from w (suc (first + k)) nx ny ux uy (drop (suc k) ps))
        ∙ ap₂ follow (sym m.answer) (ap₂ (λ n j. answer_from w n nx ny ux uy (drop j ps)) more (sym (add-one k)))
      where
        more : suc (first + k) ≡ first + (k + 1)
        more = omega arith

    pub stop : {e : Refusal} → MovesOne nx ny (first + k) k (get_or ps k nobody) (gathered w nx ny ux uy (get_or ps k nobody)) target target' (Err e) → GathersFrom w first nx ny ps ux uy target₀ target' (Err e)
    stop {e} m = record { answer = sym (from-here m); target_is = m.target_is ∙ target-of (refused_by e) (from-here m) before }
      where
        at-record : place e ≡ first + k
        at-record = refused-at nx ny here next (first + k) (number e) (place e) (sym m.answer)

        before : place e - first ≡ k
        before = omega (arith, at-record)

    pub turn : MovesOne nx ny (first + k) k (get_or ps k nobody) (gathered w nx ny ux uy (get_or ps k nobody)) target target' (Ok tt) → Walk w first nx ny ps ux uy target₀ (k + 1) target'
    turn m =
        record {
          most = omega (arith, h);
          room = ap length is-stored ∙ length-stored target (per_particle * k) next ∙ so_far.room;
          taken =
              ap (λ l. take (per_particle * (k + 1)) l) is-stored
              ∙ take-stored target (map (gathered w nx ny ux uy) (take k ps)) next k (length-map (take k ps) (gathered w nx ny ux uy) ∙ length-take-le k ps so_far.most) (omega (arith, h, so_far.room)) so_far.taken
              ∙ ap unpacked (sym more);
          behind = ap (drop (per_particle * (k + 1))) is-stored ∙ drop-stored target (per_particle * k) (per_particle * (k + 1)) next (omega arith) ∙ further so_far.behind;
          answer = from-here m;
        }
      where
        one_more : per_particle * k + per_particle ≡ per_particle * (k + 1)
        one_more = omega arith

        further : drop (per_particle * k) target ≡ drop (per_particle * k) target₀ → drop (per_particle * (k + 1)) target ≡ drop (per_particle * (k + 1)) target₀
        further e =
            ap (λ n. drop n target) (sym one_more)
            ∙ sym (drop-drop per_particle (per_particle * k) target)
            ∙ ap (drop per_particle) e
            ∙ drop-drop per_particle (per_particle * k) target₀
            ∙ ap (λ n. drop n target₀) one_more

        is-stored : target' ≡ stored target (per_particle * k) next
        is-stored =
            m.target_is
            ∙ stored_is w nx ny ux uy target (per_particle * k) here (passed nx ny here next (first + k) (gives tt) (sym m.answer)).0

        more : map (gathered w nx ny ux uy) (take (k + 1) ps) ≡ map (gathered w nx ny ux uy) (take k ps) ++ next ∷ []
        more =
            ap (λ n. map (gathered w nx ny ux uy) (take n ps)) (add-one k)
            ∙ ap (map (gathered w nx ny ux uy)) (take-suc ps k nobody h)
            ∙ map-append (gathered w nx ny ux uy) (take k ps) (here ∷ [])

-- ---- whichever particles the source holds

pub record Walks (w : ℕ → ℕ → ℤ) (first nx ny : ℕ) (source ux uy target₀ : List ℤ) (k : ℕ) (target : List ℤ) : Type 0 where
  pub room : length target ≡ length source
  pub walk : (ps : List Particle) → Holds nx ny source ps → Walk w first nx ny ps ux uy target₀ k target

pub walks-start : (w : ℕ → ℕ → ℤ) (first nx ny : ℕ) (source ux uy target : List ℤ) → length target ≡ length source → Walks w first nx ny source ux uy target 0 target
walks-start w first nx ny source ux uy target e =
    record { room = e; walk = λ ps s. start w first nx ny ps ux uy target (e ∙ numbers-count s) }

module _ {w : ℕ → ℕ → ℤ} {first nx ny : ℕ} {source ux uy target₀ : List ℤ} {k : ℕ} {target : List ℤ} (so_far : Walks w first nx ny source ux uy target₀ k target) where
  pub walks-end : length source / per_particle ≤ k → Gathers w first nx ny source ux uy target₀ target (Ok tt)
  walks-end h ps s = end (so_far.walk ps s) (subst (λ n. n ≤ k) (many s) h)

  module _ (h : k < length source / per_particle) where
    below : {ps : List Particle} → Holds nx ny source ps → k < length ps
    below s = subst (λ n. k < n) (many s) h

    pub walks-stop : {target' : List ℤ} {e : Refusal} → MovesAt w nx ny (first + k) k source ux uy target target' (Err e) → Gathers w first nx ny source ux uy target₀ target' (Err e)
    walks-stop m ps s = stop (so_far.walk ps s) (below s) (m (get_or ps k nobody) (holds_at s k nobody (below s)))

    pub walks_turn : {target' : List ℤ} → length target' ≡ length target → MovesAt w nx ny (first + k) k source ux uy target target' (Ok tt) → Walks w first nx ny source ux uy target₀ (k + 1) target'
    walks_turn long m =
        record {
          room = long ∙ so_far.room;
          walk = λ ps s. turn (so_far.walk ps s) (below s) (m (get_or ps k nobody) (holds_at s k nobody (below s)));
        }
