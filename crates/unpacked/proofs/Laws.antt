-- The laws of particles in an array.
--     length-unpacked         nine numbers for each particle
--     numbers-at              the numbers of the k-th particle
--     many, holds_at, some_at an array that holds a particle set: how many particles, and each of them
--     mass-at, x-at, y-at     where such a particle has numbers that are not below zero
--     stored, stored-placed, take-stored, drop-stored
--                             nine numbers written behind those of k particles are one particle more, and what stands behind is kept
-- Assumes nothing.
use mathlib.Core.Path.{◌≡◌, refl, sym, ap, subst, ◌∙◌}
use mathlib.Core.List.{List, [], ◌∷◌, ◌++◌, append_assoc}
use Prim.Native.Nat.{ℕ, zero, suc, ◌+◌, ◌*◌, ◌/◌, ◌<◌, ◌≤◌}
use native.Mathlib.Nat.{zero-add, add-zero, le_of_suc-le-suc, not-suc-le-zero}
use native.Mathlib.Numerals.{add-one, add-two, add-three, add-four, add_five, add_six, add_seven, add_eight}
use native.Mathlib.Omega.{arith}
use lib.ListN.{length, get_or, take, drop, set, length-append, get_or-append}
use lib.Seq.{get_or-append-add, sets, sets-eq, length-sets, take_at, length-take-le, drop-set-lt}
use lib.IntN.{ℤ, pos}
use Rattle.arith.specs.Lists.{each_at, placed}
use Rattle.particle.specs.declared.Particle.{Particle}
use Rattle.apic.specs.Limits.{ParticleLimits}
use Rattle.unpacked.specs.Unpacked.{per_particle, numbers, unpacked, NumbersAt, Holds, UnpackedSet, NaturalAt, HoldsAt, ParticleAt}

-- ---- what is unpacked

pub length-unpacked : (ps : List Particle) → length (unpacked ps) ≡ per_particle * length ps
unfolding unpacked
length-unpacked [] = refl
length-unpacked (p ∷ ps) = length-append (numbers p) (unpacked ps) ∙ omega (arith, length-unpacked ps)

pub unpacked-append : (ps qs : List Particle) → unpacked (ps ++ qs) ≡ unpacked ps ++ unpacked qs
unfolding unpacked
unpacked-append [] qs = refl
unpacked-append (p ∷ ps) qs = ap (λ l. numbers p ++ l) (unpacked-append ps qs) ∙ sym (append_assoc (numbers p) (unpacked ps) (unpacked qs))

pub get_or-unpacked : (ps : List Particle) (k f : ℕ) (d : Particle) → k < length ps → f < per_particle → get_or (unpacked ps) (per_particle * k + f) (pos 0) ≡ get_or (numbers (get_or ps k d)) f (pos 0)
unfolding unpacked
get_or-unpacked [] k f d h g = absurd (not-suc-le-zero h)
get_or-unpacked (p ∷ ps) zero f d h g =
    ap (λ i. get_or (numbers p ++ unpacked ps) i (pos 0)) (zero-add f) ∙ get_or-append (numbers p) (unpacked ps) (pos 0) f g
get_or-unpacked (p ∷ ps) (suc k) f d h g =
    ap (λ i. get_or (numbers p ++ unpacked ps) i (pos 0)) (next k f)
    ∙ get_or-append-add (numbers p) (unpacked ps) (per_particle * k + f) (pos 0)
    ∙ get_or-unpacked ps k f d (le_of_suc-le-suc h) g
  where
    next : (k f : ℕ) → per_particle * suc k + f ≡ per_particle + (per_particle * k + f)
    next k f = omega arith

pub numbers-at : (ps : List Particle) (k : ℕ) (d : Particle) → k < length ps → NumbersAt (unpacked ps) k (get_or ps k d)
numbers-at ps k d h =
    record {
      mass = ap (λ i. get_or (unpacked ps) i (pos 0)) (sym (add-zero (per_particle * k))) ∙ get_or-unpacked ps k 0 d h (omega arith);
      x = get_or-unpacked ps k 1 d h (omega arith);
      y = get_or-unpacked ps k 2 d h (omega arith);
      vx = get_or-unpacked ps k 3 d h (omega arith);
      vy = get_or-unpacked ps k 4 d h (omega arith);
      bxx = get_or-unpacked ps k 5 d h (omega arith);
      bxy = get_or-unpacked ps k 6 d h (omega arith);
      byx = get_or-unpacked ps k 7 d h (omega arith);
      byy = get_or-unpacked ps k 8 d h (omega arith);
    }

-- ---- an array that holds a particle set

module _ {nx ny : ℕ} {l : List ℤ} {ps : List Particle} (s : Holds nx ny l ps) where
  pub numbers-count : length l ≡ per_particle * length ps
  numbers-count = ap length s.is ∙ length-unpacked ps

  pub many : length l / per_particle ≡ length ps
  many = omega (arith, numbers-count)

  pub holds_at : (k : ℕ) (d : Particle) → k < length ps → HoldsAt nx ny l k (get_or ps k d)
  holds_at k d h =
      record {
        inside = omega (arith, numbers-count);
        numbers = subst (λ m. NumbersAt m k (get_or ps k d)) (sym s.is) (numbers-at ps k d h);
        sizes = s.limits.sizes;
        limits = each_at (ParticleLimits nx ny) ps k d s.limits.each h;
      }

-- for a place of which nothing is asked
abbrev pub nobody : Particle
nobody =
    record {
      identifier = 0;
      mass = 0;
      x = 0;
      y = 0;
      vx = pos 0;
      vy = pos 0;
      bxx = pos 0;
      bxy = pos 0;
      byx = pos 0;
      byy = pos 0;
      marks = 0;
    }

pub some_at : {nx ny : ℕ} {l : List ℤ} (s : UnpackedSet nx ny l) (k : ℕ) → k < length l / per_particle → ParticleAt nx ny l k
some_at s k h =
    record {
      particle = get_or s.particles k nobody;
      holds = holds_at s.holds k nobody (subst (λ n. k < n) (many s.holds) h);
    }

module _ {nx ny : ℕ} {l : List ℤ} {k : ℕ} {p : Particle} (h : HoldsAt nx ny l k p) where
  pub mass-at : NaturalAt l (per_particle * k)
  mass-at = record { inside = omega (arith, h.inside); number = p.mass; is = h.numbers.mass }

  pub x-at : NaturalAt l (per_particle * k + 1)
  x-at = record { inside = omega (arith, h.inside); number = p.x; is = h.numbers.x }

  pub y-at : NaturalAt l (per_particle * k + 2)
  y-at = record { inside = omega (arith, h.inside); number = p.y; is = h.numbers.y }

-- ---- storing

-- the numbers of q written from place i on
abbrev pub stored : List ℤ → ℕ → Particle → List ℤ
stored l i q =
    set (set (set (set (set (set (set (set (set l i (pos q.mass)) (i + 1) (pos q.x)) (i + 2) (pos q.y))
    (i + 3) q.vx) (i + 4) q.vy) (i + 5) q.bxx) (i + 6) q.bxy) (i + 7) q.byx) (i + 8) q.byy

stored-sets : (l : List ℤ) (i : ℕ) (q : Particle) → stored l i q ≡ sets l i (numbers q)
stored-sets l i q =
    λ t. set (set (set (set (set (set (set (set (set l i (pos q.mass)) (add-one i t) (pos q.x)) (add-two i t) (pos q.y))
    (add-three i t) q.vx) (add-four i t) q.vy) (add_five i t) q.bxx) (add_six i t) q.bxy) (add_seven i t) q.byx) (add_eight i t) q.byy

-- they are a part put at its place
pub stored-placed : (l : List ℤ) (i : ℕ) (q : Particle) → i + per_particle ≤ length l → stored l i q ≡ placed l i (numbers q)
stored-placed l i q h =
    stored-sets l i q
    ∙ sets-eq (numbers q) l i h
    ∙ append_assoc (take i l) (numbers q) (drop (i + length (numbers q)) l)

pub length-stored : (l : List ℤ) (i : ℕ) (q : Particle) → length (stored l i q) ≡ length l
length-stored l i q = ap length (stored-sets l i q) ∙ length-sets l i (numbers q)

pub take-stored : (l : List ℤ) (qs : List Particle) (q : Particle) (k : ℕ) → length qs ≡ k → per_particle * k + per_particle ≤ length l → take (per_particle * k) l ≡ unpacked qs → take (per_particle * (k + 1)) (stored l (per_particle * k) q) ≡ unpacked (qs ++ q ∷ [])
unfolding unpacked
take-stored l qs q k e h t =
    ap (λ m. take (per_particle * (k + 1)) m) (stored-sets l (per_particle * k) q ∙ sets-eq (numbers q) l (per_particle * k) h)
    ∙ take_at (take (per_particle * k) l ++ numbers q) (drop (per_particle * k + per_particle) l) (per_particle * (k + 1)) count
    ∙ ap (λ m. m ++ numbers q) t
    ∙ sym (unpacked-append qs (q ∷ []))
  where
    count : length (take (per_particle * k) l ++ numbers q) ≡ per_particle * (k + 1)
    count = length-append (take (per_particle * k) l) (numbers q) ∙ omega (arith, length-take-le (per_particle * k) l (omega arith))

-- and what stands behind is kept
pub drop-stored : (l : List ℤ) (i n : ℕ) (q : Particle) → i + per_particle ≤ n → drop n (stored l i q) ≡ drop n l
drop-stored l i n q h =
    let h₀ : i < n = omega arith in
    let h₁ : i + 1 < n = omega arith in
    let h₂ : i + 2 < n = omega arith in
    let h₃ : i + 3 < n = omega arith in
    let h₄ : i + 4 < n = omega arith in
    let h₅ : i + 5 < n = omega arith in
    let h₆ : i + 6 < n = omega arith in
    let h₇ : i + 7 < n = omega arith in
    let h₈ : i + 8 < n = omega arith in
    simp drop-set-lt
