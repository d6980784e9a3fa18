-- The checks of moved records.
--     check-follow, checks-follow, checks-append     records that pass leave the answer to what follows
--     checks-result              checks that end in a result: all passed, and it is what follows
--     refused-at                 a record is refused at its own index
--     Checked, checked           what is known of numbers that pass
--     Passed, passed             and of a record that passes
-- Assumes nothing.
use mathlib.Core.Path.{◌≡◌, refl, sym, ap, subst, ◌∙◌}
use mathlib.Core.Bool.{Bool, true, false, ◌&&◌, ◌||◌}
use mathlib.Core.List.{List, [], ◌∷◌, ◌++◌}
use Prim.Native.Nat.{ℕ, suc, ◌+◌, ◌≤◌}
use native.Mathlib.Nat.{add-zero}
use native.Mathlib.Omega.{arith}
use lib.Dec.{T}
use lib.ListN.{length}
use lib.IntN.{ℤ, nat_abs}
use lib.Signed.{non_neg}
use mir.Facts.{and_yes}
use borrow.Author.Tests.{ltb-false, not-false}
use Rattle.refusal.specs.Refused.{Answer, gives, refused, refuse_if}
use Rattle.refusal.proofs.Answers.{not-refused}
use Rattle.refusal.proofs.Answers as answers
use Rattle.limits.specs.Limits.{most_velocity, most_affine}
use Rattle.limits.proofs.Flags.{or-false}
use Rattle.spline.specs.Spline.{on_axis}
use Rattle.particle.specs.declared.Particle.{Particle}
use Rattle.apic.specs.Step.{new_coordinate, along_x, along_y}
use Rattle.gathering.specs.Gather.{beyond, too_fast, too_steep, off_axis, off_grid, first_of, move_check, move_checks}

-- ---- one record's checks and those of the next

abbrev pub follow : {A : Type 0} → Answer (Unit {0}) → Answer A → Answer A
follow (gives u) rest = rest
follow (refused n k) rest = refused n k

follow-if : {A : Type 0} (t : Bool) (n k : ℕ) (a : Answer (Unit {0})) (rest : Answer A) → follow (refuse_if t n k a) rest ≡ refuse_if t n k (follow a rest)
follow-if true n k a rest = refl
follow-if false n k a rest = refl

pub check-follow : {A : Type 0} (nx ny : ℕ) (p q : Particle) (k : ℕ) (rest : Answer A) → move_check nx ny p q k rest ≡ follow (move_check nx ny p q k (gives tt)) rest
unfolding move_check
check-follow nx ny p q k rest = sym (simp follow-if)

follow-follow : {A : Type 0} (a b : Answer (Unit {0})) (rest : Answer A) → follow (follow a b) rest ≡ follow a (follow b rest)
follow-follow (gives u) b rest = refl
follow-follow (refused n k) b rest = refl

pub checks-follow : {A : Type 0} (nx ny : ℕ) (move : Particle → Particle) (k : ℕ) (ps : List Particle) (rest : Answer A) → move_checks nx ny move k ps rest ≡ follow (move_checks nx ny move k ps (gives tt)) rest
unfolding move_checks
checks-follow nx ny move k [] rest = refl
checks-follow nx ny move k (p ∷ ps) rest =
    check-follow nx ny p (move p) k (move_checks nx ny move (suc k) ps rest)
    ∙ ap (follow (move_check nx ny p (move p) k (gives tt))) (checks-follow nx ny move (suc k) ps rest)
    ∙ sym (follow-follow (move_check nx ny p (move p) k (gives tt)) (move_checks nx ny move (suc k) ps (gives tt)) rest)
    ∙ ap (λ a. follow a rest) (sym (check-follow nx ny p (move p) k (move_checks nx ny move (suc k) ps (gives tt))))

followed : {A : Type 0} (a : Answer (Unit {0})) (b c : A) → follow a (gives b) ≡ gives c → (a ≡ gives tt) × (b ≡ c)
followed (gives u) b c e = (refl, answers.same-result e)
followed (refused n k) b c e = answers.not-result e

pub checks-result : {A : Type 0} (nx ny : ℕ) (move : Particle → Particle) (k : ℕ) (ps : List Particle) (b : A) {c : A} → move_checks nx ny move k ps (gives b) ≡ gives c → (move_checks nx ny move k ps (gives (tt {0})) ≡ gives tt) × (b ≡ c)
checks-result nx ny move k ps b {c} e =
    followed (move_checks nx ny move k ps (gives tt)) b c (sym (checks-follow nx ny move k ps (gives b)) ∙ e)

pub checks-append : {A : Type 0} (nx ny : ℕ) (move : Particle → Particle) (k : ℕ) (ps qs : List Particle) (rest : Answer A) → move_checks nx ny move k (ps ++ qs) rest ≡ move_checks nx ny move k ps (move_checks nx ny move (k + length ps) qs rest)
unfolding move_checks
checks-append nx ny move k [] qs rest = ap (λ j. move_checks nx ny move j qs rest) (sym (add-zero k))
checks-append nx ny move k (p ∷ ps) qs rest =
    ap (move_check nx ny p (move p) k)
    (checks-append nx ny move (suc k) ps qs rest ∙ ap (λ j. move_checks nx ny move (suc k) ps (move_checks nx ny move j qs rest)) (next (length ps)))
  where
    next : (n : ℕ) → suc k + n ≡ k + suc n
    next n = omega arith

-- ---- a record that is refused, and one that passes

one_at : (t : Bool) (i k : ℕ) (a : Answer (Unit {0})) {n j : ℕ} → (a ≡ refused n j → j ≡ k) → refuse_if t i k a ≡ refused n j → j ≡ k
one_at true i k a h e = cc
one_at false i k a h e = h e

-- a record is refused at its own index
pub refused-at : (nx ny : ℕ) (p q : Particle) (k n j : ℕ) → move_check {A = Unit {0}} nx ny p q k (gives tt) ≡ refused n j → j ≡ k
unfolding move_check
refused-at nx ny p q k n j e =
    one_at (too_fast q.vx q.vy) 13 k _
    (one_at (too_steep q.bxx q.bxy q.byx q.byy) 14 k _
    (one_at (off_grid nx ny (new_coordinate along_x p q.vx) (new_coordinate along_y p q.vy)) 15 k (gives tt) (λ no. not-refused no)))
    e

within : (m : ℕ) (z : ℤ) → beyond m z ≡ false → nat_abs z ≤ m
within m z e = ltb-false m (nat_abs z) e

on-axis : (n : ℕ) (z : ℤ) → off_axis n z ≡ false → T (non_neg z) × T (on_axis n (nat_abs z))
on-axis n z e = and_yes (non_neg z) (on_axis n (nat_abs z)) (subst T (sym (not-false (non_neg z && on_axis n (nat_abs z)) e)) tt)

-- numbers that pass: the new place (a, b), velocity (u, v) and entries of B
pub record Checked (nx ny : ℕ) (a b u v xx xy yx yy : ℤ) : Type 0 where
  pub vx : nat_abs u ≤ most_velocity
  pub vy : nat_abs v ≤ most_velocity
  pub bxx : nat_abs xx ≤ most_affine
  pub bxy : nat_abs xy ≤ most_affine
  pub byx : nat_abs yx ≤ most_affine
  pub byy : nat_abs yy ≤ most_affine
  pub x : T (non_neg a) × T (on_axis nx (nat_abs a))
  pub y : T (non_neg b) × T (on_axis ny (nat_abs b))

pub checked : {A : Type 0} (nx ny : ℕ) (x y vx vy bxx bxy byx byy : ℤ) (k : ℕ) (rest : Answer A) {u : A} → first_of (too_fast vx vy) (too_steep bxx bxy byx byy) (off_grid nx ny x y) k rest ≡ gives u → Checked nx ny x y vx vy bxx bxy byx byy × (rest ≡ gives u)
checked nx ny x y vx vy bxx bxy byx byy k rest e =
    let first = answers.passed (too_fast vx vy) 13 k _ e in
    let second = answers.passed (too_steep bxx bxy byx byy) 14 k _ first.1 in
    let third = answers.passed (off_grid nx ny x y) 15 k rest second.1 in
    let v = or-false (beyond most_velocity vx) (beyond most_velocity vy) first.0 in
    let b = or-false (beyond most_affine bxx || beyond most_affine bxy) (beyond most_affine byx || beyond most_affine byy) second.0 in
    let bx = or-false (beyond most_affine bxx) (beyond most_affine bxy) b.0 in
    let by = or-false (beyond most_affine byx) (beyond most_affine byy) b.1 in
    let place = or-false (off_axis nx x) (off_axis ny y) third.0 in (
      record {
        vx = within most_velocity vx v.0;
        vy = within most_velocity vy v.1;
        bxx = within most_affine bxx bx.0;
        bxy = within most_affine bxy bx.1;
        byx = within most_affine byx by.0;
        byy = within most_affine byy by.1;
        x = on-axis nx x place.0;
        y = on-axis ny y place.1;
      },
      third.1,
    )

-- p before its move, q after it
abbrev pub Passed : ℕ → ℕ → Particle → Particle → Type 0
Passed nx ny p q =
    Checked nx ny (new_coordinate along_x p q.vx) (new_coordinate along_y p q.vy) q.vx q.vy q.bxx q.bxy q.byx q.byy

pub passed : {A : Type 0} (nx ny : ℕ) (p q : Particle) (k : ℕ) (rest : Answer A) {u : A} → move_check nx ny p q k rest ≡ gives u → Passed nx ny p q × (rest ≡ gives u)
unfolding move_check
passed nx ny p q k rest e =
    checked nx ny (new_coordinate along_x p q.vx) (new_coordinate along_y p q.vy) q.vx q.vy q.bxx q.bxy q.byx q.byy k rest e
