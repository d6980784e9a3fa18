-- `check_read` meets its contract: each way out by what the checks before it find, and each field is what its bits stand for.
-- Assumes nothing.
use Rattle.std.proofs.Common.{arith, Bool, ◌≡◌, refl, sym, ◌∙◌, ◌<◌, ◌^◌, ℤ, pos}
use borrow.Author.Tests.{eq-eqb, ne_eqb}
use mathlib.Core.Bool.{◌||◌}
use lib.IntN.{neg_ℤ}
use lib.Signed.{mag}
use mir.Syntax.{w16}
use mir.Val.{to_z, of_z}
use Rattle.bits.proofs.TwosComplement.{tested}
use Rattle.limits.specs.Limits.{isℤ}
use Rattle.particle.specs.declared.Particle.{Particle}
use Rattle.particle.specs.Record.{lowest_velocity}
use Rattle.particle.proofs.Reading.{read-checked}
use Rattle.record_reader.proofs.check_read.Goals as goal

abbrev either : ℤ → ℤ → ℤ → Bool
either k a b = isℤ k a || isℤ k b

-- the columns of B
abbrev first : Particle → Bool
first p = either (neg_ℤ (pos 2048)) p.bxx p.byx

abbrev second : Particle → Bool
second p = either (neg_ℤ (pos 2048)) p.bxy p.byy

-- what each check finds
velocity-is : (p : Particle) → mag p.vx < 2 ^ 15 → mag p.vy < 2 ^ 15 → {b r : Bool} → b ≡ either (neg_ℤ (pos 64)) (to_z w16 (of_z w16 p.vx)) (to_z w16 (of_z w16 p.vy)) → b ≡ r → lowest_velocity p ≡ r
velocity-is p x y e f = tested (either (neg_ℤ (pos 64))) p.vx p.vy x y e ∙ f

first-is : (p : Particle) → mag p.bxx < 2 ^ 15 → mag p.byx < 2 ^ 15 → {b r : Bool} → b ≡ either (neg_ℤ (pos 2048)) (to_z w16 (of_z w16 p.bxx)) (to_z w16 (of_z w16 p.byx)) → b ≡ r → first p ≡ r
first-is p x y e f = tested (either (neg_ℤ (pos 2048))) p.bxx p.byx x y e ∙ f

second_is : (p : Particle) → mag p.bxy < 2 ^ 15 → mag p.byy < 2 ^ 15 → {b r : Bool} → b ≡ either (neg_ℤ (pos 2048)) (to_z w16 (of_z w16 p.bxy)) (to_z w16 (of_z w16 p.byy)) → b ≡ r → second p ≡ r
second_is p x y e f = tested (either (neg_ℤ (pos 2048))) p.bxy p.byy x y e ∙ f

pub returns-then-p-eq-NO_MASS : goal.returns-then-p-eq-NO_MASS
returns-then-p-eq-NO_MASS c = sym (read-checked _ c.args.p (eq-eqb _ _ c.if-p-eq-NO_MASS.true) refl refl refl)

pub returns-then-one_is : goal.returns-then-one_is
returns-then-one_is c =
    sym
    (read-checked _ c.args.p (ne_eqb _ _ c.if-p-eq-NO_MASS.false)
    (velocity-is c.args.p (omega arith) (omega arith) c.one_is.ensures c.if-one_is.true)
    refl refl)

pub returns-then-one_is-2 : goal.returns-then-one_is-2
returns-then-one_is-2 c =
    sym
    (read-checked _ c.args.p (ne_eqb _ _ c.if-p-eq-NO_MASS.false)
    (velocity-is c.args.p (omega arith) (omega arith) c.one_is.ensures c.if-one_is.false)
    (first-is c.args.p (omega arith) (omega arith) c.one_is-2.ensures c.if-one_is-2.true)
    refl)

pub returns-then-one_is-3 : goal.returns-then-one_is-3
returns-then-one_is-3 c =
    sym
    (read-checked _ c.args.p (ne_eqb _ _ c.if-p-eq-NO_MASS.false)
    (velocity-is c.args.p (omega arith) (omega arith) c.one_is.ensures c.if-one_is.false)
    (first-is c.args.p (omega arith) (omega arith) c.one_is-2.ensures c.if-one_is-2.false)
    (second_is c.args.p (omega arith) (omega arith) c.one_is-3.ensures c.if-one_is-3.true))

pub returns : goal.returns
returns c =
    sym
    (read-checked _ c.args.p (ne_eqb _ _ c.if-p-eq-NO_MASS.false)
    (velocity-is c.args.p (omega arith) (omega arith) c.one_is.ensures c.if-one_is.false)
    (first-is c.args.p (omega arith) (omega arith) c.one_is-2.ensures c.if-one_is-2.false)
    (second_is c.args.p (omega arith) (omega arith) c.one_is-3.ensures c.if-one_is-3.false))
