-- `check_write` meets its contract: each way out by what the checks before it find, and each field is what its bits stand for.
-- Assumes nothing.
use Rattle.std.proofs.Common.{arith, Bool, ◌≡◌, refl, sym, ◌∙◌, ◌<◌, ◌^◌, ℕ, ℤ, to_z, of_z}
use mathlib.Core.Bool.{◌&&◌}
use lib.Signed.{mag}
use mir.Syntax.{w16}
use Rattle.bits.proofs.TwosComplement.{tested}
use Rattle.limits.specs.Limits.{most_velocity, most_affine, within}
use Rattle.particle.specs.declared.Particle.{Particle}
use Rattle.particle.specs.Record.{valid_velocities}
use Rattle.particle.proofs.Writing.{write_checked}
use Rattle.record_writer.proofs.check_write.Goals as goal

abbrev both : ℕ → ℤ → ℤ → Bool
both k a b = within k a && within k b

abbrev first : Particle → Bool
first p = both most_affine p.bxx p.bxy

abbrev second : Particle → Bool
second p = both most_affine p.byx p.byy

-- what each check finds
velocity-is : (p : Particle) → mag p.vx < 2 ^ 15 → mag p.vy < 2 ^ 15 → {b r : Bool} → b ≡ both most_velocity (to_z w16 (of_z w16 p.vx)) (to_z w16 (of_z w16 p.vy)) → b ≡ r → valid_velocities p ≡ r
velocity-is p x y e f = tested (both most_velocity) p.vx p.vy x y e ∙ f

first-is : (p : Particle) → mag p.bxx < 2 ^ 15 → mag p.bxy < 2 ^ 15 → {b r : Bool} → b ≡ both most_affine (to_z w16 (of_z w16 p.bxx)) (to_z w16 (of_z w16 p.bxy)) → b ≡ r → first p ≡ r
first-is p x y e f = tested (both most_affine) p.bxx p.bxy x y e ∙ f

second_is : (p : Particle) → mag p.byx < 2 ^ 15 → mag p.byy < 2 ^ 15 → {b r : Bool} → b ≡ both most_affine (to_z w16 (of_z w16 p.byx)) (to_z w16 (of_z w16 p.byy)) → b ≡ r → second p ≡ r
second_is p x y e f = tested (both most_affine) p.byx p.byy x y e ∙ f

pub returns-then-not-mass_is_valid : goal.returns-then-not-mass_is_valid
returns-then-not-mass_is_valid c =
    sym
    (write_checked c.args.p
    (sym c.mass_is_valid.ensures ∙ c.if-not-mass_is_valid.true)
    refl
    refl
    refl
    refl)

pub returns-then-not-both_between : goal.returns-then-not-both_between
returns-then-not-both_between c =
    sym
    (write_checked c.args.p
    (sym c.mass_is_valid.ensures ∙ c.if-not-mass_is_valid.false)
    (velocity-is c.args.p (omega arith) (omega arith) c.both_between.ensures c.if-not-both_between.true)
    refl
    refl
    refl)

pub returns-then-not-both_between-2 : goal.returns-then-not-both_between-2
returns-then-not-both_between-2 c =
    sym
    (write_checked c.args.p
    (sym c.mass_is_valid.ensures ∙ c.if-not-mass_is_valid.false)
    (velocity-is c.args.p (omega arith) (omega arith) c.both_between.ensures c.if-not-both_between.false)
    (first-is c.args.p (omega arith) (omega arith) c.both_between-2.ensures c.if-not-both_between-2.true)
    refl
    refl)

pub returns-then-not-both_between-3 : goal.returns-then-not-both_between-3
returns-then-not-both_between-3 c =
    sym
    (write_checked c.args.p
    (sym c.mass_is_valid.ensures ∙ c.if-not-mass_is_valid.false)
    (velocity-is c.args.p (omega arith) (omega arith) c.both_between.ensures c.if-not-both_between.false)
    (first-is c.args.p (omega arith) (omega arith) c.both_between-2.ensures c.if-not-both_between-2.false)
    (second_is c.args.p (omega arith) (omega arith) c.both_between-3.ensures c.if-not-both_between-3.true)
    refl)

pub returns-then-not-position_is_valid : goal.returns-then-not-position_is_valid
returns-then-not-position_is_valid c =
    sym
    (write_checked c.args.p
    (sym c.mass_is_valid.ensures ∙ c.if-not-mass_is_valid.false)
    (velocity-is c.args.p (omega arith) (omega arith) c.both_between.ensures c.if-not-both_between.false)
    (first-is c.args.p (omega arith) (omega arith) c.both_between-2.ensures c.if-not-both_between-2.false)
    (second_is c.args.p (omega arith) (omega arith) c.both_between-3.ensures c.if-not-both_between-3.false)
    (sym c.position_is_valid.ensures ∙ c.if-not-position_is_valid.true))

pub returns : goal.returns
returns c =
    sym
    (write_checked c.args.p
    (sym c.mass_is_valid.ensures ∙ c.if-not-mass_is_valid.false)
    (velocity-is c.args.p (omega arith) (omega arith) c.both_between.ensures c.if-not-both_between.false)
    (first-is c.args.p (omega arith) (omega arith) c.both_between-2.ensures c.if-not-both_between-2.false)
    (second_is c.args.p (omega arith) (omega arith) c.both_between-3.ensures c.if-not-both_between-3.false)
    (sym c.position_is_valid.ensures ∙ c.if-not-position_is_valid.false))
