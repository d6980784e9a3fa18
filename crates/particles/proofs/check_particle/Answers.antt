-- `check_particle` meets its contract: each way out by the law of its check. Assumes nothing.
use Rattle.std.proofs.Common.{sym, ◌∙◌, ◌+◌, add-one}
use Rattle.refusal.specs.Refused.{gives}
use Rattle.particles.proofs.CheckedParticle.{off-x, off-y, not-above, too-heavy, goes_on}
use Rattle.particles.proofs.check_particle.Goals as goal

pub returns-then-not-on_axis : goal.returns-then-not-on_axis
returns-then-not-on_axis c =
    sym
    (off-x c.args.nx c.args.ny c.args.k c.args.entry c.args.p
    (sym c.on_axis.ensures ∙ c.if-not-on_axis.true))

pub returns-then-not-on_axis-2 : goal.returns-then-not-on_axis-2
returns-then-not-on_axis-2 c =
    sym
    (off-y c.args.nx c.args.ny c.args.k c.args.entry c.args.p
    (sym c.on_axis.ensures ∙ c.if-not-on_axis.false)
    (sym c.on_axis-2.ensures ∙ c.if-not-on_axis-2.true))

pub returns-then-p-entry : goal.returns-then-p-entry
returns-then-p-entry c =
    sym
    (not-above c.args.nx c.args.ny c.args.k c.args.entry c.args.p
    (sym c.on_axis.ensures ∙ c.if-not-on_axis.false)
    (sym c.on_axis-2.ensures ∙ c.if-not-on_axis-2.false)
    c.if-p-entry.true)

pub returns-then-mass-gt-MOST_TOTAL_MASS : goal.returns-then-mass-gt-MOST_TOTAL_MASS
returns-then-mass-gt-MOST_TOTAL_MASS c =
    sym
    (too-heavy c.args.nx c.args.ny c.args.k c.args.entry c.args.p
    (sym c.on_axis.ensures ∙ c.if-not-on_axis.false)
    (sym c.on_axis-2.ensures ∙ c.if-not-on_axis-2.false)
    c.if-p-entry.false
    c.if-mass-gt-MOST_TOTAL_MASS.true)

pub returns : goal.returns
returns c =
    (λ i. gives (record { least = add-one c.args.p.identifier i; mass = c.args.entry.mass + c.args.p.mass }))
    ∙ sym
    (goes_on c.args.nx c.args.ny c.args.k c.args.entry c.args.p
    (sym c.on_axis.ensures ∙ c.if-not-on_axis.false)
    (sym c.on_axis-2.ensures ∙ c.if-not-on_axis-2.false)
    c.if-p-entry.false
    c.if-mass-gt-MOST_TOTAL_MASS.false)
