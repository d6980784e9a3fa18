-- `next_particle` meets its contract: the answer of `check_particle`, with the totals. Assumes nothing.
use Rattle.std.proofs.Common.{◌≡◌, sym, ap, ◌∙◌, subst, ◌+◌}
use Rattle.totals.specs.declared.Totals.{Totals}
use Rattle.totals.specs.Share.{share, plus}
use Rattle.particle.specs.declared.Particle.{Particle}
use Rattle.particles.proofs.Turns.{light-passed}
use Rattle.totals_set.specs.Walk.{SmallSums}
use Rattle.totals_set.proofs.CheckedParticle.{particle-passes, share-small, small-fits, small-plus}
use Rattle.totals_set.proofs.next_particle.Goals as goal

pub plus_of-requires : goal.plus_of-requires
plus_of-requires c =
    small-fits c.args.k c.requires.3 c.requires.4.sums
    (subst (SmallSums 1) (sym c.share_of.ensures) (share-small c.args.p c.requires.0 c.requires.1))

-- the totals after the particle
totals-are : (s : Totals) (p : Particle) {t r : Totals} → t ≡ share p → r ≡ plus s t → r ≡ plus s (share p)
totals-are s p e f = f ∙ ap (plus s) e

pub returns : goal.returns
returns c =
    let are = totals-are c.args.progress.totals c.args.p c.share_of.ensures c.plus_of.ensures in (
      particle-passes c.args.nx c.args.ny c.args.k c.args.progress c.args.p c.in_ok-next.ensures are,
      record {
        light = light-passed c.args.nx c.args.ny c.args.k c.args.progress.entry c.args.p (sym c.in_ok-next.ensures);
        sums = subst (SmallSums (c.args.k + 1)) (sym are) (small-plus c.args.k 1 c.requires.4.sums (share-small c.args.p c.requires.0 c.requires.1));
      },
    )
