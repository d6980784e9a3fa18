-- `next_record` meets its contract: the reader's answer, taken apart; a particle that it read is within its limits. Assumes nothing.
use Rattle.std.proofs.Common.{sym}
use Rattle.particle.proofs.RoundTrip.{read_held}
use Rattle.totals_set.specs.Walk.{next_answer}
use Rattle.particles.proofs.Turns.{found}
use Rattle.totals_set.proofs.next_record.Goals as goal

pub next_particle-requires : goal.next_particle-requires
next_particle-requires c =
    let held = read_held c.args.k _ _ (sym c.in_ok-p.ensures) in
    (held.valid, held.marks-below, c.requires.0, c.requires.1, c.requires.2)

pub returns : goal.returns
returns c = (
  found c.args.start c.args.k c.args.bytes.now
      (λ q. next_answer c.args.nx c.args.ny c.args.k c.args.progress q)
      c.read_indexed.result c.read_indexed.ensures c.in_ok-p.was c.next_particle.ensures.0,
  c.next_particle.ensures.1,
)
