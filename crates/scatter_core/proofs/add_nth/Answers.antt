-- `scatter_core::add_nth` meets its contract: nine numbers are read, and their particle is added. Assumes nothing.
use Rattle.std.proofs.Common.{◌∙◌}
use Rattle.unpacked.proofs.Laws.{some_at, mass-at, x-at, y-at}
use Rattle.scatter_core.proofs.Numbers.{numbers-read}
use Rattle.scatter_core.proofs.Reading.{nth-asked, nth-added}
use Rattle.scatter_core.proofs.add_nth.Goals as goal

pub natural_at-requires : goal.natural_at-requires
natural_at-requires c = mass-at (some_at c.requires.set c.args.k c.requires.below).holds

pub natural_at-requires-2 : goal.natural_at-requires-2
natural_at-requires-2 c = x-at (some_at c.requires.set c.args.k c.requires.below).holds

pub natural_at-requires-3 : goal.natural_at-requires-3
natural_at-requires-3 c = y-at (some_at c.requires.set c.args.k c.requires.below).holds

pub add_particle-requires : goal.add_particle-requires
add_particle-requires c =
    nth-asked
    (numbers-read (c.from-m.ensures ∙ c.natural_at.ensures) (c.from-x.ensures ∙ c.natural_at-2.ensures) (c.from-y.ensures ∙ c.natural_at-3.ensures)
    (record { small = c.number_at-vx.type_inv; is = c.number_at-vx.ensures })
    (record { small = c.number_at-vy.type_inv; is = c.number_at-vy.ensures })
    (record { small = c.number_at-bxx.type_inv; is = c.number_at-bxx.ensures })
    (record { small = c.number_at-bxy.type_inv; is = c.number_at-bxy.ensures })
    (record { small = c.number_at-byx.type_inv; is = c.number_at-byx.ensures })
    (record { small = c.number_at-byy.type_inv; is = c.number_at-byy.ensures }))
    (some_at c.requires.set c.args.k c.requires.below).holds c.requires

pub returns : goal.returns
returns c p h =
    nth-added
    (numbers-read (c.from-m.ensures ∙ c.natural_at.ensures) (c.from-x.ensures ∙ c.natural_at-2.ensures) (c.from-y.ensures ∙ c.natural_at-3.ensures)
    (record { small = c.number_at-vx.type_inv; is = c.number_at-vx.ensures })
    (record { small = c.number_at-vy.type_inv; is = c.number_at-vy.ensures })
    (record { small = c.number_at-bxx.type_inv; is = c.number_at-bxx.ensures })
    (record { small = c.number_at-bxy.type_inv; is = c.number_at-bxy.ensures })
    (record { small = c.number_at-byx.type_inv; is = c.number_at-byx.ensures })
    (record { small = c.number_at-byy.type_inv; is = c.number_at-byy.ensures }))
    h c.add_particle.ensures
