-- The place that has the name, or else a free one. Assumes nothing.
use Rattle.store_place.proofs.Places.{held_place, free-place}
use Rattle.store_place.proofs.place_for.Goals as goal

pub returns-in-Some : goal.returns-in-Some
returns-in-Some c = held_place c.args.store.now c.args.name.now c.in-Some.ensures

pub returns-in-None : goal.returns-in-None
returns-in-None c = free-place c.args.store.now c.args.name.now c.place_of-in-None.result c.in-None.ensures c.place_of-in-None.ensures
