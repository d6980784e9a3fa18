-- The array holds the name with zeros after it. Assumes nothing.
use Rattle.store_place.proofs.Places.{name-place}
use Rattle.store_place.proofs.place_of.Goals as goal

pub returns : goal.returns
returns c = name-place c.args.store.now c.args.name.now c.find.result c.fill.ensures c.find.ensures
