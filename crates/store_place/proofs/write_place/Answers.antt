-- The name, and the file behind it, each with zeros after it. Assumes nothing.
use Rattle.store_place.proofs.Places.{place-written}
use Rattle.store_place.proofs.write_place.Goals as goal

pub returns : goal.returns
returns c =
    let a = c.args in
    place-written a.place.now a.name.now a.file.now c.requires.0 c.requires.1.0 c.requires.1.1 c.fill.ensures c.fill-2.ensures
