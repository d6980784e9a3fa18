-- The part that is lent is the place. Assumes nothing.
use Rattle.store.proofs.Stores.{free-long}
use Rattle.store_place.proofs.Places.{placed-there, place-cleared}
use Rattle.store_place.proofs.free.Goals as goal

pub returns : goal.returns
returns c =
    let store = c.args.store.now in
    let k = c.args.k in
    placed-there store k (place-cleared store k c.requires.0 c.requires.1 c.clear.ensures) free-long
