-- The places from k on decide.
use mathlib.Core.Path.{◌≡◌}
use lib.ListN.{drop}
use Rattle.store.specs.Form.{places, valid_places, valid_store}
use Rattle.store_form.proofs.valid_store.Given as goal

abbrev pub invariant-loop-k : goal.invariant-loop-k
invariant-loop-k l = valid_store l.store ≡ valid_places (drop l.k (places l.store))
