-- No place from `from` up to k has the name.
use mathlib.Core.Path.{◌≡◌}
use Prim.Native.Nat.{◌+◌}
use lib.ListN.{drop}
use Rattle.store.specs.Form.{places, first_named}
use Rattle.store_form.proofs.find.Given as goal

abbrev pub invariant-loop-k : goal.invariant-loop-k
invariant-loop-k l = l.from + first_named l.held (drop l.from (places l.store)) ≡ l.k + first_named l.held (drop l.k (places l.store))
