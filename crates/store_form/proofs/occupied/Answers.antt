-- The name, and then the room. Assumes nothing.
use mathlib.Core.Path.{◌≡◌, ap, ◌∙◌}
use mathlib.Core.Bool.{Bool, ◌&&◌}
use mathlib.Core.List.{List}
use Prim.Native.Nat.{ℕ}
use borrow.Author.Rules.{part_to_end}
use lib.ListN.{take, drop}
use Rattle.store.specs.Names.{name_length, valid_held_name}
use Rattle.store.specs.Form.{valid_room, occupied}
use Rattle.store_form.proofs.occupied.Goals as goal

-- by what the name is found to be
by_name : (place : List ℕ) {t : Bool} → t ≡ valid_held_name (take name_length place) → (t && valid_room (drop name_length place)) ≡ occupied place
unfolding occupied
by_name place e = ap (λ t. t && valid_room (drop name_length place)) e

pub returns-then-valid_held_name : goal.returns-then-valid_held_name
returns-then-valid_held_name c =
    let place = c.args.place.now in
    c.valid_room.ensures
    ∙ ap valid_room (part_to_end place name_length)
    ∙ by_name place c.if-valid_held_name.ensures

pub returns-else-valid_held_name : goal.returns-else-valid_held_name
returns-else-valid_held_name c = c.if-valid_held_name.false ∙ by_name c.args.place.now c.if-valid_held_name.ensures
