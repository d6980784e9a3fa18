-- The place, its form, and its name in the places behind it. Assumes nothing.
use mathlib.Core.Path.{◌≡◌, sym, ap, ap₂, subst, ◌∙◌}
use mathlib.Core.Bool.{Bool, false, not, ◌&&◌, ◌||◌}
use mathlib.Core.List.{List}
use Prim.Native.Nat.{ℕ, suc, ◌+◌, ◌-◌, ◌*◌}
use lib.ListN.{take, drop}
use Rattle.store.specs.Names.{all_zero}
use Rattle.store.specs.Form.{place_length, name_in, occupied, place_at, places, first_named, is_named}
use Rattle.store.specs.Internal.{valid_at, Found}
use Rattle.store_form.proofs.Places.{place-cut, unnamed}
use Rattle.store_form.proofs.valid_at.Goals as goal

module _ (store : List ℕ) (k : ℕ) where
  abbrev behind : Bool
  behind = not (is_named (name_in (place_at store k)) (drop (suc k) (places store)))

  abbrev cut : List ℕ
  cut = take (place_length * k + place_length - place_length * k) (drop (place_length * k) store)

  zeros : {t : Bool} → t ≡ all_zero cut → all_zero (place_at store k) ≡ t
  zeros e = ap all_zero (sym (place-cut store k)) ∙ sym e

  -- by what the place is found to be
  by_form : {t : Bool} → false ≡ all_zero cut → t ≡ occupied cut → (t && behind) ≡ valid_at store k
  by_form z o =
      sym (ap₂ (λ free o. free || o && behind) (zeros z) (ap occupied (sym (place-cut store k)) ∙ sym o))

pub returns-then-all_zero : goal.returns-then-all_zero
returns-then-all_zero c =
    let store = c.args.store.now in
    let k = c.args.k in
    c.if-all_zero.true ∙ ap (λ t. t || occupied (place_at store k) && behind store k) (sym (zeros store k c.if-all_zero.ensures))

pub returns-then-occupied : goal.returns-then-occupied
returns-then-occupied c =
    let store = c.args.store.now in
    let k = c.args.k in
    let found = subst (λ p. Found (k + 1 + first_named (name_in p) (drop (k + 1) (places store))) c.find.result) (place-cut store k) c.find.ensures in
    unnamed store k (name_in (place_at store k)) c.find.result c.requires.1 found c.is_none.ensures ∙ by_form store k c.if-all_zero.ensures c.if-occupied.ensures

pub returns-else-occupied : goal.returns-else-occupied
returns-else-occupied c = c.if-occupied.false ∙ by_form c.args.store.now c.args.k c.if-all_zero.ensures c.if-occupied.ensures
