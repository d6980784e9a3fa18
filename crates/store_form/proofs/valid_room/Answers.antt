-- The file's length, the file, and what is behind it. Assumes nothing.
use mathlib.Core.Path.{◌≡◌, refl, sym, ap, ap₂, ◌∙◌}
use mathlib.Core.Bool.{Bool, false, ◌&&◌}
use mathlib.Core.List.{List}
use Prim.Native.Nat.{ℕ, ◌≤◌, ◌<◌}
use borrow.Author.Tests.{le-leb, lt-leb}
use borrow.Author.Rules.{part_to_end}
use lib.Dec.{leb}
use lib.ListN.{length, take, drop}
use Rattle.std.specs.Prelude.{Result, Ok, Err}
use Rattle.std.specs.Result.{is_ok}
use Rattle.refusal.specs.declared.Refusal.{Refusal}
use Rattle.refusal.specs.Refused.{accepted, told}
use Rattle.limits.specs.declared.Caller.TheVariants.{Bench}
use Rattle.bath_file.specs.declared.Header.{Header}
use Rattle.bath_file.specs.File.{file_answer}
use Rattle.store.specs.Names.{all_zero}
use Rattle.store.specs.Form.{file_length, valid_room}
use Rattle.store_form.proofs.valid_room.Goals as goal

module _ (room : List ℕ) {end : ℕ} (e : end ≡ file_length room) where
  opened : valid_room room ≡ ((leb end (length room) && accepted (file_answer Bench (take end room))) && all_zero (drop end room))
  unfolding valid_room
  opened = ap (λ n. (leb n (length room) && accepted (file_answer Bench (take n room))) && all_zero (drop n room)) (sym e)

  too_long : length room < end → valid_room room ≡ false
  too_long h =
      opened ∙ ap (λ t. (t && accepted (file_answer Bench (take end room))) && all_zero (drop end room)) (lt-leb end (length room) h)

  -- by what is read
  by-file : end ≤ length room → (r : Result Header Refusal) {t : Bool} → told r ≡ file_answer Bench (take end room) → t ≡ is_ok r → valid_room room ≡ (t && all_zero (drop end room))
  by-file h r f e =
      opened
      ∙ ap₂ (λ t a. (t && accepted a) && all_zero (drop end room)) (le-leb end (length room) h) (sym f)
      ∙ ap (λ t. t && all_zero (drop end room)) (accepted-told r ∙ sym e)
    where
      accepted-told : (r : Result Header Refusal) → accepted (told r) ≡ is_ok r
      accepted-told (Ok h) = refl
      accepted-told (Err e) = refl

pub returns-then-room-end : goal.returns-then-room-end
returns-then-room-end c = sym (too_long c.args.room.now c.file_length-end.ensures c.if-room-end.true)

pub returns-then-is_ok : goal.returns-then-is_ok
returns-then-is_ok c =
    let room = c.args.room.now in
    c.all_zero.ensures
    ∙ ap all_zero (part_to_end room c.file_length-end.result)
    ∙ sym (by-file room c.file_length-end.ensures c.if-room-end.false c.read_file.result c.read_file.ensures c.if-is_ok.ensures.value)

pub returns-else-is_ok : goal.returns-else-is_ok
returns-else-is_ok c =
    c.if-is_ok.false
    ∙ sym (by-file c.args.room.now c.file_length-end.ensures c.if-room-end.false c.read_file.result c.read_file.ensures c.if-is_ok.ensures.value)
