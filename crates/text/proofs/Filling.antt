-- A form with numbers in its gaps, byte by byte.
--     number-piece, byte-piece, last-piece   what a byte becomes: a number where it is a gap and one is left, and else itself
--     Filling, filling-..         the loop that puts such a form, turn by turn
-- Assumes nothing.
use Prim.Native.Nat.{ℕ, ◌+◌, ◌≤◌, ◌<◌}
use native.Mathlib.Numerals.{add-one}
use native.Mathlib.Omega.{arith}
use mathlib.Core.Path.{◌≡◌, refl, sym, ap, ap₂, ◌∙◌}
use mathlib.Core.Bool.{cond}
use mathlib.Core.List.{List, [], ◌∷◌, ◌++◌, map, append_assoc, append-nil}
use borrow.Author.Tests.{eq-eqb, ne_eqb}
use lib.ListN.{length, get_or, drop, drop_of_length-le}
use lib.Seq.{drop-cons}
use Rattle.text.specs.declared.Text.{Text}
use Rattle.text.specs.Internal.{Room, Put, gap, piece_of, left_by, filled_in}
use Rattle.text.proofs.Puts.{put-none, put_then, room-first, room-second, room_as, put_as}

-- ---- a byte, and the numbers that are left behind it

abbrev pub Turn : ℕ → List (List ℕ) → List ℕ → List (List ℕ) → Type 0
Turn b ns piece left = (piece ≡ piece_of b ns) × (left ≡ left_by b ns)

pub number-piece : {A : Type 0} (f : A → List ℕ) {xs ys : List A} {x : A} (b : ℕ) → b ≡ gap → xs ≡ x ∷ ys → Turn b (map f xs) (f x) (map f ys)
number-piece f {ys = ys} {x} b e q =
    let n = f x in
    let ns = map f ys in
    let t = eq-eqb b gap e in
    rw q (sym (ap (λ t. cond t n (b ∷ [])) t), sym (ap (λ t. cond t ns (n ∷ ns)) t))

pub byte-piece : (b : ℕ) (ns : List (List ℕ)) → (b ≡ gap → ⊥) → Turn b ns (b ∷ []) ns
byte-piece b [] h = (refl, refl)
byte-piece b (n ∷ ns) h =
    let t = ne_eqb b gap h in (
      sym (ap (λ t. cond t n (b ∷ [])) t),
      sym (ap (λ t. cond t ns (n ∷ ns)) t),
    )

pub last-piece : {A : Type 0} (f : A → List ℕ) (b : ℕ) (xs : List A) → length xs ≡ 0 → Turn b (map f xs) (b ∷ []) (map f xs)
last-piece f b [] e = (refl, refl)
last-piece f b (x ∷ xs) e = absurd (omega arith)

-- ---- the loop

-- the first i bytes of the form are put, and these numbers are left for the others
pub record Filling (form : List ℕ) (numbers : List (List ℕ)) (t t' : Text) (i : ℕ) (left : List (List ℕ)) : Type 0 where
  pub within : i ≤ length form
  pub done : List ℕ
  pub put : Put t done t'
  pub whole : filled_in form numbers ≡ done ++ filled_in (drop i form) left

module _ (form : List ℕ) (numbers : List (List ℕ)) {t : Text} (room : Room t (filled_in form numbers)) where
  pub filling-none : Filling form numbers t t 0 numbers
  filling-none = record { within = omega arith; done = []; put = put-none (omega (arith, room.room)); whole = refl }

  module _ {t' : Text} {i : ℕ} {left : List (List ℕ)} (f : Filling form numbers t t' i left) (h : i < length form) where
    abbrev byte : ℕ
    byte = get_or form i 0

    abbrev rest : List (List ℕ) → List ℕ
    rest ns = filled_in (drop (i + 1) form) ns

    opened : {piece : List ℕ} {ns : List (List ℕ)} → Turn byte left piece ns → filled_in form numbers ≡ f.done ++ (piece ++ rest ns)
    unfolding filled_in
    opened e =
        f.whole
        ∙ ap (λ l. f.done ++ filled_in l left) (drop-cons form i 0 h ∙ ap (λ n. byte ∷ drop n form) (sym (add-one i)))
        ∙ ap₂ (λ l ns. f.done ++ (l ++ rest ns)) (sym e.0) (sym e.1)

    pub piece-room : {piece : List ℕ} {ns : List (List ℕ)} → Turn byte left piece ns → Room t' piece
    piece-room {piece} {ns} e = room-first piece (rest ns) (room-second f.done (piece ++ rest ns) (room_as (opened e) room) f.put)

    pub filling-more : {piece : List ℕ} {ns : List (List ℕ)} {t'' : Text} → Turn byte left piece ns → Put t' piece t'' → Filling form numbers t t'' (i + 1) ns
    filling-more {piece} {ns} e q =
        record {
          within = omega arith;
          done = f.done ++ piece;
          put = put_then f.put q;
          whole = opened e ∙ sym (append_assoc f.done piece (rest ns));
        }

  pub filling-all : {t' : Text} {i : ℕ} {left : List (List ℕ)} → Filling form numbers t t' i left → length form ≤ i → Put t (filled_in form numbers) t'
  unfolding filled_in
  filling-all {i = i} {left} f h =
      put_as (sym (f.whole ∙ ap (λ l. f.done ++ filled_in l left) (drop_of_length-le form h) ∙ append-nil f.done)) f.put
