-- What the operations' needs have in common: the place of a refusal is below 2^32.
--     Placed          it is so of an answer's
--     place_of        so it is for the refusal that an operation told
--     placed          and for a result, whatever it is
--     coded-told      an answer's number is that of what is told of it
-- Assumes nothing.
use mathlib.Core.Path.{◌≡◌, refl, sym, subst}
use Prim.Native.Nat.{ℕ, ◌<◌}
use Rattle.std.specs.Prelude.{Result, Ok, Err, IfErr}
use Rattle.refusal.specs.declared.Refusal.{Refusal}
use Rattle.refusal.specs.Refused.{Answer, gives, refused, refused_by, place, told, told_of}
use Rattle.coding.specs.Coded.{coded}

pub data Placed {A : Type 0} : Answer A → Type 0 where
  accepts : {a : A} → Placed (gives a)
  refuses : {n k : ℕ} → k < 4294967296 → Placed (refused n k)

below : {A : Type 0} {n k : ℕ} → Placed {A = A} (refused n k) → k < 4294967296
below (refuses h) = h

pub place_of : {A : Type 0} (e : Refusal) {a : Answer A} → refused_by e ≡ a → Placed a → place e < 4294967296
place_of e is h = below (subst Placed (sym is) h)

pub placed : {A : Type 0} (r : Result A Refusal) {a : Answer A} → told r ≡ a → Placed a → IfErr r (λ e. place e < 4294967296)
placed (Ok x) is h = tt
placed (Err e) is h = place_of e is h

-- the number of what is told of an answer without its value
pub coded-told : {A : Type 0} (a : Answer A) → coded (told_of a) ≡ coded a
coded-told (gives x) = refl
coded-told (refused n k) = refl
