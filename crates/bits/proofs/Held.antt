-- The result r of a call on small numbers: read back, it is the integer v, within k. Assumes nothing.
use mathlib.Core.Path.{◌≡◌, sym, ◌∙◌}
use Prim.Native.Nat.{ℕ, ◌<◌, ◌^◌}
use native.Mathlib.Omega.{arith}
use lib.Dec.{T, ltb}
use lib.IntN.{ℤ, pos}
use lib.Signed.{mag}
use mir.Syntax.{w16, w64}
use mir.Val.{SFits, to_z, of_z, hbits}
use mir.Facts.{to_z-of_z}
use Rattle.arith.specs.Size.{Bound, bound-pos, bound-machine, bound-equal}
use Rattle.arith.specs.Machine.{read_as}

pub record Held (r v : ℤ) (k : ℕ) : Type 0 where
  pub is : to_z w64 (of_z w64 r) ≡ v
  pub small : Bound v k
  pub here : Bound (to_z w64 (of_z w64 r)) k

pub held : {r v : ℤ} {k : ℕ} → r ≡ v → Bound v k → T (ltb k (2 ^ hbits w64)) → Held r v k
held e b t =
    let back = read_as w64 e b t in
    record { is = back; small = b; here = bound-equal (sym back) b }

-- the numbers of a record, widened
pub held-unsigned : {r : ℤ} (n : ℕ) → r ≡ pos n → n < 65536 → Held r (pos n) 65535
held-unsigned n e h = held e (bound-pos (omega arith)) tt

pub held-signed : {r : ℤ} (v : ℤ) → r ≡ to_z w16 (of_z w16 v) → mag v < 2 ^ hbits w16 → Held r v 32768
held-signed v e h =
    let fits : SFits w16 v = record { sfits = h } in
    held (e ∙ to_z-of_z fits) (bound-machine fits) tt
