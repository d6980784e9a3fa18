-- The nine numbers of the k-th particle, as `add_nth` reads them. Assumes nothing.
use mathlib.Core.Path.{◌≡◌}
use mathlib.Core.List.{List}
use Prim.Native.Nat.{ℕ, ◌+◌, ◌*◌, ◌<◌, ◌^◌}
use lib.ListN.{get_or}
use lib.IntN.{ℤ, pos, nat_abs}
use Rattle.std.specs.Int.Signed.{mag}
use mir.Syntax.{w64}
use mir.Val.{to_z, of_z, hbits}
use Rattle.arith.specs.Machine.{read_result}
use Rattle.unpacked.specs.Unpacked.{per_particle}
use Rattle.scatter_core.proofs.Reading.{Read}

-- an answer z of `number_at`, which is the number at a place, and fits
pub record Answer (l : List ℤ) (place : ℕ) (z : ℤ) : Type 0 where
  pub small : mag z < 2 ^ hbits w64
  pub is : z ≡ get_or l place (pos 0)

abbrev pub held : ℤ → ℤ
held z = to_z w64 (of_z w64 z)

pub numbers-read : {l : List ℤ} {k m x y : ℕ} {vx vy bxx bxy byx byy : ℤ} → m ≡ nat_abs (get_or l (per_particle * k) (pos 0)) → x ≡ nat_abs (get_or l (per_particle * k + 1) (pos 0)) → y ≡ nat_abs (get_or l (per_particle * k + 2) (pos 0)) → Answer l (per_particle * k + 3) vx → Answer l (per_particle * k + 4) vy → Answer l (per_particle * k + 5) bxx → Answer l (per_particle * k + 6) bxy → Answer l (per_particle * k + 7) byx → Answer l (per_particle * k + 8) byy → Read l k m x y (held vx) (held vy) (held bxx) (held bxy) (held byx) (held byy)
numbers-read m x y vx vy bxx bxy byx byy =
    record {
      of-m = m;
      of-x = x;
      of-y = y;
      of-vx = read_result w64 vx.small vx.is;
      of-vy = read_result w64 vy.small vy.is;
      of-bxx = read_result w64 bxx.small bxx.is;
      of-bxy = read_result w64 bxy.small bxy.is;
      of-byx = read_result w64 byx.small byx.is;
      of-byy = read_result w64 byy.small byy.is;
    }
