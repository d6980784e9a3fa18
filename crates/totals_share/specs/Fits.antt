-- That each intermediate value of a share, and each sum of two totals, is a machine number. Assumes nothing.
use Rattle.std.specs.Int.{w64}
use Rattle.std.proofs.Common.{SFits}
use Rattle.std.specs.Prelude.{ℤ, ◌+ℤ◌, ◌-ℤ◌, ◌*ℤ◌}
use Rattle.totals.specs.declared.Totals.{Totals}

pub record LinearFits (m v : ℤ) : Type 0 where
  pub product : SFits w64 (m *ℤ v)

pub record AngularFits (m x y vx vy byx bxy : ℤ) : Type 0 where
  pub first : SFits w64 (x *ℤ vy)
  pub second : SFits w64 (y *ℤ vx)
  pub difference : SFits w64 (x *ℤ vy -ℤ y *ℤ vx)
  pub affine : SFits w64 (x *ℤ vy -ℤ y *ℤ vx +ℤ byx)
  pub sum : SFits w64 (x *ℤ vy -ℤ y *ℤ vx +ℤ byx -ℤ bxy)
  pub product : SFits w64 (m *ℤ (x *ℤ vy -ℤ y *ℤ vx +ℤ byx -ℤ bxy))

pub record StraightFits (d vx vy : ℤ) : Type 0 where
  pub first : SFits w64 (vx *ℤ vx)
  pub second : SFits w64 (vy *ℤ vy)
  pub sum : SFits w64 (vx *ℤ vx +ℤ vy *ℤ vy)
  pub product : SFits w64 (d *ℤ (vx *ℤ vx +ℤ vy *ℤ vy))

pub record TurningFits (bxx bxy byx byy : ℤ) : Type 0 where
  pub first : SFits w64 (bxx *ℤ bxx)
  pub second : SFits w64 (bxy *ℤ bxy)
  pub two : SFits w64 (bxx *ℤ bxx +ℤ bxy *ℤ bxy)
  pub third : SFits w64 (byx *ℤ byx)
  pub three : SFits w64 (bxx *ℤ bxx +ℤ bxy *ℤ bxy +ℤ byx *ℤ byx)
  pub fourth : SFits w64 (byy *ℤ byy)
  pub sum : SFits w64 (bxx *ℤ bxx +ℤ bxy *ℤ bxy +ℤ byx *ℤ byx +ℤ byy *ℤ byy)

pub record MotionFits (m straight turning : ℤ) : Type 0 where
  pub sum : SFits w64 (straight +ℤ turning)
  pub product : SFits w64 (m *ℤ (straight +ℤ turning))

pub record SumFits (s t : Totals) : Type 0 where
  pub mass : SFits w64 (s.mass +ℤ t.mass)
  pub px : SFits w64 (s.px +ℤ t.px)
  pub py : SFits w64 (s.py +ℤ t.py)
  pub spin : SFits w64 (s.spin +ℤ t.spin)
  pub motion : SFits w64 (s.motion +ℤ t.motion)
  pub marks : SFits w64 (s.marks +ℤ t.marks)
