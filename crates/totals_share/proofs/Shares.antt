-- One particle's share of the totals, from its numbers widened to 64 bits.
--     Widened          the widened numbers are the particle's
--     linear-fits, angular-fits, straight-fits, turning-fits, motion-fits
--                      the intermediate values of a share of small numbers are machine numbers
--     is_share         what the parts promise of the widened numbers is the share
-- Assumes nothing.
use mathlib.Core.Path.{◌≡◌, ap₂, ◌∙◌}
use Prim.Native.Nat.{◌^◌}
use lib.IntN.{ℤ, pos, ◌+ℤ◌, ◌-ℤ◌, ◌*ℤ◌}
use mir.Syntax.{w64}
use mir.Val.{to_z, of_z}
use Rattle.bits.proofs.Held.{Held, held}
use Rattle.arith.specs.Size.{Bound, sizes, fits, bounded}
use Rattle.arith.specs.Machine.{read_as}
use Rattle.particle.specs.declared.Particle.{Particle}
use Rattle.totals.specs.Share.{share}
use Rattle.totals_share.specs.Fits.{LinearFits, AngularFits, StraightFits, TurningFits, MotionFits}

-- ---- intermediate values

pub linear-fits : {m v : ℤ} → Bound m 65535 → Bound v 32768 → LinearFits m v
linear-fits m v = record { product = fits (search sizes depth 20) tt }

pub angular-fits : {m x y vx vy byx bxy : ℤ} → Bound m 65535 → Bound x 65535 → Bound y 65535 → Bound vx 32768 → Bound vy 32768 → Bound byx 32768 → Bound bxy 32768 → AngularFits m x y vx vy byx bxy
angular-fits m x y vx vy byx bxy =
    record {
      first = fits (search sizes depth 20) tt;
      second = fits (search sizes depth 20) tt;
      difference = fits (search sizes depth 20) tt;
      affine = fits (search sizes depth 20) tt;
      sum = fits (search sizes depth 20) tt;
      product = fits (search sizes depth 20) tt;
    }

pub straight-fits : {d vx vy : ℤ} → Bound d 65535 → Bound vx 32768 → Bound vy 32768 → StraightFits d vx vy
straight-fits d vx vy =
    record {
      first = fits (search sizes depth 20) tt;
      second = fits (search sizes depth 20) tt;
      sum = fits (search sizes depth 20) tt;
      product = fits (search sizes depth 20) tt;
    }

pub turning-fits : {bxx bxy byx byy : ℤ} → Bound bxx 32768 → Bound bxy 32768 → Bound byx 32768 → Bound byy 32768 → TurningFits bxx bxy byx byy
turning-fits bxx bxy byx byy =
    record {
      first = fits (search sizes depth 20) tt;
      second = fits (search sizes depth 20) tt;
      two = fits (search sizes depth 20) tt;
      third = fits (search sizes depth 20) tt;
      three = fits (search sizes depth 20) tt;
      fourth = fits (search sizes depth 20) tt;
      sum = fits (search sizes depth 20) tt;
    }

-- a number read back from its bits
abbrev back : ℤ → ℤ
back z = to_z w64 (of_z w64 z)

-- of the results of both parts, which are s and t
pub motion-fits : {m straight turning s t : ℤ} → Bound m 65535 → straight ≡ s → Bound s (2 ^ 45) → turning ≡ t → Bound t (2 ^ 45) → MotionFits m (back straight) (back turning)
motion-fits m straight-is s turning-is t =
    let straight = (held straight-is s tt).here in
    let turning = (held turning-is t tt).here in
    record { sum = fits (search sizes depth 20) tt; product = fits (search sizes depth 20) tt }

-- ---- the share

pub record Widened (p : Particle) (m x y vx vy bxx bxy byx byy : ℤ) : Type 0 where
  pub mass-held : Held m (pos p.mass) 65535
  pub x-held : Held x (pos p.x) 65535
  pub y-held : Held y (pos p.y) 65535
  pub vx-held : Held vx p.vx 32768
  pub vy-held : Held vy p.vy 32768
  pub bxx-held : Held bxx p.bxx 32768
  pub bxy-held : Held bxy p.bxy 32768
  pub byx-held : Held byx p.byx 32768
  pub byy-held : Held byy p.byy 32768

linear-is : {r m v m' v' : ℤ} → Held m m' 65535 → Held v v' 32768 → r ≡ back m *ℤ back v → back r ≡ m' *ℤ v'
linear-is hm hv e =
    let m = hm.small in
    let v = hv.small in
    read_as w64 (e ∙ ap₂ ◌*ℤ◌ hm.is hv.is) (bounded {n = 2 ^ 45} (search sizes depth 20) tt) tt

module _ {p : Particle} {m x y vx vy bxx bxy byx byy : ℤ} (wide : Widened p m x y vx vy bxx bxy byx byy) where
  -- what the parts promise
  abbrev angular : ℤ
  angular = back m *ℤ (back x *ℤ back vy -ℤ back y *ℤ back vx +ℤ back byx -ℤ back bxy)

  abbrev straight-sum : ℤ
  straight-sum = pos 1024 *ℤ (back vx *ℤ back vx +ℤ back vy *ℤ back vy)

  abbrev turning-sum : ℤ
  turning-sum = back bxx *ℤ back bxx +ℤ back bxy *ℤ back bxy +ℤ back byx *ℤ back byx +ℤ back byy *ℤ back byy

  spin-is : {spin : ℤ} → spin ≡ angular → back spin ≡ (share p).spin
  spin-is e =
      let hm = wide.mass-held.small in
      let hx = wide.x-held.small in
      let hy = wide.y-held.small in
      let hvx = wide.vx-held.small in
      let hvy = wide.vy-held.small in
      let hbxy = wide.bxy-held.small in
      let hbyx = wide.byx-held.small in
      read_as w64
      (e
      ∙ (λ i. wide.mass-held.is i *ℤ (wide.x-held.is i *ℤ wide.vy-held.is i -ℤ wide.y-held.is i *ℤ wide.vx-held.is i +ℤ wide.byx-held.is i -ℤ wide.bxy-held.is i)))
      (bounded {n = 2 ^ 50} (search sizes depth 20) tt)
      tt

  motion-is : {straight turning motion : ℤ} → straight ≡ straight-sum → turning ≡ turning-sum → motion ≡ back m *ℤ (back straight +ℤ back turning) → back motion ≡ (share p).motion
  motion-is straight-is turning-is e =
      let hm = wide.mass-held.small in
      let hvx = wide.vx-held.small in
      let hvy = wide.vy-held.small in
      let hbxx = wide.bxx-held.small in
      let hbxy = wide.bxy-held.small in
      let hbyx = wide.byx-held.small in
      let hbyy = wide.byy-held.small in
      let straight = read_as w64
      (straight-is ∙ (λ i. pos 1024 *ℤ (wide.vx-held.is i *ℤ wide.vx-held.is i +ℤ wide.vy-held.is i *ℤ wide.vy-held.is i)))
      (bounded {n = 2 ^ 45} (search sizes depth 20) tt)
      tt in
      let turning = read_as w64
      (turning-is
      ∙ (λ i. wide.bxx-held.is i *ℤ wide.bxx-held.is i +ℤ wide.bxy-held.is i *ℤ wide.bxy-held.is i +ℤ wide.byx-held.is i *ℤ wide.byx-held.is i +ℤ wide.byy-held.is i *ℤ wide.byy-held.is i))
      (bounded {n = 2 ^ 45} (search sizes depth 20) tt)
      tt in
      read_as w64 (e ∙ (λ i. wide.mass-held.is i *ℤ (straight i +ℤ turning i))) (bounded {n = 2 ^ 60} (search sizes depth 20) tt) tt

  pub is_share : {px py spin straight turning motion marks : ℤ} → px ≡ back m *ℤ back vx → py ≡ back m *ℤ back vy → spin ≡ angular → straight ≡ straight-sum → turning ≡ turning-sum → motion ≡ back m *ℤ (back straight +ℤ back turning) → Held marks (pos p.marks) 65535 → record { mass = back m; px = back px; py = back py; spin = back spin; motion = back motion; marks = back marks } ≡ share p
  is_share along-x along-y turn straight-part turning-part whole marked =
      λ i.
      record {
        mass = wide.mass-held.is i;
        px = linear-is wide.mass-held wide.vx-held along-x i;
        py = linear-is wide.mass-held wide.vy-held along-y i;
        spin = spin-is turn i;
        motion = motion-is straight-part turning-part whole i;
        marks = marked.is i;
      }
