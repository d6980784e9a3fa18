-- One particle more: the walk's answer by the check's, and totals that stay small on the way.
--     particle-passes                   the answer of the set's checks, with the totals
--     share-small                       a share of a particle within its limits is small
--     small-plus, small-fits            sums of small totals are small, and fit
-- Assumes nothing.
use mathlib.Core.Path.{◌≡◌, refl, sym, ap, ◌∙◌}
use Prim.Native.Nat.{ℕ, ◌+◌, ◌*◌, ◌≤◌, ◌<◌}
use native.Mathlib.Omega.{arith}
use lib.IntN.{ℤ, pos, nat_abs, ◌+ℤ◌}
use mir.Syntax.{w64}
use mir.Val.{SFits}
use Rattle.refusal.specs.Refused.{Answer, gives, refused, and_then}
use Rattle.refusal.proofs.Answers.{same-result, not-result}
use Rattle.limits.specs.Limits.{most_records, most_mass, most_position, most_velocity, most_affine}
use Rattle.arith.specs.Size.{Bound, sizes, bounded, bound-pos, bound-fits, nat_abs-sum}
use Rattle.particle.specs.declared.Particle.{Particle}
use Rattle.particle.specs.Record.{Valid}
use Rattle.particles.specs.declared.Entry.{Entry}
use Rattle.particles.specs.Set.{checked_particle}
use Rattle.particles.specs.Walk.{followed, check_particle}
use Rattle.particles.proofs.Checks.{checked-facts}
use Rattle.totals.specs.declared.Totals.{Totals}
use Rattle.totals_set.specs.declared.Progress.{Progress}
use Rattle.totals.specs.Share.{share, plus}
use Rattle.totals_share.specs.Fits.{SumFits}
use Rattle.totals_set.specs.Walk.{most_share, SmallSums, advanced, next_answer}

module _ (nx ny k : ℕ) (s : Progress) (p : Particle) where
  pub particle-passes : {e : Entry} {t : Totals} → gives e ≡ check_particle nx ny k s.entry p → t ≡ plus s.totals (share p) → gives (record { entry = e; totals = t }) ≡ next_answer nx ny k s p
  particle-passes {e} {t} answer sums = go (checked_particle nx ny k s.entry.least s.entry.mass p) refl (sym answer)
    where
      go : (a : Answer Particle) → checked_particle nx ny k s.entry.least s.entry.mass p ≡ a → and_then a (λ q. gives (followed s.entry q)) ≡ gives e → gives (record { entry = e; totals = t }) ≡ and_then a (λ q. gives (advanced s q))
      go (gives q) h g =
          let same = (checked-facts nx ny k s.entry.least s.entry.mass p h).0 in
          let all : t ≡ plus s.totals (share q) = sums ∙ ap (λ x. plus s.totals (share x)) same in
          λ i. gives (record { entry = sym (same-result g) i; totals = all i })
      go (refused n j) h g = not-result g

-- ---- small totals

pub share-small : (p : Particle) → Valid p → p.marks < 256 → SmallSums 1 (share p)
share-small p v h =
    let m : Bound (pos p.mass) most_mass = bound-pos v.mass-to in
    let x : Bound (pos p.x) most_position = bound-pos v.x-to in
    let y : Bound (pos p.y) most_position = bound-pos v.y-to in
    let vx : Bound p.vx most_velocity = record { size = v.vx-to } in
    let vy : Bound p.vy most_velocity = record { size = v.vy-to } in
    let bxx : Bound p.bxx most_affine = record { size = v.bxx-to } in
    let bxy : Bound p.bxy most_affine = record { size = v.bxy-to } in
    let byx : Bound p.byx most_affine = record { size = v.byx-to } in
    let byy : Bound p.byy most_affine = record { size = v.byy-to } in
    let marks : Bound (pos p.marks) 255 = bound-pos (omega arith) in
    record {
      mass = (bounded {z = (share p).mass} {n = 1 * most_share} (search sizes depth 20) tt).size;
      px = (bounded {z = (share p).px} {n = 1 * most_share} (search sizes depth 20) tt).size;
      py = (bounded {z = (share p).py} {n = 1 * most_share} (search sizes depth 20) tt).size;
      spin = (bounded {z = (share p).spin} {n = 1 * most_share} (search sizes depth 20) tt).size;
      motion = (bounded {z = (share p).motion} {n = 1 * most_share} (search sizes depth 20) tt).size;
      marks = (bounded {z = (share p).marks} {n = 1 * most_share} (search sizes depth 20) tt).size;
    }

sum-small : (a b : ℤ) (m n : ℕ) → nat_abs a ≤ m * most_share → nat_abs b ≤ n * most_share → nat_abs (a +ℤ b) ≤ (m + n) * most_share
sum-small a b m n ha hb = omega (arith, nat_abs-sum a b)

pub small-plus : (m n : ℕ) {s t : Totals} → SmallSums m s → SmallSums n t → SmallSums (m + n) (plus s t)
small-plus m n {s} {t} hs ht =
    record {
      mass = sum-small s.mass t.mass m n hs.mass ht.mass;
      px = sum-small s.px t.px m n hs.px ht.px;
      py = sum-small s.py t.py m n hs.py ht.py;
      spin = sum-small s.spin t.spin m n hs.spin ht.spin;
      motion = sum-small s.motion t.motion m n hs.motion ht.motion;
      marks = sum-small s.marks t.marks m n hs.marks ht.marks;
    }

fits-small : (z : ℤ) (n : ℕ) → n ≤ most_records → nat_abs z ≤ n * most_share → SFits w64 z
fits-small z n h b = bound-fits {n = n * most_share} (record { size = b }) (omega arith)

pub small-fits : (n : ℕ) {s t : Totals} → n < most_records → SmallSums n s → SmallSums 1 t → SumFits s t
small-fits n {s} {t} h hs ht =
    let both : SmallSums (n + 1) (plus s t) = small-plus n 1 hs ht in
    record {
      mass = fits-small (s.mass +ℤ t.mass) (n + 1) (omega arith) both.mass;
      px = fits-small (s.px +ℤ t.px) (n + 1) (omega arith) both.px;
      py = fits-small (s.py +ℤ t.py) (n + 1) (omega arith) both.py;
      spin = fits-small (s.spin +ℤ t.spin) (n + 1) (omega arith) both.spin;
      motion = fits-small (s.motion +ℤ t.motion) (n + 1) (omega arith) both.motion;
      marks = fits-small (s.marks +ℤ t.marks) (n + 1) (omega arith) both.marks;
    }
