-- Every report fits the buffer: 36 bytes for a refused file's line, 62 and 155 for the first two lines of a run's, and the
-- line's length for each record. Assumes nothing.
use Prim.Native.Nat.{ℕ, zero, suc, ◌+◌, ◌*◌, ◌^◌, ◌≤◌, ◌<◌}
use native.Mathlib.Omega.{arith}
use mathlib.Core.Path.{◌≡◌, refl, ap}
use mathlib.Core.Bool.{true}
use mathlib.Core.List.{List, [], ◌∷◌, ◌++◌, map}
use lib.Dec.{lit≤}
use lib.IntN.{ℤ, pos, negsuc, nat_abs}
use lib.Signed.{mag, nat_abs-le}
use lib.ListN.{length, length-append}
use Rattle.arith.specs.Sums.{from, up_to}
use Rattle.particle.specs.Layout.{identifier, mass, x, y, vx, vy, Bxx, Bxy, Byx, Byy, marks}
use Rattle.particle.specs.Record.{particle_of, numbers}
use Rattle.particle.proofs.RoundTrip.{fields-hold}
use Rattle.totals.specs.declared.Totals.{Totals}
use Rattle.totals.proofs.Fields.{Typed}
use Rattle.particles.specs.Set.{record_at, record_count, valid_length, particles_in}
use Rattle.particles.proofs.Checks.{length-limits}
use Rattle.text.specs.Decimal.{bytes_of, decimal, signed}
use Rattle.report.specs.Lines.{line, refused_line, done_line, totals_line, particle_line, particle_lines}
use Rattle.report.specs.Internal.{lines_up_to}
use Rattle.report.specs.Report.{run_text, line_length, report_length}
use Rattle.text.proofs.Digits.{decimal-length}
use Rattle.report.proofs.Texts.{particle-numbers}

-- ---- a line, by bounds on its words

abbrev Within : List (List ℕ) → List ℕ → Type 0
Within [] [] = Unit {0}
Within [] (b ∷ bs) = ⊥
Within (w ∷ ws) [] = ⊥
Within (w ∷ ws) (b ∷ bs) = (length w ≤ b) × Within ws bs

-- each word, and the byte behind it
abbrev most : List ℕ → ℕ
most [] = 1
most (b ∷ []) = b + 1
most (b ∷ c ∷ bs) = b + 1 + most (c ∷ bs)

line-length : (ws : List (List ℕ)) (bs : List ℕ) → Within ws bs → length (line ws) ≤ most bs
line-length [] [] h = omega arith
line-length [] (b ∷ bs) h = absurd h
line-length (w ∷ ws) [] h = absurd h
line-length (w ∷ []) (b ∷ []) h = omega (arith, length-append w (10 ∷ []), h.0)
line-length (w ∷ []) (b ∷ c ∷ bs) h = absurd h.1
line-length (w ∷ v ∷ ws) (b ∷ []) h = absurd h.1
line-length (w ∷ v ∷ ws) (b ∷ c ∷ bs) h = omega (arith, length-append w (32 ∷ line (v ∷ ws)), h.0, line-length (v ∷ ws) (c ∷ bs) h.1)

signed-length : (k : ℕ) (z : ℤ) → nat_abs z < 10 ^ suc k → length (signed z) ≤ suc (suc k)
unfolding signed
signed-length k (pos n) h = omega (arith, decimal-length k n h)
signed-length k (negsuc n) h = omega (arith, decimal-length k (suc n) h)

-- ---- the first lines

pub refused-length : (n k : ℕ) → n < 256 → k < 2 ^ 64 → length (refused_line n k) ≤ 36
unfolding refused_line
refused-length n k h g =
    line-length (bytes_of "refused" ∷ decimal n ∷ bytes_of "at" ∷ decimal k ∷ []) (7 ∷ 3 ∷ 2 ∷ 20 ∷ [])
    (lit≤ tt, (decimal-length 2 n (omega arith), (lit≤ tt, (decimal-length 19 k (omega arith), tt))))

done-length : (c n k : ℕ) → c < 2 ^ 64 → n < 256 → k < 2 ^ 64 → length (done_line c n k) ≤ 62
unfolding done_line
done-length c n k f h g =
    line-length (bytes_of "done" ∷ decimal c ∷ bytes_of "refusal" ∷ decimal n ∷ bytes_of "at" ∷ decimal k ∷ []) (4 ∷ 20 ∷ 7 ∷ 3 ∷ 2 ∷ 20 ∷ [])
    (lit≤ tt, (decimal-length 19 c (omega arith), (lit≤ tt, (decimal-length 2 n (omega arith), (lit≤ tt, (decimal-length 19 k (omega arith), tt))))))

wide : (z : ℤ) → mag z < 2 ^ 63 → length (signed z) ≤ 20
wide z h = signed-length 18 z (omega (arith, nat_abs-le z h))

totals-length : (t : Totals) → Typed t → length (totals_line t) ≤ 155
unfolding totals_line
totals-length t f =
    line-length
    (bytes_of "mass" ∷ signed t.mass ∷ bytes_of "px" ∷ signed t.px ∷ bytes_of "py" ∷ signed t.py ∷ bytes_of "spin" ∷ signed t.spin ∷ bytes_of "motion" ∷ signed t.motion ∷ bytes_of "marks" ∷ signed t.marks ∷ [])
    (4 ∷ 20 ∷ 2 ∷ 20 ∷ 2 ∷ 20 ∷ 4 ∷ 20 ∷ 6 ∷ 20 ∷ 5 ∷ 20 ∷ [])
    (lit≤ tt, (wide t.mass f.mass, (lit≤ tt, (wide t.px f.px, (lit≤ tt, (wide t.py f.py, (lit≤ tt, (wide t.spin f.spin, (lit≤ tt, (wide t.motion f.motion, (lit≤ tt, (wide t.marks f.marks, tt))))))))))))

-- ---- records

velocity : (z : ℤ) → mag z < 64 → length (signed z) ≤ 3
velocity z h = signed-length 1 z (omega (arith, nat_abs-le z h))

affine : (z : ℤ) → mag z < 2048 → length (signed z) ≤ 5
affine z h = signed-length 3 z (omega (arith, nat_abs-le z h))

particle-length : (bytes : List ℕ) → length (particle_line (particle_of bytes)) ≤ line_length
unfolding particle_of signed
particle-length bytes =
    let p = particle_of bytes in
    let d = fields-hold bytes in
    rw (particle-numbers p)
    (line-length (map signed (numbers p))
    (5 ∷ 4 ∷ 4 ∷ 4 ∷ 3 ∷ 3 ∷ 5 ∷ 5 ∷ 5 ∷ 5 ∷ 3 ∷ []) (
      decimal-length 4 p.identifier (omega (arith, d identifier)),
      (
        decimal-length 3 p.mass (omega (arith, d mass)),
        (
          decimal-length 3 p.x (omega (arith, d x)),
          (
            decimal-length 3 p.y (omega (arith, d y)),
            (
              velocity p.vx (d vx),
              (
                velocity p.vy (d vy),
                (
                  affine p.bxx (d Bxx),
                  (
                    affine p.bxy (d Bxy),
                    (
                      affine p.byx (d Byx),
                      (
                        affine p.byy (d Byy),
                        (
                          decimal-length 2 p.marks (omega (arith, d marks)),
                          tt,
                        ),
                      ),
                    ),
                  ),
                ),
              ),
            ),
          ),
        ),
      ),
    ))

from-length : (i n : ℕ) → length (from i n) ≡ n
from-length i zero = refl
from-length i (suc n) = ap suc (from-length (suc i) n)

lines-length : (records ks : List ℕ) → length (particle_lines (map (λ k. particle_of (record_at 0 records k)) ks)) ≤ line_length * length ks
unfolding particle_lines
lines-length records [] = omega arith
lines-length records (k ∷ ks) =
    let p = particle_of (record_at 0 records k) in
    omega (arith, length-append (particle_line p) (particle_lines (map (λ k. particle_of (record_at 0 records k)) ks)), particle-length (record_at 0 records k), lines-length records ks)

-- ---- the report

pub run_length : (c n k : ℕ) (t : Totals) (records : List ℕ) → c < 2 ^ 64 → n < 256 → k < 2 ^ 64 → Typed t → valid_length (length records) ≡ true → length (run_text c n k t records) ≤ report_length
unfolding run_text particles_in
run_length c n k t records f g h fit valid =
    let first = done_line c n k in
    let second = totals_line t in
    let third = lines_up_to records (record_count records) in
    omega (
      arith,
      length-append first (second ++ third),
      length-append second third,
      done-length c n k f g h,
      totals-length t fit,
      lines-length records (up_to (record_count records)),
      from-length 0 (record_count records),
      (length-limits (length records) valid).count,
    )
