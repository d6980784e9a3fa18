-- Document 01's worked output, "The program", and the line of a refused file. Assumes nothing.
use mathlib.Core.Path.{◌≡◌, refl}
use mathlib.Core.List.{List}
use Prim.Native.Nat.{ℕ}
use lib.IntN.{pos, neg_ℤ}
use Rattle.refusal.specs.declared.Refusal.TheVariants.{Mass}
use Rattle.particle.specs.Record.{particle_of, record_of}
use Rattle.particles.specs.Set.{particles_in}
use Rattle.report.specs.declared.Outcome.TheVariants.{Refused, Done}
use Rattle.text.specs.Decimal.{bytes_of, digits_within, decimal, signed}
use Rattle.report.specs.Lines.{refused_line, done_line, totals_line, particle_line, particle_lines}
use Rattle.report.specs.Report.{run_text, text_of}

-- the record after the step
records : List ℕ
unfolding record_of
records = record_of (record { identifier = 7; mass = 2; x = 67; y = 62; vx = pos 3; vy = neg_ℤ (pos 2); bxx = pos 0; bxy = pos 0; byx = pos 0; byy = pos 0; marks = 0 })

printed : text_of (Done 1 (record { mass = pos 2; px = pos 6; py = neg_ℤ (pos 4); spin = neg_ℤ (pos 640); motion = pos 26624; marks = pos 0 })) records ≡ bytes_of "done 1 refusal 0 at 0\nmass 2 px 6 py -4 spin -640 motion 26624 marks 0\n7 2 67 62 3 -2 0 0 0 0 0\n"
unfolding records record_of particle_of run_text particles_in done_line totals_line particle_line particle_lines decimal digits_within signed
printed = refl

refused : text_of (Refused (Mass 17)) records ≡ bytes_of "refused 4 at 17\n"
unfolding refused_line decimal digits_within
refused = refl
