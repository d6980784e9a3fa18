-- The two first lines, and then the records'. Assumes nothing.
use Prim.Native.Nat.{ℕ, ◌^◌, ◌<◌}
use native.Mathlib.Omega.{arith}
use borrow.Author.Rules.{rules}
use lib.ListN.{length}
use mathlib.Core.Bool.{true}
use mathlib.Core.Path.{◌≡◌}
use mathlib.Core.List.{List, ◌++◌}
use mir.Syntax.{w64}
use mir.Val.{SFits}
use Rattle.totals.specs.declared.Totals.{Totals}
use Rattle.totals.proofs.Fields.{Typed}
use Rattle.particles.specs.Set.{valid_length, record_count, particles_in}
use Rattle.text.specs.declared.Text.{Text}
use Rattle.text.specs.Internal.{Room, Put}
use Rattle.text.proofs.Puts.{put_then, room-first, room-second}
use Rattle.report.specs.Lines.{done_line, totals_line}
use Rattle.report.specs.Internal.{lines_up_to, RoomForReport}
use Rattle.report.specs.Report.{run_text}
use Rattle.report.proofs.Bounds.{run_length}
use Rattle.report_text.proofs.put_run.Goals as goal

typed_of : (t : Totals) → SFits w64 t.mass → SFits w64 t.px → SFits w64 t.py → SFits w64 t.spin → SFits w64 t.motion → SFits w64 t.marks → Typed t
typed_of t a b d e f g = record { mass = a.sfits; px = b.sfits; py = d.sfits; spin = e.sfits; motion = f.sfits; marks = g.sfits }

-- ---- the parts of the text, room for all of them, and for what is left behind the first

abbrev lines : List ℕ → List ℕ
lines records = lines_up_to records (record_count records)

module _ (c n k : ℕ) (t : Totals) (records : List ℕ) {text : Text} (fc : c < 2 ^ 64) (fn : n < 256) (fk : k < 2 ^ 64) (fit : Typed t) (valid : valid_length (length records) ≡ true) (long : RoomForReport text) where
  room : Room text (done_line c n k ++ (totals_line t ++ lines records))
  unfolding run_text particles_in
  room = record { room = omega (arith, run_length c n k t records fc fn fk fit valid, long) }

  room_left : {one : Text} → Put text (done_line c n k) one → Room one (totals_line t ++ lines records)
  room_left p = room-second (done_line c n k) (totals_line t ++ lines records) room p

pub put_done-requires : goal.put_done-requires
put_done-requires c =
    let a = c.args in
    let t = a.totals in
    let fit : Typed t = typed_of t (search rules) (search rules) (search rules) (search rules) (search rules) (search rules) in
    rw c.into.ensures
    (room-first (done_line a.completed a.refusal a.place) (totals_line t ++ lines a.records.now)
    (room a.completed a.refusal a.place t a.records.now c.ranges.completed.fits c.ranges.refusal.fits c.ranges.place.fits fit c.requires.0 c.requires.1))

pub put_totals-requires : goal.put_totals-requires
put_totals-requires c =
    let a = c.args in
    let t = a.totals in
    let fit : Typed t = typed_of t (search rules) (search rules) (search rules) (search rules) (search rules) (search rules) in
    room-first (totals_line t) (lines a.records.now)
    (room_left a.completed a.refusal a.place t a.records.now c.ranges.completed.fits c.ranges.refusal.fits c.ranges.place.fits fit c.requires.0 c.requires.1 (rw c.into.ensures at c.put_done.ensures))

pub put_records-requires : goal.put_records-requires
put_records-requires c =
    let a = c.args in
    let t = a.totals in
    let fit : Typed t = typed_of t (search rules) (search rules) (search rules) (search rules) (search rules) (search rules) in
    room-second (totals_line t) (lines a.records.now)
    (room_left a.completed a.refusal a.place t a.records.now c.ranges.completed.fits c.ranges.refusal.fits c.ranges.place.fits fit c.requires.0 c.requires.1 (rw c.into.ensures at c.put_done.ensures))
    c.put_totals.ensures

pub returns : goal.returns
unfolding run_text particles_in
returns c = put_then (rw c.into.ensures at c.put_done.ensures) (put_then c.put_totals.ensures c.put_records.ensures)
