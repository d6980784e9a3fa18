-- The line is its form with the numbers in the gaps. Assumes nothing.
use mathlib.Core.Path.{sym}
use Rattle.text.proofs.Puts.{room_as, put_as}
use Rattle.report.proofs.Texts.{done-text}
use Rattle.report_lines.proofs.put_done.Goals as goal

pub put_filled-requires : goal.put_filled-requires
put_filled-requires c =
    let a = c.args in
    let r = c.ranges in
    room_as (sym (done-text a.completed a.refusal a.place r.completed.fits r.refusal.fits r.place.fits)) c.requires

pub returns : goal.returns
returns c =
    let a = c.args in
    let r = c.ranges in
    put_as (done-text a.completed a.refusal a.place r.completed.fits r.refusal.fits r.place.fits) c.put_filled.ensures
