-- The line is its form with the numbers in the gaps. Assumes nothing.
use mathlib.Core.Path.{sym}
use Rattle.text.proofs.Puts.{room_as, put_as}
use Rattle.report.proofs.Texts.{refused-text}
use Rattle.report_lines.proofs.put_refused.Goals as goal

pub put_filled-requires : goal.put_filled-requires
put_filled-requires c =
    let a = c.args in
    room_as (sym (refused-text a.refusal a.place c.ranges.refusal.fits c.ranges.place.fits)) c.requires

pub returns : goal.returns
returns c =
    let a = c.args in
    put_as (refused-text a.refusal a.place c.ranges.refusal.fits c.ranges.place.fits) c.put_filled.ensures
