-- There is room for the line of a refused file. Assumes nothing.
use native.Mathlib.Omega.{arith}
use Rattle.report.proofs.Bounds.{refused-length}
use Rattle.report_text.proofs.put_outcome.Goals as goal

pub put_refused-requires : goal.put_refused-requires
put_refused-requires c =
    rw c.into.ensures
    (record { room = omega (arith, refused-length c.number.result c.place.result c.number.type_inv c.place.type_inv, c.requires.1) })
