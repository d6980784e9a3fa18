-- `update_rim::hold_band`: the columns, and then the rows. Assumes nothing.
use Rattle.std.proofs.Common.{ap, ◌∙◌}
use Rattle.update_rim.specs.Internal.{cleared, in_columns, in_rows}
use Rattle.update_rim.proofs.Cleared.{cleared-twice}
use Rattle.update_rim.proofs.hold_band.Goals as goal

pub returns : goal.returns
returns c =
    let a = c.args in
    c.hold_rows.ensures
    ∙ ap (cleared (in_rows a.width a.nx a.ny)) c.hold_columns.ensures
    ∙ cleared-twice (in_columns a.width a.nx) (in_rows a.width a.nx a.ny) a.velocities.now
