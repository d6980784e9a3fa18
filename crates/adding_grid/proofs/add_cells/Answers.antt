-- `adding_grid::add_cells` meets its contract. Assumes nothing.
use Rattle.std.proofs.Common.{◌≡◌, refl, ap, set, ◌∙◌, length, arith}
use Rattle.arith.specs.Fill.{filled, filled_none, filled-all}
use Rattle.adding_grid.proofs.Sums.{cell_sum, sum-fits, sum-stored}
use Rattle.adding_grid.proofs.add_cells.Goals as goal

pub loop-k-init : goal.loop-k-init
loop-k-init g c = filled_none _ _

pub plus-requires : goal.plus-requires
plus-requires g c =
    sum-fits g.C.Cell.zero g.C.Cell.sum c.args.cells.now c.args.gains.now c.requires c.loop-k.cells c.loop-k.k
    c.loop-k-test.true c.loop-k.auto.cells c.loop-k.invariant c.index-cells-k.is c.index-gains-k.is

pub loop-k-preserved : goal.loop-k-preserved
loop-k-preserved g c =
    ap (set c.loop-k.cells c.loop-k.k) c.plus.ensures
    ∙ sum-stored g.C.Cell.zero g.C.Cell.sum c.args.cells.now c.args.gains.now c.requires c.loop-k.cells c.loop-k.k
    c.loop-k-test.true c.loop-k.auto.cells c.loop-k.invariant c.index-cells-k.is c.index-gains-k.is

pub returns : goal.returns
returns g c =
    let cells = c.args.cells.now in
    let sum = cell_sum g.C.Cell.zero g.C.Cell.sum cells c.args.gains.now in
    let all : c.loop-k.k ≡ length cells = omega (arith, c.loop-k.auto.k-end, c.loop-k-test.false) in
    c.loop-k.invariant ∙ ap (λ k. filled sum k cells) all ∙ filled-all sum cells (length cells) refl
