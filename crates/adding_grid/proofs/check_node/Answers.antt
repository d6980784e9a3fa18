-- `adding_grid::check_node` meets its contract. Assumes nothing.
use Rattle.std.proofs.Common.{sym, arith}
use Rattle.adding.proofs.Nodes.{node-refused, node-heavy, node-passes}
use Rattle.adding_grid.proofs.Nodes.{flag}
use Rattle.adding_grid.proofs.check_node.Goals as goal

pub returns-then-not-momenta_within : goal.returns-then-not-momenta_within
returns-then-not-momenta_within c =
    sym (node-refused _ _ _ _ _ (flag c.args.mass c.ranges.px c.ranges.py c.momenta_within.ensures c.if-not-momenta_within.true))

pub returns-then-gain-mass : goal.returns-then-gain-mass
returns-then-gain-mass c =
    sym (node-heavy _ _ _ _ _ (flag c.args.mass c.ranges.px c.ranges.py c.momenta_within.ensures c.if-not-momenta_within.false) (omega (arith, c.requires, c.if-gain-mass.true)))

pub returns : goal.returns
returns c =
    sym (node-passes _ _ _ _ _ (flag c.args.mass c.ranges.px c.ranges.py c.momenta_within.ensures c.if-not-momenta_within.false) (omega (arith, c.requires, c.if-gain-mass.false)))
