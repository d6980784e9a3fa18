-- `scatter::scatter_set` meets its contract. Assumes nothing.
use Rattle.std.proofs.Common.{refl, rules}
use Rattle.spline.specs.Spline.{D}
use Rattle.spline.specs.Kernel.{BuiltIn}
use Rattle.scatter_core.proofs.Sets.{scattered}
use Rattle.transfer.proofs.Sets.{whole-records}
use Rattle.transfer.proofs.Scatters.{add-ready, built-in-scattered}
use Rattle.scatter.proofs.scatter_set.Goals as goal

pub scatter_parts-requires : goal.scatter_parts-requires
scatter_parts-requires c =
    let lent : BuiltIn c.weight_table-table.result D = record { table_is = c.weight_table-table.ensures; D-is = refl } in
    record {
      ready = add-ready c.requires lent (c.fill.ensures.after (λ y e. e)) (c.fill-2.ensures.after (λ y e. e)) (c.fill-3.ensures.after (λ y e. e));
      whole = whole-records c.args.nx c.args.ny c.args.records.now c.requires.set;
      room = search rules;
    }

pub returns : goal.returns
returns c =
    let lent : BuiltIn c.weight_table-table.result D = record { table_is = c.weight_table-table.ensures; D-is = refl } in
    let a = c.args in
    built-in-scattered lent
    (scattered a.mass.now a.px.now a.py.now (c.fill.ensures.after (λ y e. e)) (c.fill-2.ensures.after (λ y e. e)) (c.fill-3.ensures.after (λ y e. e)) c.scatter_parts.ensures)
