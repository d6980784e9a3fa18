-- `gather::gather_into` meets its contract. Assumes nothing.
use Rattle.std.proofs.Common.{refl, rules}
use Rattle.spline.specs.Spline.{D}
use Rattle.transfer.proofs.Sets.{whole-records}
use Rattle.transfer.proofs.Gathers.{move-ready, built-in-moved}
use Rattle.gather.proofs.gather_into.Goals as goal

pub gather_parts-requires : goal.gather_parts-requires
gather_parts-requires c =
    record {
      ready = move-ready c.requires.0;
      room =
          record {
            whole = whole-records c.args.nx c.args.ny c.args.records.now c.requires.0.set;
            source-numbers = search rules;
            target-numbers = c.requires.1;
          };
    }

pub returns : goal.returns
returns c = built-in-moved {d = D} (record { table_is = c.weight_table-table.ensures; D-is = refl }) c.gather_parts.ensures
