-- `run_set::run_set`: unpacked, stepped and packed. Assumes nothing.
use Rattle.std.proofs.Common.{rules, ◌≡◌, ℕ, ◌*◌, ◌≤◌, List, ℤ, length, take, refl, sym, ◌∙◌}
use lib.Seq.{length-take-le}
use Rattle.spline.specs.Kernel.{BuiltIn}
use Rattle.spline.specs.Spline.{D}
use Rattle.spline.proofs.Spline.{built-in-kernel}
use Rattle.particles.specs.Set.{record_count}
use Rattle.unpacked.specs.Unpacked.{per_particle}
use Rattle.simulation.specs.Internal.{completed_by}
use Rattle.simulation.proofs.Runs.{repeat-ready, settle-ready, run-seen, built-in-run}
use Rattle.run_set.proofs.run_set.Goals as goal

-- the part of an array that has room for a set's numbers
part-length : (records : List ℕ) (a : List ℤ) → per_particle * record_count records ≤ length a → length (take (per_particle * record_count records) a) ≡ per_particle * record_count records
part-length records a h = length-take-le (per_particle * record_count records) a h

pub repeat-ran-requires : goal.repeat-ran-requires
repeat-ran-requires c =
    let table : BuiltIn c.weight_table-table.result D = record { table_is = c.weight_table-table.ensures; D-is = refl } in
    let from = part-length c.args.records.now c.args.a.now c.requires.1 in
    let to = part-length c.args.records.now c.args.b.now c.requires.2 in
    repeat-ready c.requires.0 c.unpack_set.ensures (built-in-kernel table) (to ∙ sym (c.unpack_set.auto.array ∙ from))

pub settle-requires : goal.settle-requires
settle-requires c =
    let from = part-length c.args.records.now c.args.a.now c.requires.1 in
    let to = part-length c.args.records.now c.args.b.now c.requires.2 in
    let same : c.unwrap_or_else.result ≡ completed_by c.repeat-ran.result = search rules in
    settle-ready c.requires.0 c.unpack_set.ensures c.repeat-ran.ensures same
    (c.repeat-ran.auto.a ∙ c.unpack_set.auto.array ∙ from) (c.repeat-ran.auto.b ∙ to)

pub returns : goal.returns
returns c =
    let table : BuiltIn c.weight_table-table.result D = record { table_is = c.weight_table-table.ensures; D-is = refl } in
    let same : c.unwrap_or_else.result ≡ completed_by c.repeat-ran.result = search rules in
    run-seen c.requires.0 c.unpack_set.ensures c.repeat-ran.ensures same c.settle.ensures
    ∙ built-in-run table _ _ _ _ _
