-- The loop's invariant of `gather_parts::gather_parts`: the walk so far, and the room for the numbers of a part.
use Rattle.std.proofs.Common.{◌≡◌, ◌*◌, min, length}
use Rattle.spline.specs.Kernel.{weight_in}
use Rattle.particles.specs.Set.{record_count}
use Rattle.unpacked.specs.Unpacked.{per_particle}
use Rattle.transfer.specs.Internal.{part}
use Rattle.transfer.proofs.Moving.{Walk}
use Rattle.gather_parts.proofs.gather_parts.Given as goal

abbrev pub invariant-loop-part : goal.invariant-loop-part
invariant-loop-part l =
    record {
      walk : Walk (weight_in l.table) l.nx l.ny l.records l.ux l.uy l.to (min (record_count l.records) (part * l.part));
      room : length l.from ≡ part * per_particle;
    }
