-- The particles of the records before those that are left are added.
use Rattle.std.proofs.Common.{◌≡◌, ◌*◌}
use Rattle.std.specs.Slice.Iter.{chunks_rest, chunks_size}
use Rattle.spline.specs.Kernel.{weight_in}
use Rattle.particle.specs.Layout.{record_length}
use Rattle.transfer.specs.Internal.{part}
use Rattle.scatter.proofs.Looped.{Looped}
use Rattle.scatter.proofs.scatter_parts.Given as goal

abbrev pub invariant-loop-part : goal.invariant-loop-part
invariant-loop-part l =
    goal.iterator-loop-part.can_next l.part-iterator
    × goal.iterator-loop-part.is_finite l.part-iterator
    × (chunks_size l.part-iterator ≡ part * record_length)
    × Looped (weight_in l.table) l.d l.nx l.ny l.records (chunks_rest l.part-iterator) l.initial.mass l.initial.px l.initial.py l.array l.mass l.px l.py
