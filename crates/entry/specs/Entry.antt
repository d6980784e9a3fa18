-- Documents 01 and 02: the checks that an operation begins with, in their order, by who calls it. An operation that has not a part
-- gives one that is always accepted: no lent buffer, no gravity, open edges, no drag, no step, no record. Assumes nothing.
use Rattle.std.specs.Prelude.{not, List, ℕ, ◌*◌, ltb, length}
use Rattle.refusal.specs.Refused.{Answer, refuse_if, and_then, done}
use Rattle.particle.specs.declared.Particle.{Particle}
use Rattle.limits.specs.declared.Caller.{Caller}
use Rattle.limits.specs.Limits.{most_gravity, most_drag, most_steps, most_side_of}
use Rattle.particles.specs.Set.{valid_size, valid_length, record_count, too_many, set_of}
use Rattle.settings.specs.declared.Settings.{Settings}
use Rattle.settings.specs.Settings.{valid_edge}
use Rattle.entry.specs.declared.Buffers.{Buffers}
use Rattle.entry.specs.Checks.{are_long, both_within}

-- 10 gravity not −4096 to 4096; 18 a width that the edge's kind does not have; 19 drag above 255; and then the rest of a list
unfoldable pub checked_forces : Settings → Answer Unit → Answer Unit
checked_forces s rest =
    refuse_if (not (both_within most_gravity s.gx s.gy)) 10 0
    (refuse_if (not (valid_edge s.edge)) 18 0 (refuse_if (ltb most_drag s.drag) 19 0 rest))

-- 2 the caller's sizes; 1 the records' length in bytes, and the grid buffers'; 3 the caller's number of records; 10; 18; 19;
-- 17 steps above 10,000
unfoldable pub begin_answer : Caller → Settings → Buffers → ℕ → ℕ → Answer Unit
begin_answer caller s buffers steps bytes =
    refuse_if (not (valid_size (most_side_of caller) s.nx s.ny)) 2 0
    (refuse_if (not (valid_length bytes)) 1 0
    (refuse_if (not (are_long (s.nx * s.ny) buffers)) 1 0
    (refuse_if (too_many caller bytes) 3 0
    (checked_forces s (refuse_if (ltb most_steps steps) 17 0 done)))))

-- then the set
unfoldable pub entry_answer : Caller → Settings → Buffers → ℕ → List ℕ → Answer (List Particle)
entry_answer caller s buffers steps records =
    and_then (begin_answer caller s buffers steps (length records)) (λ _. set_of s.nx s.ny 0 records (record_count records))
