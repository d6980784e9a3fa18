-- Documents 01, "Read a file", and 02, Papers 1, 6 and 9: its answer to a caller for any bytes; and writing a header: its answer, and
-- the buffer that it leaves.
-- Assumes nothing.
use Rattle.std.specs.Prelude.{ℕ, ◌+◌, ◌*◌, ◌≤◌, Bool, not, ◌&&◌, List, ltb, eqb, ℤ, pos, nat_abs, length, take}
use Rattle.refusal.specs.Refused.{Answer, gives, refuse_if, and_then, kept_unless}
use Rattle.limits.specs.declared.Caller.{Caller}
use Rattle.limits.specs.declared.Caller.TheVariants.{Bench}
use Rattle.limits.specs.Limits.{most_steps, most_drag, most_side_of, most_records_of, valid_gravity}
use Rattle.particle.specs.Layout.{record_length}
use Rattle.particles.specs.Set.{set_length, valid_size, set_of}
use Rattle.settings.specs.Settings.{edge_of, valid_edge}
use Rattle.bath_file.specs.declared.Header.{Header}
use Rattle.bath_file.specs.Layout.{Name, nx, ny, gx, gy, count, steps, spare_after_steps, kind, width, drag, spare_after_drag, header_length, held, packed}

-- the header that bytes of its length hold
unfoldable pub header_in : List ℕ → Header
header_in bytes =
    record {
      nx = nat_abs (held nx bytes);
      ny = nat_abs (held ny bytes);
      gx = held gx bytes;
      gy = held gy bytes;
      count = nat_abs (held count bytes);
      steps = nat_abs (held steps bytes);
      kind = nat_abs (held kind bytes);
      width = nat_abs (held width bytes);
      drag = nat_abs (held drag bytes);
    }

abbrev pub value_in : Header → Name → ℤ
value_in h nx = pos h.nx
value_in h ny = pos h.ny
value_in h gx = h.gx
value_in h gy = h.gy
value_in h count = pos h.count
value_in h steps = pos h.steps
value_in h spare_after_steps = pos 0
value_in h kind = pos h.kind
value_in h width = pos h.width
value_in h drag = pos h.drag
value_in h spare_after_drag = pos 0

-- the bytes that hold a header
unfoldable pub header_of : Header → List ℕ
header_of h = packed (value_in h)

-- ---- the limits of "Records", and of Papers 1 and 9

-- 2 Nx or Ny out of the caller's range; 10 gravity out of range; 18 kind 3 or a width that its kind doesn't have; 19 drag above 255;
-- 3 more records than the caller's; 17 too many steps; and then the rest of a list
unfoldable pub checked_header : {A : Type 0} → Caller → Header → Answer A → Answer A
checked_header caller h rest =
    refuse_if (not (valid_size (most_side_of caller) h.nx h.ny)) 2 0
    (refuse_if (not (valid_gravity h.gx && valid_gravity h.gy)) 10 0
    (refuse_if (not (valid_edge (edge_of h.kind h.width))) 18 0
    (refuse_if (ltb most_drag h.drag) 19 0
    (refuse_if (ltb (most_records_of caller) h.count) 3 0
    (refuse_if (ltb most_steps h.steps) 17 0
    rest)))))

-- ---- "Read a file"

-- no bit of either spare field is set
abbrev pub spare_is_zero : List ℕ → Bool
spare_is_zero bytes = eqb (nat_abs (held spare_after_steps bytes)) 0 && eqb (nat_abs (held spare_after_drag bytes)) 0

-- 1 shorter than a header; 2; 10; 18; 3; 17; 16 spare bits not zero
unfoldable pub header_answer : Caller → List ℕ → Answer Header
header_answer caller bytes =
    let first = take header_length bytes in
    refuse_if (ltb (length bytes) header_length) 1 0
    (checked_header caller (header_in first)
    (refuse_if (not (spare_is_zero first)) 16 0
    (gives (header_in first))))

-- the drag that a file holds is never too large: 19 comes only where a header is written. Proved in proofs/
abbrev pub DragOfFile : Type 0
DragOfFile = (bytes : List ℕ) → (header_in bytes).drag ≤ most_drag

-- 1 length not that of the header and of as many records as it counts; then the set, whose records lie behind the header
unfoldable pub records_answer : Header → List ℕ → Answer Header
records_answer h bytes =
    refuse_if (not (eqb (length bytes) (header_length + record_length * h.count))) 1 0
    (and_then (set_of h.nx h.ny header_length bytes h.count) (λ _. gives h))

-- one byte more than the longest file that is accepted
abbrev pub room_for_file : ℕ
room_for_file = header_length + set_length + 1

-- the whole list; the result is the header's values
abbrev pub file_answer : Caller → List ℕ → Answer Header
file_answer caller bytes = and_then (header_answer caller bytes) (λ h. records_answer h bytes)

-- ---- writing a header

-- 1 wrong length; 2; 10; 18; 19; 3; 17: by the bench's limits
unfoldable pub write_answer : Header → List ℕ → Answer Unit
write_answer h bytes = refuse_if (not (eqb (length bytes) header_length)) 1 0 (checked_header Bench h (gives tt))

-- the buffer afterwards: the header where the answer is a result, and else what it was
unfoldable pub written : Header → List ℕ → List ℕ
written h bytes = kept_unless (write_answer h bytes) (header_of h) bytes
