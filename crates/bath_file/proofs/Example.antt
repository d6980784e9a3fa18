-- Examples of the definitions.
--     reads, writes      document 01's worked input, "The program", with document 02's two bytes more in the header and one at the end:
--                        the file is accepted, and its header is 4 by 4 nodes, no gravity, one record, one step, open edges and no drag
--     each-its-own       a header in which every field holds another number
--     first_read, first-written     where several limits are broken, the first of the list is told
--     still-there        a header that is not written leaves the buffer as it was
--     page-read          a header at the page's limits, and larger ones: what the page and the bench are told
-- Assumes nothing.
use Prim.Native.Nat.{ℕ}
use mathlib.Core.Path.{◌≡◌, refl}
use mathlib.Core.List.{List, [], ◌∷◌, ◌++◌}
use lib.IntN.{ℤ, pos, neg_ℤ}
use Rattle.refusal.specs.Refused.{gives, refused}
use Rattle.limits.specs.declared.Caller.TheVariants.{Bench, Page}
use Rattle.spline.specs.Spline.{on_axis}
use Rattle.particle.specs.Record.{particle_of, read_particle, read_answer}
use Rattle.particles.specs.Set.{checked_particle, set_from}
use Rattle.bath_file.specs.declared.Header.{Header}
use Rattle.bath_file.specs.File.{header_in, header_of, checked_header, header_answer, records_answer, file_answer, write_answer, written}

bytes : List ℕ
bytes = 0x10 ∷ 0x40 ∷ 0x00 ∷ 0x00 ∷ 0x00 ∷ 0x00 ∷ 0x08 ∷ 0x00 ∷ 0x20 ∷ 0x00 ∷ 0x00 ∷ []

file : List ℕ
file = bytes ++ 0x00 ∷ 0x07 ∷ 0x00 ∷ 0x81 ∷ 0x00 ∷ 0x10 ∷ 0x01 ∷ 0xfe ∷ 0x00 ∷ 0x00 ∷ 0x00 ∷ 0x00 ∷ 0x00 ∷ 0x00 ∷ 0x00 ∷ []

header : Header
header =
    record {
      nx = 4;
      ny = 4;
      gx = pos 0;
      gy = pos 0;
      count = 1;
      steps = 1;
      kind = 0;
      width = 0;
      drag = 0;
    }

reads : file_answer Bench file ≡ gives header
unfolding bytes file header header_answer records_answer header_in checked_header set_from checked_particle read_answer read_particle particle_of on_axis
reads = refl

writes : header_of header ≡ bytes
unfolding bytes header header_of
writes = refl

-- ---- every field another number: a slip edge, three nodes wide

distinct : Header
distinct =
    record {
      nx = 5;
      ny = 7;
      gx = pos 300;
      gy = neg_ℤ (pos 400);
      count = 6;
      steps = 1000;
      kind = 2;
      width = 3;
      drag = 200;
    }

distinct-bytes : List ℕ
distinct-bytes = 0x14 ∷ 0x70 ∷ 0x4b ∷ 0x3e ∷ 0x70 ∷ 0x00 ∷ 0x30 ∷ 0x7d ∷ 0x00 ∷ 0xbc ∷ 0x80 ∷ []

each-its-own : (header_answer Bench distinct-bytes ≡ gives distinct) × (header_of distinct ≡ distinct-bytes)
unfolding distinct distinct-bytes header_answer header_in checked_header header_of
each-its-own = (refl, refl)

-- ---- several limits broken

breaking : ℤ → ℕ → ℕ → ℕ → ℕ → Header
breaking gx count kind width drag =
    record {
      nx = 5;
      ny = 7;
      gx = gx;
      gy = pos 9;
      count = count;
      steps = 0;
      kind = kind;
      width = width;
      drag = drag;
    }

-- no such kind and too many records; an open edge with a width; the same, and gravity too large
first_read :
    (header_answer Bench (header_of (breaking (pos 0) 4097 3 1 255)) ≡ refused 18 0)
    × (header_answer Bench (header_of (breaking (pos 0) 0 0 1 255)) ≡ refused 18 0)
    × (header_answer Bench (header_of (breaking (pos 4097) 0 0 1 255)) ≡ refused 10 0)
unfolding breaking header_answer header_in checked_header header_of
first_read = (refl, refl, refl)

-- drag too large and too many records; the same with a sticky edge too wide
first-written :
    (write_answer (breaking (pos 0) 4097 1 3 256) bytes ≡ refused 19 0)
    × (write_answer (breaking (pos 0) 4097 1 4 256) bytes ≡ refused 18 0)
unfolding breaking bytes write_answer checked_header
first-written = (refl, refl)

still-there : written (breaking (pos 0) 0 1 0 0) bytes ≡ bytes
unfolding breaking bytes written write_answer checked_header
still-there = refl

-- ---- who calls

sized : ℕ → ℕ → ℕ → Header
sized ny count steps =
    record {
      nx = 5;
      ny = ny;
      gx = pos 3;
      gy = neg_ℤ (pos 4);
      count = count;
      steps = steps;
      kind = 0;
      width = 0;
      drag = 0;
    }

-- 16 nodes and 512 records; a node more, with a record more; a record more, with too many steps
page-read :
    (header_answer Page (header_of (sized 16 512 7)) ≡ gives (sized 16 512 7))
    × (header_answer Page (header_of (sized 17 513 7)) ≡ refused 2 0)
    × (header_answer Bench (header_of (sized 17 513 7)) ≡ gives (sized 17 513 7))
    × (header_answer Page (header_of (sized 16 513 10001)) ≡ refused 3 0)
    × (header_answer Bench (header_of (sized 16 513 10001)) ≡ refused 17 0)
unfolding sized header_answer header_in checked_header header_of
page-read = (refl, refl, refl, refl, refl)
