-- Document 02, Paper 9: the bench and the lesson page. "A bath within these limits has the same outcome in both, refused or not": one
-- statement for all operations that have two callers, by what each promises. Return and forget look at no size, no set given to them
-- and no file, and have none.
--     Operation, Told, Left    an operation with all that its call is given; what it tells, and what it leaves in the buffers that it
--                              may write
--     Promised, EveryCall      what it promises a caller of both; there is such an outcome for every call
--     Within, SameOutcome      its bath is within a caller's limits; then both callers get the same outcome
--     Refused, BeyondRefused   beyond a caller's limits it is refused, and nothing has changed
--     Limited, PageOrBench     what the page sees is what the bench's promise says, or it is refused with 2 or 3
--     SetAccepted, FileAccepted    a bath that the page accepts is one that the bench accepts
-- Assumes nothing.
use Rattle.std.specs.Prelude.{◌≡◌, List, ◌⊎◌, ℕ, ℤ, take}
use Rattle.refusal.specs.Refused.{Answer, gives, refused}
use Rattle.limits.specs.declared.Caller.{Caller}
use Rattle.limits.specs.declared.Caller.TheVariants.{Bench, Page}
use Rattle.limits.specs.Limits.{CallerLimits}
use Rattle.particles.specs.Set.{record_count, check_answer}
use Rattle.totals.specs.declared.Totals.{Totals}
use Rattle.totals.specs.Totals.{totals_answer}
use Rattle.apic.specs.Step.{Grids}
use Rattle.settings.specs.declared.Settings.{Settings}
use Rattle.update.specs.Update.{BothAxes, both_axes, UpdateIs}
use Rattle.transfer.specs.Transfer.{ScatterIs, GatherIs}
use Rattle.adding.specs.Adding.{AddingIs}
use Rattle.simulation.specs.Step.{Sees, step_after}
use Rattle.simulation.specs.Run.{Completion, run_after}
use Rattle.bath_file.specs.declared.Header.{Header}
use Rattle.bath_file.specs.Layout.{header_length}
use Rattle.bath_file.specs.File.{header_in, file_answer}
use Rattle.store.specs.Operations.{KeepIs}

-- ---- calls

-- an operation, and all that its call is given: numbers, settings, and the contents of every buffer
pub data Operation : Type 0 where
  check_set : ℕ → ℕ → List ℕ → Operation
  totals : ℕ → ℕ → List ℕ → Operation
  scatter : ℕ → ℕ → List ℕ → Grids → Operation
  adding_scatter : ℕ → ℕ → List ℕ → Grids → Operation
  update : Settings → Grids → Operation
  gather : ℕ → ℕ → List ℕ → List ℤ → List ℤ → Operation
  step : Settings → List ℕ → Grids → Operation
  run : Settings → ℕ → List ℕ → Grids → Operation
  read_file : List ℕ → Operation
  -- the store, the name and the file
  keep : List ℕ → List ℕ → List ℕ → Operation

-- what a call tells
abbrev pub Told : Operation → Type 0
Told (check_set nx ny records) = Answer ℕ
Told (totals nx ny records) = Answer Totals
Told (scatter nx ny records g) = Answer Unit
Told (adding_scatter nx ny records g) = Answer Unit
Told (update s g) = Answer Unit
Told (gather nx ny records ux uy) = Answer Unit
Told (step s records g) = Answer Unit
Told (run s steps records g) = Completion
Told (read_file bytes) = Answer Header
Told (keep store name file) = Answer Unit

-- what it leaves in the buffers that it may write: grids, both axes of a grid, records, records and grids, or the store
abbrev pub Left : Operation → Type 0
Left (check_set nx ny records) = Unit
Left (totals nx ny records) = Unit
Left (scatter nx ny records g) = Grids
Left (adding_scatter nx ny records g) = Grids
Left (update s g) = BothAxes
Left (gather nx ny records ux uy) = List ℕ
Left (step s records g) = List ℕ × Grids
Left (run s steps records g) = List ℕ × Grids
Left (read_file bytes) = Unit
Left (keep store name file) = List ℕ

-- the operation's own promise to a caller
abbrev pub Promised : Caller → (o : Operation) → Told o → Left o → Type 0
Promised caller (check_set nx ny records) told left = told ≡ check_answer caller nx ny records
Promised caller (totals nx ny records) told left = told ≡ totals_answer caller nx ny records
Promised caller (scatter nx ny records g) told left =
    ScatterIs caller nx ny records g.mass g.x g.y told left.mass left.x left.y
Promised caller (adding_scatter nx ny records g) told left =
    AddingIs caller nx ny records g.mass g.x g.y told left.mass left.x left.y
Promised caller (update s g) told left = UpdateIs caller s g.mass g.x g.y told left.x left.y
Promised caller (gather nx ny records ux uy) told left = GatherIs caller nx ny records ux uy told left
Promised caller (step s records g) told left =
    Sees (step_after caller s records g) told left.0 left.1.mass left.1.x left.1.y
Promised caller (run s steps records g) told left =
    Sees (run_after caller s steps records g) told left.0 left.1.mass left.1.x left.1.y
Promised caller (read_file bytes) told left = told ≡ file_answer caller bytes
Promised caller (keep store name file) told left = KeepIs caller store name file told left

-- an outcome: what is told and left, as promised
pub record Outcome (caller : Caller) (o : Operation) : Type 0 where
  pub told : Told o
  pub left : Left o
  pub promised : Promised caller o told left

abbrev pub EveryCall : Type 0
EveryCall = (caller : Caller) (o : Operation) → Outcome caller o

-- ---- the same outcome

-- the header that a file begins with, whether or not it is accepted
abbrev pub header_of : List ℕ → Header
header_of bytes = header_in (take header_length bytes)

-- its bath is within a caller's limits: sizes and records given directly, or a file's header
abbrev pub Within : Caller → Operation → Type 0
Within caller (check_set nx ny records) = CallerLimits caller nx ny (record_count records)
Within caller (totals nx ny records) = CallerLimits caller nx ny (record_count records)
Within caller (scatter nx ny records g) = CallerLimits caller nx ny (record_count records)
Within caller (adding_scatter nx ny records g) = CallerLimits caller nx ny (record_count records)
Within caller (update s g) = CallerLimits caller s.nx s.ny 0
Within caller (gather nx ny records ux uy) = CallerLimits caller nx ny (record_count records)
Within caller (step s records g) = CallerLimits caller s.nx s.ny (record_count records)
Within caller (run s steps records g) = CallerLimits caller s.nx s.ny (record_count records)
Within caller (read_file bytes) = CallerLimits caller (header_of bytes).nx (header_of bytes).ny (header_of bytes).count
Within caller (keep store name file) = CallerLimits caller (header_of file).nx (header_of file).ny (header_of file).count

-- the same answer, and the same bytes and numbers in every buffer
pub record Same (o : Operation) (page : Outcome Page o) (bench : Outcome Bench o) : Type 0 where
  pub told : page.told ≡ bench.told
  pub left : page.left ≡ bench.left

-- whatever the buffers hold, refused or not
abbrev pub SameOutcome : Type 0
SameOutcome = (o : Operation) → Within Page o → (page : Outcome Page o) (bench : Outcome Bench o) → Same o page bench

-- ---- beyond a caller's limits

-- refused with this number and place; a run with no step completed
abbrev pub refused_with : (o : Operation) → ℕ → ℕ → Told o
refused_with (check_set nx ny records) n k = refused n k
refused_with (totals nx ny records) n k = refused n k
refused_with (scatter nx ny records g) n k = refused n k
refused_with (adding_scatter nx ny records g) n k = refused n k
refused_with (update s g) n k = refused n k
refused_with (gather nx ny records ux uy) n k = refused n k
refused_with (step s records g) n k = refused n k
refused_with (run s steps records g) n k = record { completed = 0; stop = refused n k }
refused_with (read_file bytes) n k = refused n k
refused_with (keep store name file) n k = refused n k

-- what those buffers held
abbrev pub held : (o : Operation) → Left o
held (check_set nx ny records) = tt
held (totals nx ny records) = tt
held (scatter nx ny records g) = g
held (adding_scatter nx ny records g) = g
held (update s g) = both_axes g.x g.y
held (gather nx ny records ux uy) = records
held (step s records g) = (records, g)
held (run s steps records g) = (records, g)
held (read_file bytes) = tt
held (keep store name file) = store

-- refused, and nothing has changed
pub record Refused (o : Operation) (told : Told o) (left : Left o) : Type 0 where
  pub number : ℕ
  pub place : ℕ
  pub told_is : told ≡ refused_with o number place
  pub unchanged : left ≡ held o

abbrev pub BeyondRefused : Type 0
BeyondRefused = (caller : Caller) (o : Operation) (seen : Outcome caller o) → Within caller o ⊎ Refused o seen.told seen.left

-- 2 or 3 at place 0, and nothing has changed
pub record Limited (o : Operation) (told : Told o) (left : Left o) : Type 0 where
  pub number : (told ≡ refused_with o 2 0) ⊎ (told ≡ refused_with o 3 0)
  pub unchanged : left ≡ held o

abbrev pub PageOrBench : Type 0
PageOrBench =
    (o : Operation) (page : Outcome Page o) → Promised Bench o page.told page.left ⊎ Limited o page.told page.left

-- ---- what the page accepts

abbrev pub SetAccepted : Type 0
SetAccepted = (nx ny : ℕ) (records : List ℕ) (n : ℕ) → check_answer Page nx ny records ≡ gives n → check_answer Bench nx ny records ≡ gives n

abbrev pub FileAccepted : Type 0
FileAccepted = (bytes : List ℕ) (h : Header) → file_answer Page bytes ≡ gives h → file_answer Bench bytes ≡ gives h
