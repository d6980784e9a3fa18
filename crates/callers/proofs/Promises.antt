-- A promise by what the operation's first checks answer.
--     Value, first_answer    that answer, for an operation and a caller: of the set, of what comes before it where there is none, of the
--                           file, or of all checks of a keep
--     By, as_by, of-by      the promise, as something that such an answer decides
--     unique                it decides what is told and left
--     stopped               where it is refused, nothing has changed
-- Assumes nothing.
use mathlib.Core.Path.{◌≡◌, refl, sym, ◌∙◌}
use mathlib.Core.List.{List}
use Prim.Native.Nat.{ℕ, ◌*◌}
use lib.ListN.{length}
use Rattle.refusal.specs.Refused.{Answer, gives, refused, and_then, either, told_of, Leaves}
use Rattle.limits.specs.declared.Caller.{Caller}
use Rattle.particle.specs.declared.Particle.{Particle}
use Rattle.particles.specs.Set.{set_answer, records_of}
use Rattle.totals.specs.Totals.{totals_of}
use Rattle.apic.specs.Step.{Grids, grids_of, along_x, along_y}
use Rattle.settings.specs.Settings.{still}
use Rattle.entry.specs.declared.Buffers.{Buffers}
use Rattle.entry.specs.declared.Buffers.TheVariants.{Two, Three}
use Rattle.entry.specs.Entry.{begin_answer, entry_answer}
use Rattle.update.specs.Update.{both_axes, check_nodes, velocities, update_answer}
use Rattle.spline.specs.Spline.{D}
use Rattle.transfer.specs.Transfer.{scatter_of, velocity_checks, checked_set, move_answer}
use Rattle.adding.specs.Adding.{added_grids, adding_answer}
use Rattle.simulation.specs.Step.{After, Sees, seen, buffers_of, step_entry, step_from, step_after}
use Rattle.simulation.specs.Run.{run_from, run_entry, run_after}
use Rattle.bath_file.specs.declared.Header.{Header}
use Rattle.bath_file.specs.File.{file_answer}
use Rattle.store.specs.Operations.{with_place, kept_place, keep_answer, keep_leaves}
use Rattle.callers.specs.Callers.{Operation, check_set, totals, scatter, adding_scatter, update, gather, step, run, read_file, keep, Told, Left, Promised, refused_with, held}

abbrev pub Value : Operation → Type 0
Value (check_set nx ny records) = List Particle
Value (totals nx ny records) = List Particle
Value (scatter nx ny records g) = List Particle
Value (adding_scatter nx ny records g) = List Particle
Value (update s g) = Unit
Value (gather nx ny records ux uy) = List Particle
Value (step s records g) = List Particle
Value (run s steps records g) = List Particle
Value (read_file bytes) = Header
Value (keep store name file) = ℕ

abbrev three : Grids → Buffers
three g = Three (length g.mass) (length g.x) (length g.y)

abbrev pub first_answer : Caller → (o : Operation) → Answer (Value o)
first_answer c (check_set nx ny records) = set_answer c nx ny records
first_answer c (totals nx ny records) = set_answer c nx ny records
first_answer c (scatter nx ny records g) = entry_answer c (still nx ny) (three g) 0 records
first_answer c (adding_scatter nx ny records g) = entry_answer c (still nx ny) (three g) 0 records
first_answer c (update s g) = begin_answer c s (three g) 0 0
first_answer c (gather nx ny records ux uy) = entry_answer c (still nx ny) (Two (length ux) (length uy)) 0 records
first_answer c (step s records g) = entry_answer c s (buffers_of g) 0 records
first_answer c (run s steps records g) = entry_answer c s (buffers_of g) steps records
first_answer c (read_file bytes) = file_answer c bytes
first_answer c (keep store name file) = keep_answer c store name file

abbrev pub By : (o : Operation) → Answer (Value o) → Told o → Left o → Type 0
By (check_set nx ny records) a told left = told ≡ and_then a (λ ps. gives (length ps))
By (totals nx ny records) a told left = told ≡ and_then a (λ ps. gives (totals_of ps))
By (scatter nx ny records g) a told left = Leaves a (scatter_of nx ny) g told left
By (adding_scatter nx ny records g) a told left = Leaves (and_then a (λ ps. added_grids (nx * ny) g (scatter_of nx ny ps))) (λ h. h) g told left
By (update s g) a told left =
    Leaves (and_then a (λ _. check_nodes D (s.nx * s.ny) s.gx s.gy g.mass g.x g.y))
    (λ _. both_axes (velocities D s along_x g.mass g.x) (velocities D s along_y g.mass g.y)) (both_axes g.x g.y) told left
By (gather nx ny records ux uy) a told left =
    Leaves (and_then (and_then a (λ ps. and_then (velocity_checks (nx * ny) ux uy) (λ _. gives ps))) (λ ps. move_answer nx ny ux uy ps)) records_of records told left
By (step s records g) a told left =
    Sees (either a (λ ps. step_from s records ps) (λ n k. seen (refused n k) records g)) told left.0 left.1.mass left.1.x left.1.y
By (run s steps records g) a told left =
    Sees (either a (λ ps. run_from s steps records ps g) (λ n k. seen (record { completed = 0; stop = refused n k }) records g)) told left.0 left.1.mass left.1.x left.1.y
By (read_file bytes) a told left = told ≡ a
By (keep store name file) a told left = (told ≡ told_of a) × (left ≡ either a (λ k. with_place store k (kept_place name file)) (λ n k. store))

pub as_by : (c : Caller) (o : Operation) (told : Told o) (left : Left o) → Promised c o told left → By o (first_answer c o) told left
unfolding adding_answer update_answer checked_set step_entry step_after run_entry run_after keep_leaves
as_by c (check_set nx ny records) told left p = p
as_by c (totals nx ny records) told left p = p
as_by c (scatter nx ny records g) told left p = p
as_by c (adding_scatter nx ny records g) told left p = p
as_by c (update s g) told left p = p
as_by c (gather nx ny records ux uy) told left p = p
as_by c (step s records g) told left p = p
as_by c (run s steps records g) told left p = p
as_by c (read_file bytes) told left p = p
as_by c (keep store name file) told left p = (p.answer, p.store_is)

pub of-by : (c : Caller) (o : Operation) (told : Told o) (left : Left o) → By o (first_answer c o) told left → Promised c o told left
unfolding adding_answer update_answer checked_set step_entry step_after run_entry run_after keep_leaves
of-by c (check_set nx ny records) told left p = p
of-by c (totals nx ny records) told left p = p
of-by c (scatter nx ny records g) told left p = p
of-by c (adding_scatter nx ny records g) told left p = p
of-by c (update s g) told left p = p
of-by c (gather nx ny records ux uy) told left p = p
of-by c (step s records g) told left p = p
of-by c (run s steps records g) told left p = p
of-by c (read_file bytes) told left p = p
of-by c (keep store name file) told left p = record { answer = p.0; store_is = p.1 }

-- ---- what is told and left

leaves-unique : {A B : Type 0} {a : Answer A} {new : A → B} {old left left' : B} {told told' : Answer Unit} → Leaves a new old told left → Leaves a new old told' left' → (told ≡ told') × (left ≡ left')
leaves-unique p q = (p.answer ∙ sym q.answer, p.left_is ∙ sym q.left_is)

sees-left : {A : Type 0} {after : After A} {told : A} {left : List ℕ × Grids} → Sees after told left.0 left.1.mass left.1.x left.1.y → left ≡ (after.records, after.grids)
sees-left p = λ i. (p.records i, grids_of (p.masses i) (p.x-velocities i) (p.y-velocities i))

sees-unique : {A : Type 0} {after : After A} {told told' : A} {left left' : List ℕ × Grids} → Sees after told left.0 left.1.mass left.1.x left.1.y → Sees after told' left'.0 left'.1.mass left'.1.x left'.1.y → (told ≡ told') × (left ≡ left')
sees-unique p q = (p.answer ∙ sym q.answer, sees-left p ∙ sym (sees-left q))

pub unique : (o : Operation) (a : Answer (Value o)) (told told' : Told o) (left left' : Left o) → By o a told left → By o a told' left' → (told ≡ told') × (left ≡ left')
unique (check_set nx ny records) a told told' left left' p q = (p ∙ sym q, refl)
unique (totals nx ny records) a told told' left left' p q = (p ∙ sym q, refl)
unique (scatter nx ny records g) a told told' left left' p q = leaves-unique p q
unique (adding_scatter nx ny records g) a told told' left left' p q = leaves-unique p q
unique (update s g) a told told' left left' p q = leaves-unique p q
unique (gather nx ny records ux uy) a told told' left left' p q = leaves-unique p q
unique (step s records g) a told told' left left' p q = sees-unique p q
unique (run s steps records g) a told told' left left' p q = sees-unique p q
unique (read_file bytes) a told told' left left' p q = (p ∙ sym q, refl)
unique (keep store name file) a told told' left left' p q = (p.0 ∙ sym q.0, p.1 ∙ sym q.1)

pub stopped : (o : Operation) (n k : ℕ) (told : Told o) (left : Left o) → By o (refused n k) told left → (told ≡ refused_with o n k) × (left ≡ held o)
stopped (check_set nx ny records) n k told left p = (p, refl)
stopped (totals nx ny records) n k told left p = (p, refl)
stopped (scatter nx ny records g) n k told left p = (p.answer, p.left_is)
stopped (adding_scatter nx ny records g) n k told left p = (p.answer, p.left_is)
stopped (update s g) n k told left p = (p.answer, p.left_is)
stopped (gather nx ny records ux uy) n k told left p = (p.answer, p.left_is)
stopped (step s records g) n k told left p = (p.answer, sees-left p)
stopped (run s steps records g) n k told left p = (p.answer, sees-left p)
stopped (read_file bytes) n k told left p = (p, refl)
stopped (keep store name file) n k told left p = p
