-- Both callers, for every operation.
--     every_call        there is an outcome
--     first-within      within a caller's limits the first checks answer as the bench's
--     first-or          else so, or 2 or 3
--     passed-within     and what they let in is within the limits
--     same_outcome, beyond-refused, page-or-bench, set-accepted, file-accepted
--                       the theorems
-- Assumes nothing.
use mathlib.Core.Path.{◌≡◌, refl, ap, subst, ◌∙◌}
use mathlib.Core.Logic.{◌⊎◌, inl, inr}
use Prim.Native.Nat.{ℕ}
use lib.ListN.{length}
use Rattle.refusal.specs.Refused.{Answer, gives, refused, and_then}
use Rattle.refusal.proofs.Answers.{went_on}
use Rattle.limits.specs.declared.Caller.{Caller}
use Rattle.limits.specs.declared.Caller.TheVariants.{Bench, Page}
use Rattle.particles.specs.Set.{set_answer}
use Rattle.particles.proofs.Checks.{bench-accepts}
use Rattle.settings.specs.Settings.{still}
use Rattle.simulation.specs.Step.{buffers_of}
use Rattle.bath_file.proofs.Callers.{within-file, file-within, bench-file}
use Rattle.store.proofs.Answers.{keep-passed}
use Rattle.callers.specs.Callers.{Operation, check_set, totals, scatter, adding_scatter, update, gather, step, run, read_file, keep, Told, Left, Promised, EveryCall, Within, SameOutcome, refused_with, held, Refused, BeyondRefused, Limited, PageOrBench, SetAccepted, FileAccepted}
use Rattle.callers.proofs.Entry.{Either, within-begin, begin-or, begun-within, within-entry, entry-or, entered-within, within-set, set-or, set-within, file-or, within-keep, keep-or}
use Rattle.callers.proofs.Promises.{Value, first_answer, By, as_by, of-by, unique, stopped}

-- the answer and the buffers that the promise names
pub every_call : EveryCall
every_call c (check_set nx ny records) = record { told = _; left = tt; promised = refl }
every_call c (totals nx ny records) = record { told = _; left = tt; promised = refl }
every_call c (scatter nx ny records g) = record { told = _; left = _; promised = record { answer = refl; left_is = refl } }
every_call c (adding_scatter nx ny records g) = record { told = _; left = _; promised = record { answer = refl; left_is = refl } }
every_call c (update s g) = record { told = _; left = _; promised = record { answer = refl; left_is = refl } }
every_call c (gather nx ny records ux uy) = record { told = _; left = _; promised = record { answer = refl; left_is = refl } }
every_call c (step s records g) =
    record { told = _; left = (_, _); promised = record { answer = refl; records = refl; masses = refl; x-velocities = refl; y-velocities = refl } }
every_call c (run s steps records g) =
    record { told = _; left = (_, _); promised = record { answer = refl; records = refl; masses = refl; x-velocities = refl; y-velocities = refl } }
every_call c (read_file bytes) = record { told = _; left = tt; promised = refl }
every_call c (keep store name file) = record { told = _; left = _; promised = record { answer = refl; store_is = refl } }

module _ (c : Caller) where
  first-within : (o : Operation) → Within c o → first_answer c o ≡ first_answer Bench o
  first-within (check_set nx ny records) w = within-set c nx ny records w
  first-within (totals nx ny records) w = within-set c nx ny records w
  first-within (scatter nx ny records g) w = within-entry c (still nx ny) _ 0 records w
  first-within (adding_scatter nx ny records g) w = within-entry c (still nx ny) _ 0 records w
  first-within (update s g) w = within-begin c s _ 0 0 w
  first-within (gather nx ny records ux uy) w = within-entry c (still nx ny) _ 0 records w
  first-within (step s records g) w = within-entry c s (buffers_of g) 0 records w
  first-within (run s steps records g) w = within-entry c s (buffers_of g) steps records w
  first-within (read_file bytes) w = within-file c bytes w
  first-within (keep store name file) w = within-keep c store name file (within-file c file w)

  first-or : (o : Operation) → Either (first_answer c o) (first_answer Bench o)
  first-or (check_set nx ny records) = set-or c nx ny records
  first-or (totals nx ny records) = set-or c nx ny records
  first-or (scatter nx ny records g) = entry-or c (still nx ny) _ 0 records
  first-or (adding_scatter nx ny records g) = entry-or c (still nx ny) _ 0 records
  first-or (update s g) = begin-or c s _ 0 0
  first-or (gather nx ny records ux uy) = entry-or c (still nx ny) _ 0 records
  first-or (step s records g) = entry-or c s (buffers_of g) 0 records
  first-or (run s steps records g) = entry-or c s (buffers_of g) steps records
  first-or (read_file bytes) = file-or c bytes
  first-or (keep store name file) = keep-or c store name file

  passed-within : (o : Operation) (v : Value o) → first_answer c o ≡ gives v → Within c o
  passed-within (check_set nx ny records) v e = set-within c nx ny records e
  passed-within (totals nx ny records) v e = set-within c nx ny records e
  passed-within (scatter nx ny records g) v e = entered-within c (still nx ny) _ 0 records e
  passed-within (adding_scatter nx ny records g) v e = entered-within c (still nx ny) _ 0 records e
  passed-within (update s g) v e = begun-within c s _ 0 0 e
  passed-within (gather nx ny records ux uy) v e = entered-within c (still nx ny) _ 0 records e
  passed-within (step s records g) v e = entered-within c s (buffers_of g) 0 records e
  passed-within (run s steps records g) v e = entered-within c s (buffers_of g) steps records e
  passed-within (read_file bytes) v e = file-within c bytes e
  passed-within (keep store name file) v e = file-within c file (keep-passed c store name file e).accepts

  -- the promise, where the first checks answer as the bench's
  bench-promised : (o : Operation) (told : Told o) (left : Left o) → first_answer c o ≡ first_answer Bench o → Promised c o told left → Promised Bench o told left
  bench-promised o told left e p = of-by Bench o told left (subst (λ a. By o a told left) e (as_by c o told left p))

pub same_outcome : SameOutcome
same_outcome o w page bench =
    let theirs = bench-promised Page o page.told page.left (first-within Page o w) page.promised in
    let u = unique o (first_answer Bench o) page.told bench.told page.left bench.left (as_by Bench o page.told page.left theirs) (as_by Bench o bench.told bench.left bench.promised) in
    record { told = u.0; left = u.1 }

pub beyond-refused : BeyondRefused
beyond-refused c o seen = go (first_answer c o) refl
  where
    go : (a : Answer (Value o)) → first_answer c o ≡ a → Within c o ⊎ Refused o seen.told seen.left
    go (gives v) e = inl (passed-within c o v e)
    go (refused n k) e =
        let s = stopped o n k seen.told seen.left (subst (λ a. By o a seen.told seen.left) e (as_by c o seen.told seen.left seen.promised)) in
        inr (record { number = n; place = k; told_is = s.0; unchanged = s.1 })

pub page-or-bench : PageOrBench
page-or-bench o page = go (first-or Page o)
  where
    refused-with : (n : ℕ) → first_answer Page o ≡ refused n 0 → (page.told ≡ refused_with o n 0) × (page.left ≡ held o)
    refused-with n e =
        stopped o n 0 page.told page.left (subst (λ a. By o a page.told page.left) e (as_by Page o page.told page.left page.promised))

    go : Either (first_answer Page o) (first_answer Bench o) → Promised Bench o page.told page.left ⊎ Limited o page.told page.left
    go (inl e) = inl (bench-promised Page o page.told page.left e page.promised)
    go (inr (inl e)) = let s = refused-with 2 e in inr (record { number = inl s.0; unchanged = s.1 })
    go (inr (inr e)) = let s = refused-with 3 e in inr (record { number = inr s.0; unchanged = s.1 })

-- ---- what the page accepts

pub set-accepted : SetAccepted
set-accepted nx ny records n e =
    let w = went_on (set_answer Page nx ny records) (λ ps. gives (length ps)) e in
    ap (λ a. and_then a (λ ps. gives (length ps))) (bench-accepts Page nx ny records w.1) ∙ w.2

pub file-accepted : FileAccepted
file-accepted bytes h e = bench-file Page bytes e
