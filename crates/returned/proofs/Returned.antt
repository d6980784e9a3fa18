-- What follows a return: `from-return`. The store stays of its form through every call, what it holds is an accepted file, and so the
-- records behind the file's header are a start of demand 3. Assumes nothing.
use mathlib.Core.Path.{◌≡◌, refl, sym, ap, subst, ◌∙◌}
use mathlib.Core.Bool.{true, false, not, false≢true}
use mathlib.Core.List.{List, [], ◌∷◌}
use Prim.Native.Nat.{ℕ}
use lib.ListN.{length}
use borrow.Author.Tests.{not-true}
use Rattle.refusal.specs.Refused.{Answer, gives, refused, and_then, either, accepted}
use Rattle.bath_file.proofs.Records.{file-held}
use Rattle.store.specs.Form.{valid_store}
use Rattle.store.specs.Operations.{return_answer}
use Rattle.store.specs.Calls.{StoreCall, keep, return, forget}
use Rattle.limits.proofs.Within.{both}
use Rattle.limits.specs.declared.Caller.TheVariants.{Bench}
use Rattle.store.proofs.Calls.{every_call, Returns, return-passed}
use Rattle.particles.specs.Set.{particles_in}
use Rattle.simulation.specs.Demand3.{Accepted, leaves_all, completes_all, completed_steps, Keeps}
use Rattle.simulation.proofs.Conserved.{demand-3}
use Rattle.returned.specs.Returned.{Lent, MixedCall, on_store, on_records, records_in, records_after, after, after_all, returns, no_return, motions, returned_to, FromReturn}

-- ---- the form

kept-after : (c : MixedCall) (l : Lent) → valid_store l.store ≡ true → valid_store (after c l).store ≡ true
kept-after (on_store c) l v = (every_call l.store v c).form
kept-after (on_records c) l v = v

kept-all : (calls : List MixedCall) (l : Lent) → valid_store l.store ≡ true → valid_store (after_all calls l).store ≡ true
unfolding after_all
kept-all [] l v = v
kept-all (c ∷ cs) l v = kept-all cs (after c l) (kept-after c l v)

-- ---- the records, where no return replaces them

not-replaced : (c : StoreCall) (l : Lent) → returns (on_store c) l ≡ false → records_after c l ≡ l.records
not-replaced (keep caller name file) l n = refl
not-replaced (return name buffer) l n = go (return_answer l.store name buffer) n
  where
    go : (a : Answer (List ℕ)) → accepted a ≡ false → either a records_in (λ n k. l.records) ≡ l.records
    go (gives file) e = absurd (false≢true (sym e))
    go (refused n k) e = refl
not-replaced (forget name) l n = refl

moved : (calls : List MixedCall) (l : Lent) → no_return calls l ≡ true → (after_all calls l).records ≡ leaves_all (motions calls) l.records
unfolding after_all no_return motions leaves_all
moved [] l n = refl
moved (on_store c ∷ cs) l n =
    let t = both (not (returns (on_store c) l)) (no_return cs (after (on_store c) l)) n in
    moved cs (after (on_store c) l) t.1 ∙ ap (leaves_all (motions cs)) (not-replaced c l (not-true (returns (on_store c) l) t.0))
moved (on_records c ∷ cs) l n = moved cs (after (on_records c) l) (both true (no_return cs (after (on_records c) l)) n).1

-- ---- the bath returned to is an accepted start

start_of : (store name file : List ℕ) → Returns store name file → Accepted (records_in file)
start_of store name file r =
    let f = file-held Bench file r.header r.accepts in
    record {
      nx = r.header.nx;
      ny = r.header.ny;
      count = length f.particles;
      accepts = ap (λ a. and_then a (λ ps. gives (length ps))) f.set;
    }

pub from-return : FromReturn
from-return l name buffer file calls e n =
    let r = return-passed l.store name buffer e in
    let moves = motions calls in
    let bath = records_in file in
    let is = moved calls (returned_to l name buffer) n ∙ ap (leaves_all moves) (ap (λ a. either a records_in (λ n k. l.records)) e) in
    let demand = demand-3 bath (start_of l.store name file r) moves in
    record {
      held = r.held;
      records = is;
      conserves = demand;
      kept = subst (λ left. Keeps (completes_all moves bath) (completed_steps moves bath) (particles_in bath) (particles_in left)) (sym is) demand.whole;
      form = kept-all calls (returned_to l name buffer) r.form;
    }
