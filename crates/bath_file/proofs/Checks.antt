-- The checks of a header's values, as facts, whatever comes after them.
--     Valid                       every value of a header is within a caller's limits
--     bench-valid                 and so within the bench's
--     EdgeLimits, edge-limits     the kind and the width of a valid edge
--     header-checked              the answer, by what each check finds
--     valid, passes               a header passes its checks where it is valid, and only there
--     refuses                     a header that is refused is refused alike before any rest
-- Assumes nothing.
use Prim.Native.Nat.{ℕ, zero, suc, ◌≤◌}
use native.Mathlib.Nat.{le_trans}
use native.Mathlib.Omega.{arith}
use mathlib.Core.Path.{◌≡◌, sym}
use mathlib.Core.Bool.{Bool, true, false, not, ◌&&◌, true≢false}
use lib.Dec.{ltb, leb}
use lib.IntN.{nat_abs}
use borrow.Author.Tests.{not-false, leb-true, ltb-false, le-ltb}
use Rattle.refusal.specs.Refused.{Answer, gives, refused, refuse_if}
use Rattle.refusal.proofs.Answers.{passed, same-refusal, not-refused}
use Rattle.limits.specs.declared.Caller.{Caller}
use Rattle.limits.specs.declared.Caller.TheVariants.{Bench}
use Rattle.limits.specs.Limits.{least_width, most_gravity, most_steps, most_width, most_drag, most_side_of, most_records_of, valid_gravity, valid_width}
use Rattle.limits.proofs.Callers.{records-most}
use Rattle.limits.proofs.Within.{both, two-within, two-within-back}
use Rattle.particles.specs.Set.{valid_size}
use Rattle.particles.proofs.Checks.{bench-size}
use Rattle.settings.specs.Settings.{edge_of, valid_edge}
use Rattle.bath_file.specs.declared.Header.{Header}
use Rattle.bath_file.specs.File.{checked_header}

pub record Valid (caller : Caller) (h : Header) : Type 0 where
  pub size : valid_size (most_side_of caller) h.nx h.ny ≡ true
  pub gx-to : nat_abs h.gx ≤ most_gravity
  pub gy-to : nat_abs h.gy ≤ most_gravity
  pub edge : valid_edge (edge_of h.kind h.width) ≡ true
  pub drag-to : h.drag ≤ most_drag
  pub count-to : h.count ≤ most_records_of caller
  pub steps-to : h.steps ≤ most_steps

pub bench-valid : (c : Caller) (h : Header) → Valid c h → Valid Bench h
bench-valid c h v =
    record {
      size = bench-size c h.nx h.ny v.size;
      gx-to = v.gx-to;
      gy-to = v.gy-to;
      edge = v.edge;
      drag-to = v.drag-to;
      count-to = le_trans v.count-to (records-most c);
      steps-to = v.steps-to;
    }

most-width : (w : ℕ) → valid_width w ≡ true → w ≤ most_width
most-width w e = leb-true w most_width (both (leb least_width w) (leb w most_width) e).1

pub record EdgeLimits (kind width : ℕ) : Type 0 where
  pub kind-to : kind ≤ 2
  pub width-to : width ≤ most_width

pub edge-limits : (kind width : ℕ) → valid_edge (edge_of kind width) ≡ true → EdgeLimits kind width
edge-limits zero zero e = record { kind-to = omega arith; width-to = omega arith }
edge-limits zero (suc w) e = absurd (true≢false (sym e))
edge-limits (suc zero) w e = record { kind-to = omega arith; width-to = most-width w e }
edge-limits (suc (suc zero)) w e = record { kind-to = omega arith; width-to = most-width w e }
edge-limits (suc (suc (suc k))) w e = absurd (true≢false (sym e))

-- the checks in their order: size, gravity, edge, drag, count, steps
abbrev pub checked : {A : Type 0} → Bool → Bool → Bool → Bool → Bool → Bool → Answer A → Answer A
checked s g e d c t rest =
    refuse_if (not s) 2 0
    (refuse_if (not g) 10 0
    (refuse_if (not e) 18 0
    (refuse_if d 19 0
    (refuse_if c 3 0
    (refuse_if t 17 0
    rest)))))

module _ (caller : Caller) (h : Header) where
  abbrev gravity : Bool
  gravity = valid_gravity h.gx && valid_gravity h.gy

  abbrev edge : Bool
  edge = valid_edge (edge_of h.kind h.width)

  pub valid : {A : Type 0} (rest : Answer A) {b : A} → checked_header caller h rest ≡ gives b → Valid caller h × (rest ≡ gives b)
  unfolding checked_header
  valid rest a =
      let s = passed (not (valid_size (most_side_of caller) h.nx h.ny)) 2 0 _ a in
      let g = passed (not gravity) 10 0 _ s.1 in
      let e = passed (not edge) 18 0 _ g.1 in
      let d = passed (ltb most_drag h.drag) 19 0 _ e.1 in
      let c = passed (ltb (most_records_of caller) h.count) 3 0 _ d.1 in
      let t = passed (ltb most_steps h.steps) 17 0 _ c.1 in
      let w = two-within most_gravity h.gx h.gy (not-false gravity g.0) in (
        record {
          size = not-false (valid_size (most_side_of caller) h.nx h.ny) s.0;
          gx-to = w.0;
          gy-to = w.1;
          edge = not-false edge e.0;
          drag-to = ltb-false most_drag h.drag d.0;
          count-to = ltb-false (most_records_of caller) h.count c.0;
          steps-to = ltb-false most_steps h.steps t.0;
        },
        t.1,
      )

  pub header-checked :
      {A : Type 0} (rest : Answer A) {s g e d c t : Bool} →
      valid_size (most_side_of caller) h.nx h.ny ≡ s →
      gravity ≡ g →
      edge ≡ e →
      ltb most_drag h.drag ≡ d →
      ltb (most_records_of caller) h.count ≡ c →
      ltb most_steps h.steps ≡ t →
      checked_header caller h rest ≡ checked s g e d c t rest
  unfolding checked_header
  header-checked rest s g e d c t = λ i. checked (s i) (g i) (e i) (d i) (c i) (t i) rest

  pub passes : {A : Type 0} (rest : Answer A) → Valid caller h → checked_header caller h rest ≡ rest
  passes rest v =
      header-checked rest
      v.size
      (two-within-back most_gravity h.gx h.gy v.gx-to v.gy-to)
      v.edge
      (le-ltb most_drag h.drag v.drag-to)
      (le-ltb (most_records_of caller) h.count v.count-to)
      (le-ltb most_steps h.steps v.steps-to)

  pub refuses : {A B : Type 0} (a : A) (rest : Answer B) {n k : ℕ} → checked_header caller h (gives a) ≡ refused n k → checked_header caller h rest ≡ refused n k
  unfolding checked_header
  refuses a rest q = each (valid_size (most_side_of caller) h.nx h.ny) gravity edge (ltb most_drag h.drag) (ltb (most_records_of caller) h.count) (ltb most_steps h.steps) q
    where
      each : (s g e d c t : Bool) {n k : ℕ} → checked s g e d c t (gives a) ≡ refused n k → checked s g e d c t rest ≡ refused n k
      each false g e d c t q = same-refusal q
      each true false e d c t q = same-refusal q
      each true true false d c t q = same-refusal q
      each true true true true c t q = same-refusal q
      each true true true false true t q = same-refusal q
      each true true true false false true q = same-refusal q
      each true true true false false false q = not-refused q
