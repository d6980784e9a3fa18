-- The loop of the walk over a set, turn by turn: what is left of the walk, added to what is done, is the whole.
--     Nothing      the totals that the walk begins with
--     Walking      the loop's invariant, with a law for each way on
-- Assumes nothing.
use mathlib.Core.Path.{◌≡◌, refl, sym, ap, ◌∙◌, subst}
use mathlib.Core.List.{List, [], ◌∷◌}
use Prim.Native.Nat.{ℕ, ◌+◌, ◌≤◌, ◌<◌}
use lib.Dec.{lit≤}
use lib.IntN.{pos, +ℤ_idl, +ℤ_idr, +ℤ_assoc}
use Rattle.refusal.specs.Refused.{Answer, gives, refused, refused_by, and_then}
use Rattle.refusal.specs.declared.Refusal.{Refusal}
use Rattle.particle.specs.declared.Particle.{Particle}
use Rattle.particles.specs.declared.Entry.{Entry}
use Rattle.particles.specs.Set.{set_of}
use Rattle.particles.proofs.Turns.{Carried, folded, rest, Left, left-start, left-next, left-refused, left_end}
use Rattle.totals.specs.declared.Totals.{Totals}
use Rattle.totals_set.specs.declared.Progress.{Progress}
use Rattle.totals.specs.Totals.{totals_of}
use Rattle.totals.specs.Share.{share, plus}
use Rattle.totals_set.specs.Walk.{Small, advanced, next_record, walked}

abbrev walking : Carried Progress Totals
walking =
    record {
      entry = λ s. s.entry;
      add = advanced;
      close = λ s. s.totals;
      kept = λ s q. refl;
    }

plus_assoc : (a b c : Totals) → plus (plus a b) c ≡ plus a (plus b c)
plus_assoc a b c =
    λ i.
    record {
      mass = +ℤ_assoc a.mass b.mass c.mass i;
      px = +ℤ_assoc a.px b.px c.px i;
      py = +ℤ_assoc a.py b.py c.py i;
      spin = +ℤ_assoc a.spin b.spin c.spin i;
      motion = +ℤ_assoc a.motion b.motion c.motion i;
      marks = +ℤ_assoc a.marks b.marks c.marks i;
    }

abbrev none : Totals
none = record { mass = pos 0; px = pos 0; py = pos 0; spin = pos 0; motion = pos 0; marks = pos 0 }

-- each sum is 0, as the derived default says
abbrev pub Nothing : Totals → Type 0
Nothing t = (t.mass ≡ pos 0) × ((t.px ≡ pos 0) × ((t.py ≡ pos 0) × ((t.spin ≡ pos 0) × ((t.motion ≡ pos 0) × (t.marks ≡ pos 0)))))

nothing-is : {t : Totals} → Nothing t → t ≡ none
nothing-is (mass, (px, (py, (spin, (motion, marks))))) =
    λ i. record { mass = mass i; px = px i; py = py i; spin = spin i; motion = motion i; marks = marks i }

plus_none : (t : Totals) → plus t none ≡ t
plus_none t =
    λ i.
    record {
      mass = +ℤ_idr t.mass i;
      px = +ℤ_idr t.px i;
      py = +ℤ_idr t.py i;
      spin = +ℤ_idr t.spin i;
      motion = +ℤ_idr t.motion i;
      marks = +ℤ_idr t.marks i;
    }

none-plus : (t : Totals) → plus none t ≡ t
none-plus t =
    λ i.
    record {
      mass = +ℤ_idl t.mass i;
      px = +ℤ_idl t.px i;
      py = +ℤ_idl t.py i;
      spin = +ℤ_idl t.spin i;
      motion = +ℤ_idl t.motion i;
      marks = +ℤ_idl t.marks i;
    }

sums-are : (s : Progress) (ps : List Particle) → (folded walking s ps).totals ≡ plus s.totals (totals_of ps)
unfolding folded
sums-are s [] = sym (plus_none s.totals)
sums-are s (p ∷ ps) = sums-are (advanced s p) ps ∙ plus_assoc s.totals (share p) (totals_of ps)

abbrev start-of-check : Entry
start-of-check = record { least = 0; mass = 0 }

abbrev start-of-walk : Progress
start-of-walk = record { entry = start-of-check; totals = none }

pub record Walking (nx ny start : ℕ) (bytes : List ℕ) (count : ℕ) (s : Progress) (k : ℕ) : Type 0 where
  pub small : Small k s
  pub left : Left walking nx ny start bytes count (walked nx ny start bytes count) s k

module _ (nx ny start : ℕ) (bytes : List ℕ) (count : ℕ) where
  walks-all : rest walking nx ny start bytes count 0 start-of-walk ≡ walked nx ny start bytes count
  unfolding rest
  walks-all = go (set_of nx ny start bytes count)
    where
      go : (a : Answer (List Particle)) → and_then a (λ ps. gives (folded walking start-of-walk ps).totals) ≡ and_then a (λ ps. gives (totals_of ps))
      go (gives ps) = ap gives (sums-are start-of-walk ps ∙ none-plus (totals_of ps))
      go (refused n j) = refl

module _ {nx ny start : ℕ} {bytes : List ℕ} {count : ℕ} where
  pub walking_start : {t : Totals} → Nothing t → Walking nx ny start bytes count (record { entry = start-of-check; totals = t }) 0
  walking_start z =
      subst (λ t. Walking nx ny start bytes count (record { entry = start-of-check; totals = t }) 0) (sym (nothing-is z))
      (record {
        small =
            record {
              light = lit≤ tt;
              sums = record { mass = lit≤ tt; px = lit≤ tt; py = lit≤ tt; spin = lit≤ tt; motion = lit≤ tt; marks = lit≤ tt };
            };
        left = left-start walking nx ny start bytes count (walked nx ny start bytes count) start-of-walk (walks-all nx ny start bytes count);
      })

  pub walking-next : {s : Progress} {k : ℕ} (t : Progress) → Walking nx ny start bytes count s k → k < count → gives t ≡ next_record nx ny start bytes k s → Small (k + 1) t → Walking nx ny start bytes count t (k + 1)
  walking-next {s} {k} t w h answer small =
      record {
        small = small;
        left = left-next walking nx ny start bytes count (walked nx ny start bytes count) s k t w.left h (sym answer);
      }

  pub walking-refused : {s : Progress} {k : ℕ} (f : Refusal) → Walking nx ny start bytes count s k → k < count → refused_by f ≡ next_record nx ny start bytes k s → refused_by f ≡ walked nx ny start bytes count
  walking-refused {s} {k} f w h answer =
      left-refused walking nx ny start bytes count (walked nx ny start bytes count) s k w.left h (sym answer)

  pub walking-end : {s : Progress} {k : ℕ} → Walking nx ny start bytes count s k → count ≤ k → gives s.totals ≡ walked nx ny start bytes count
  walking-end {s} {k} w h = left_end walking nx ny start bytes count (walked nx ny start bytes count) s k w.left h
