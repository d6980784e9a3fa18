-- Reading and writing by a layout, whatever its table.
--     CanHold                      the field of a name can hold this integer
--     filled-length, filled-small  the bytes of a layout: their number, and each below 256
--     Proper                       the fields fill the bytes, and each name has one of them, `field_of`
--     parts-filled                 parts that are put into the fields are the fields' parts
--     held-holds                   what a field holds it can hold
--     packed-held                  the integers that the fields hold, packed again, are the bytes
--     held-packed                  integers that the fields can hold, packed, are what the fields then hold
-- Assumes nothing.
use Prim.Native.Nat.{ℕ, ◌+◌, ◌-◌, ◌*◌, ◌^◌, ◌<◌, ◌≤◌}
use native.Mathlib.Nat.{mod-eq_of_lt}
use native.Mathlib.Omega.{arith}
use mathlib.Core.Path.{◌≡◌, refl, sym, ap, ap₂, subst, ◌∙◌}
use mathlib.Core.Bool.{Bool, true, false, not, cond, ◌&&◌}
use mathlib.Core.List.{List, [], ◌∷◌, map}
use borrow.Author.Tests.{eq-eqb}
use lib.Dec.{T, leb, eqb, leb→le}
use lib.IntN.{ℤ, pos, negsuc}
use lib.ListN.{length, get_or, length-replicate}
use lib.Pow.{pow-add}
use lib.Signed.{mag}
use Rattle.bits.specs.Bits.{total, cut, join, twos_complement, residue}
use Rattle.bits.specs.Internal.{Below}
use Rattle.bits.specs.Layout.{Sign, unsigned, signed, decoded, encoded, Field, field, Layout, widths, byte_widths, parts_in, filled, is, value_of, held_by, parts_of, packed_by}
use Rattle.bits.proofs.Parts.{join-cut, join-lt, cut-join, cut_below, cut-length, below-bytes}
use Rattle.bits.proofs.Bytes.{total-bytes}
use Rattle.bits.proofs.TwosComplement.{decoded-residue, residue-decoded, residue-lt, decoded-mag}

-- ---- one field

abbrev Holds : Sign → ℕ → ℤ → Type 0
Holds unsigned w (pos n) = n < 2 ^ w
Holds unsigned w (negsuc n) = ⊥
Holds signed w z = mag z < 2 ^ (w - 1)

twice : (w : ℕ) → 1 ≤ w → 2 ^ (w - 1) + 2 ^ (w - 1) ≡ 2 ^ w
twice w h =
    let e : 2 ^ w ≡ 2 ^ (w - 1) * 2 ^ 1 = ap (λ t. 2 ^ t) {x = w} {y = w - 1 + 1} (omega arith) ∙ pow-add 2 (w - 1) 1 in
    omega (arith, e)

encoded-below : (s : Sign) (w : ℕ) (z : ℤ) → 1 ≤ w → Holds s w z → encoded w z < 2 ^ w
encoded-below unsigned w (pos n) some h = h
encoded-below unsigned w (negsuc n) some h = absurd h
encoded-below signed w z some h = residue-lt (2 ^ w) z (omega (arith, h, twice w some))

decoded-encoded : (s : Sign) (w : ℕ) (z : ℤ) → 1 ≤ w → Holds s w z → decoded s w (encoded w z) ≡ z
decoded-encoded unsigned w (pos n) some h = refl
decoded-encoded unsigned w (negsuc n) some h = absurd h
decoded-encoded signed w z some h =
    ap (λ t. twos_complement (2 ^ (w - 1)) (residue t z)) (sym (twice w some)) ∙ decoded-residue (2 ^ (w - 1)) z h

encoded-decoded : (s : Sign) (w d : ℕ) → 1 ≤ w → d < 2 ^ w → encoded w (decoded s w d) ≡ d
encoded-decoded unsigned w d some h = refl
encoded-decoded signed w d some h =
    ap (λ t. residue t (twos_complement (2 ^ (w - 1)) d)) (sym (twice w some)) ∙ residue-decoded (2 ^ (w - 1)) d (omega (arith, twice w some))

decoded-holds : (s : Sign) (w d : ℕ) → 1 ≤ w → d < 2 ^ w → Holds s w (decoded s w d)
decoded-holds unsigned w d some h = h
decoded-holds signed w d some h = decoded-mag (2 ^ (w - 1)) d (omega (arith, twice w some))

-- ---- a table of fields

and_both : (a b : Bool) → T (a && b) → T a × T b
and_both true b h = (tt, h)
and_both false b h = absurd h

cond_no : {X : Type 0} (b : Bool) (x y : X) → T (not b) → cond b x y ≡ y
cond_no true x y h = absurd h
cond_no false x y h = refl

module _ {Name : Type 0} where
  -- no name of the fields passes the test
  abbrev fresh : (Name → Bool) → List (Field Name) → Bool
  fresh test [] = true
  fresh test (f ∷ fs) = not (test f.name) && fresh test fs

  abbrev pub distinct : (Name → Name → Bool) → List (Field Name) → Bool
  distinct same [] = true
  distinct same (f ∷ fs) = leb 1 f.bits && (fresh (λ a. same a f.name) fs && distinct same fs)

  module _ {X : Type 0} where
    -- what stands beside the first field whose name passes a test
    abbrev lookup : (Name → Bool) → X → List (Field Name) → List X → X
    lookup test x [] ys = x
    lookup test x (f ∷ fs) [] = x
    lookup test x (f ∷ fs) (y ∷ ys) = cond (test f.name) y (lookup test x fs ys)

    -- for each field's name this is what stands beside it
    abbrev Gives : (Name → X) → List (Field Name) → List X → Type 0
    Gives u [] ys = Unit
    Gives u (f ∷ fs) [] = Unit
    Gives u (f ∷ fs) (y ∷ ys) = (u f.name ≡ y) × Gives u fs ys

    gives_same : (u v : Name → X) → ((a : Name) → u a ≡ v a) → (fs : List (Field Name)) (ys : List X) → Gives v fs ys → Gives u fs ys
    gives_same u v e [] ys h = tt
    gives_same u v e (f ∷ fs) [] h = tt
    gives_same u v e (f ∷ fs) (y ∷ ys) h = (e f.name ∙ h.0, gives_same u v e fs ys h.1)

    -- a field in front, of another name, changes nothing
    gives-behind : (test : Name → Bool) (x : X) (u : Name → X) (fs : List (Field Name)) (ys : List X) → T (fresh test fs) → Gives u fs ys → Gives (λ a. cond (test a) x (u a)) fs ys
    gives-behind test x u [] ys t h = tt
    gives-behind test x u (f ∷ fs) [] t h = tt
    gives-behind test x u (f ∷ fs) (y ∷ ys) t h =
        let b = and_both (not (test f.name)) (fresh test fs) t in
        (cond_no (test f.name) x (u f.name) b.0 ∙ h.0, gives-behind test x u fs ys b.1 h.1)

    lookup-gives : (code : Name → ℕ) (x : Name → X) (fs : List (Field Name)) (ys : List X) → T (distinct (λ a b. eqb (code a) (code b)) fs) → Gives (λ a. lookup (λ b. eqb (code a) (code b)) (x a) fs ys) fs ys
    lookup-gives code x [] ys t = tt
    lookup-gives code x (f ∷ fs) [] t = tt
    lookup-gives code x (f ∷ fs) (y ∷ ys) t =
        let test : Name → Bool = λ a. eqb (code a) (code f.name) in
        let b = and_both (fresh test fs) _ (and_both (leb 1 f.bits) _ t).1 in
        (rw (eq-eqb (code f.name) (code f.name) refl), gives-behind test y (λ a. lookup (λ b. eqb (code a) (code b)) (x a) fs ys) fs ys b.0 (lookup-gives code x fs ys b.1))

  -- ---- read, then written

  abbrev decoded_all : List (Field Name) → List ℕ → List ℤ
  decoded_all [] ds = []
  decoded_all (f ∷ fs) [] = []
  decoded_all (f ∷ fs) (d ∷ ds) = decoded f.sign f.bits d ∷ decoded_all fs ds

  value-lookup : (test : Name → Bool) (fs : List (Field Name)) (ds : List ℕ) → value_of test fs ds ≡ lookup test (pos 0) fs (decoded_all fs ds)
  value-lookup test [] ds = refl
  value-lookup test (f ∷ fs) [] = refl
  value-lookup test (f ∷ fs) (d ∷ ds) = ap (cond (test f.name) (decoded f.sign f.bits d)) (value-lookup test fs ds)

  parts_again : (same : Name → Name → Bool) (value : Name → ℤ) (fs : List (Field Name)) (ds : List ℕ) → T (distinct same fs) → Below (map (λ f. f.bits) fs) ds → Gives value fs (decoded_all fs ds) → map (λ f. encoded f.bits (value f.name)) fs ≡ ds
  parts_again same value [] [] t b h = refl
  parts_again same value [] (d ∷ ds) t b h = absurd b
  parts_again same value (f ∷ fs) [] t b h = absurd b
  parts_again same value (f ∷ fs) (d ∷ ds) t b h =
      let some = and_both (leb 1 f.bits) _ t in
      let rest = and_both (fresh (λ a. same a f.name) fs) _ some.1 in
      ap₂ (λ x xs. x ∷ xs)
      (ap (encoded f.bits) h.0 ∙ encoded-decoded f.sign f.bits d (leb→le 1 f.bits some.0) b.0)
      (parts_again same value fs ds rest.1 b.1 h.1)

  -- the field of a name, of no bit where there is none
  abbrev found : (Name → Bool) → Name → List (Field Name) → Field Name
  found test a fs = lookup test (field a 0 unsigned) fs fs

  value-holds : (same : Name → Name → Bool) (test : Name → Bool) (a : Name) (fs : List (Field Name)) (ds : List ℕ) → T (distinct same fs) → Below (map (λ f. f.bits) fs) ds → Holds (found test a fs).sign (found test a fs).bits (value_of test fs ds)
  value-holds same test a [] ds t b = omega arith
  value-holds same test a (f ∷ fs) [] t b = absurd b
  value-holds same test a (f ∷ fs) (d ∷ ds) t b =
      let some = and_both (leb 1 f.bits) _ t in
      let rest = and_both (fresh (λ a. same a f.name) fs) _ some.1 in
      by (test f.name) (found test a fs) (decoded f.sign f.bits d) (value_of test fs ds) (decoded-holds f.sign f.bits d (leb→le 1 f.bits some.0) b.0) (value-holds same test a fs ds rest.1 b.1)
    where
      by : (c : Bool) (g : Field Name) (y z : ℤ) → Holds f.sign f.bits y → Holds g.sign g.bits z → Holds (cond c f g).sign (cond c f g).bits (cond c y z)
      by true g y z h k = h
      by false g y z h k = k

  -- ---- written, then read

  module _ (value : Name → ℤ) where
    abbrev HeldIn : Field Name → Name → Type 0
    HeldIn f a = Holds f.sign f.bits (value a)

    below_all : (same : Name → Name → Bool) (look : Name → Field Name) → ((a : Name) → HeldIn (look a) a) → (fs : List (Field Name)) → T (distinct same fs) → Gives look fs fs → Below (map (λ f. f.bits) fs) (map (λ f. encoded f.bits (value f.name)) fs)
    below_all same look h [] t g = tt
    below_all same look h (f ∷ fs) t g =
        let some = and_both (leb 1 f.bits) _ t in
        let rest = and_both (fresh (λ a. same a f.name) fs) _ some.1 in (
          encoded-below f.sign f.bits (value f.name) (leb→le 1 f.bits some.0) (subst (λ e. HeldIn e f.name) g.0 (h f.name)),
          below_all same look h fs rest.1 g.1,
        )

    none : (z : ℤ) → Holds unsigned 0 z → pos 0 ≡ z
    none (pos n) h = ap pos (omega arith)
    none (negsuc n) h = absurd h

    value-again : (same : Name → Name → Bool) (test : Name → Bool) (a : Name) (fs : List (Field Name)) → T (distinct same fs) → HeldIn (found test a fs) a → (found test a fs).name ≡ a → value_of test fs (map (λ f. encoded f.bits (value f.name)) fs) ≡ value a
    value-again same test a [] t h e = none (value a) h
    value-again same test a (f ∷ fs) t h e =
        let some = and_both (leb 1 f.bits) _ t in
        let rest = and_both (fresh (λ a. same a f.name) fs) _ some.1 in
        by (test f.name) (found test a fs) (leb→le 1 f.bits some.0) (value-again same test a fs rest.1) h e
      where
        by : (b : Bool) (rest : Field Name) {z : ℤ} → 1 ≤ f.bits → (HeldIn rest a → rest.name ≡ a → z ≡ value a) → HeldIn (cond b f rest) a → (cond b f rest).name ≡ a → cond b (decoded f.sign f.bits (encoded f.bits (value f.name))) z ≡ value a
        by true rest some again h e = decoded-encoded f.sign f.bits (value f.name) some (subst (HeldIn f) (sym e) h) ∙ ap value e
        by false rest some again h e = again h e

-- ---- a layout

-- the field of a name, and whether it can hold an integer
abbrev pub field_of : {Name : Type 0} → Layout Name → Name → Field Name
field_of l a = found (is l a) a l.fields

abbrev pub CanHold : {Name : Type 0} → Layout Name → Name → ℤ → Type 0
CanHold l a z = Holds (field_of l a).sign (field_of l a).bits z

module _ {Name : Type 0} (l : Layout Name) where
  pub filled-length : (parts : List ℕ) → length (filled l parts) ≡ l.size
  filled-length parts = cut-length (byte_widths l) (join (widths l) parts) ∙ length-replicate l.size 8

  pub filled-small : (parts : List ℕ) (k : ℕ) → get_or (filled l parts) k 0 < 256
  filled-small parts k = below-bytes l.size (filled l parts) (cut_below (byte_widths l) (join (widths l) parts)) k

-- the fields fill the bytes, and each name has one of them
pub record Proper {Name : Type 0} (l : Layout Name) : Type 0 where
  pub whole : total (widths l) ≡ 8 * l.size
  pub distinct-names : T (distinct (is l) l.fields)
  pub each-named : (a : Name) → (field_of l a).name ≡ a

module _ {Name : Type 0} {l : Layout Name} (proper : Proper l) where
  pub parts-filled : (parts : List ℕ) → Below (widths l) parts → parts_in l (filled l parts) ≡ parts
  parts-filled parts b =
      let n = join (widths l) parts in
      let n-lt : n < 2 ^ total (byte_widths l) = subst (λ t. n < 2 ^ t) (proper.whole ∙ sym (total-bytes l.size)) (join-lt (widths l) parts b) in
      ap (cut (widths l)) (join-cut (byte_widths l) n ∙ mod-eq_of_lt n-lt) ∙ cut-join (widths l) parts b

  pub packed-held : (bytes : List ℕ) (value : Name → ℤ) → Below (byte_widths l) bytes → ((a : Name) → value a ≡ held_by l a bytes) → packed_by l value ≡ bytes
  packed-held bytes value b held =
      let n = join (byte_widths l) bytes in
      let n-lt : n < 2 ^ total (widths l) = subst (λ t. n < 2 ^ t) (total-bytes l.size ∙ sym proper.whole) (join-lt (byte_widths l) bytes b) in
      let values = decoded_all l.fields (parts_in l bytes) in
      let gives : Gives value l.fields values =
      gives_same value (λ a. lookup (is l a) (pos 0) l.fields values) (λ a. held a ∙ value-lookup (is l a) l.fields (parts_in l bytes)) l.fields values
      (lookup-gives l.code (λ a. pos 0) l.fields values proper.distinct-names) in
      ap (filled l) (parts_again (is l) value l.fields (parts_in l bytes) proper.distinct-names (cut_below (widths l) n) gives)
      ∙ ap (cut (byte_widths l)) (join-cut (widths l) n ∙ mod-eq_of_lt n-lt)
      ∙ cut-join (byte_widths l) bytes b

  pub held-holds : (bytes : List ℕ) (a : Name) → CanHold l a (held_by l a bytes)
  held-holds bytes a = value-holds (is l) (is l a) a l.fields (parts_in l bytes) proper.distinct-names (cut_below (widths l) (join (byte_widths l) bytes))

  module _ (value : Name → ℤ) (holds : (a : Name) → CanHold l a (value a)) where
    parts_below : Below (widths l) (parts_of l value)
    parts_below =
        below_all value (is l) (field_of l) holds l.fields proper.distinct-names
        (lookup-gives l.code (λ a. field a 0 unsigned) l.fields l.fields proper.distinct-names)

    pub held-packed : (a : Name) → held_by l a (packed_by l value) ≡ value a
    held-packed a =
        ap (value_of (is l a) l.fields) (parts-filled (parts_of l value) parts_below)
        ∙ value-again value (is l) (is l a) a l.fields proper.distinct-names (holds a) (proper.each-named a)
