-- An accepted file is its header, and then the records of a set that breaks no limit.
--     FileHeld, file-held   what a file that a caller accepts says: the bytes behind the header are a set that the caller accepts,
--                           as many records as the header counts
--     file-bytes            such a file is the header's bytes, and then the records of the set's particles
--     file-accepted         and every such file is accepted
-- Assumes nothing.
use Prim.Native.Nat.{ℕ, zero, suc, ◌+◌, ◌*◌, ◌/◌, ◌%◌, ◌≤◌, ◌<◌}
use native.Mathlib.Nat.{zero-add, le_trans}
use native.Mathlib.Omega.{arith}
use mathlib.Core.Path.{◌≡◌, refl, sym, ap, ap₂, subst, ◌∙◌}
use mathlib.Core.Bool.{true, false}
use mathlib.Core.List.{List, ◌∷◌, ◌++◌}
use borrow.Author.Tests.{eq-eqb, le-leb, le-ltb}
use lib.ListN.{length, get_or, take, drop, length-append, length-drop, take-append-drop}
use lib.Seq.{drop-drop, drop_at, get_or-drop}
use Rattle.refusal.specs.Refused.{gives, and_then}
use Rattle.refusal.proofs.Answers.{went_on, same-result}
use Rattle.apic.specs.Limits.{SetLimits}
use Rattle.limits.specs.declared.Caller.{Caller}
use Rattle.limits.specs.declared.Caller.TheVariants.{Bench}
use Rattle.limits.specs.Limits.{most_records, most_records_of}
use Rattle.limits.proofs.Callers.{records-most}
use Rattle.particle.specs.declared.Particle.{Particle}
use Rattle.particle.specs.Layout.{record_length}
use Rattle.particle.specs.Record.{read_answer}
use Rattle.particles.specs.Set.{set_length, valid_length, record_at, record_count, records_of, checked_particle, set_from, set_of, too_many, set_answer}
use Rattle.particles.proofs.Checks.{counted, entered, good-entry, bench-accepts}
use Rattle.particles.proofs.Accepted.{accepted-records, limits-accepted, records-length}
use Rattle.bath_file.specs.declared.Header.{Header}
use Rattle.bath_file.specs.Layout.{header_length}
use Rattle.bath_file.specs.File.{header_of, header_answer, records_answer, file_answer}
use Rattle.bath_file.proofs.Checks.{Valid}
use Rattle.bath_file.proofs.Answers.{header-held, right-records, records-passed}
use Rattle.bath_file.proofs.RoundTrip.{header-length, header-of-read, read-of-header}

-- a set that starts at a byte is the set of the bytes from there on
module _ (nx ny start : ℕ) (bytes : List ℕ) where
  same-record : (k : ℕ) → record_at start bytes k ≡ record_at 0 (drop start bytes) k
  same-record k = ap (take record_length) (sym (drop-drop (0 + record_length * k) start bytes ∙ ap (λ n. drop n bytes) (ap (λ n. start + n) (zero-add (record_length * k)))))

  moved : (left k least mass : ℕ) → set_from nx ny start bytes left k least mass ≡ set_from nx ny 0 (drop start bytes) left k least mass
  unfolding set_from
  moved zero k least mass = refl
  moved (suc left) k least mass =
      ap₂ and_then (ap (read_answer k) (same-record k))
      (λ i p. and_then (checked_particle nx ny k least mass p) (λ q. and_then (moved left (suc k) (suc q.identifier) (mass + q.mass) i) (λ ps. gives (q ∷ ps))))

module _ (caller : Caller) (bytes : List ℕ) (h : Header) where
  abbrev behind : List ℕ
  behind = drop header_length bytes

  -- the records are as long as the header counts
  whole : length bytes ≡ header_length + record_length * h.count → length behind ≡ record_length * h.count
  whole e = length-drop header_length bytes ∙ (omega arith)

  counts : length behind ≡ record_length * h.count → record_count behind ≡ h.count
  counts e = omega arith

  valid-length : length behind ≡ record_length * h.count → h.count ≤ most_records → valid_length (length behind) ≡ true
  valid-length e n = rw (eq-eqb (length behind % record_length) 0 (omega arith), le-leb (length behind) set_length (omega arith))

  few : length behind ≡ record_length * h.count → h.count ≤ most_records_of caller → too_many caller (length behind) ≡ false
  few e n = le-ltb (most_records_of caller) (record_count behind) (rw (counts e) n)

  pub record FileHeld : Type 0 where
    pub particles : List Particle
    pub header : header_answer caller bytes ≡ gives h
    pub set : set_answer caller h.nx h.ny behind ≡ gives particles
    pub number : length particles ≡ h.count

  -- what an accepted set behind this header says
  held : header_answer caller bytes ≡ gives h → records_answer h bytes ≡ gives h → FileHeld
  held read rest =
      let n = records-passed h bytes rest in
      let w = went_on (set_of h.nx h.ny header_length bytes h.count) (λ _. gives h) n.1 in
      let v = (header-held caller bytes read).valid in
      let l = whole n.0 in
      record {
        particles = w.0;
        header = read;
        set =
            good-entry caller h.nx h.ny behind v.size (valid-length l (le_trans v.count-to (records-most caller))) (few l v.count-to)
            ∙ ap (set_of h.nx h.ny 0 behind) (counts l)
            ∙ sym (moved h.nx h.ny header_length bytes h.count 0 0 0)
            ∙ w.1;
        number = counted h.nx h.ny header_length bytes h.count 0 0 0 w.1;
      }

  pub file-held : file_answer caller bytes ≡ gives h → FileHeld
  file-held e =
      let w = went_on (header_answer caller bytes) (λ g. records_answer g bytes) e in
      let same : w.0 ≡ h = answers w.0 w.2 in
      held (w.1 ∙ ap gives same) (subst (λ g. records_answer g bytes ≡ gives h) same w.2)
    where
      answers : (g : Header) → records_answer g bytes ≡ gives h → g ≡ h
      answers g r =
          let n = records-passed g bytes r in
          same-result (went_on (set_of g.nx g.ny header_length bytes g.count) (λ _. gives g) n.1).2

  pub file-bytes : (f : FileHeld) → ((i : ℕ) → get_or bytes i 0 < 256) → bytes ≡ header_of h ++ records_of f.particles
  file-bytes f small =
      sym (take-append-drop header_length bytes)
      ∙ ap₂ ◌++◌ (sym (header-of-read caller bytes h small f.header)) (accepted-records h.nx h.ny behind (λ i. rw (get_or-drop header_length bytes i 0) (small (header_length + i))) (bench-accepts caller h.nx h.ny behind f.set))

pub file-accepted : (h : Header) (ps : List Particle) → Valid Bench h → SetLimits h.nx h.ny ps → h.count ≡ length ps → file_answer Bench (header_of h ++ records_of ps) ≡ gives h
file-accepted h ps v l n =
    let bytes = header_of h ++ records_of ps in
    let behind : drop header_length bytes ≡ records_of ps = drop_at (header_of h) (records_of ps) header_length (header-length h) in
    let all = records-length ps in
    let set = (entered Bench h.nx h.ny (records_of ps) (limits-accepted h.nx h.ny ps l)).set in
    ap (λ a. and_then a (λ g. records_answer g bytes)) (read-of-header h v (records_of ps))
    ∙ right-records h bytes (length-append (header_of h) (records_of ps) ∙ sum (length (header_of h)) (length (records_of ps)) (length ps) (header-length h) all n)
    ∙ ap (λ a. and_then a (λ _. gives h))
    (moved h.nx h.ny header_length bytes h.count 0 0 0
    ∙ ap₂ (set_of h.nx h.ny 0) behind (n ∙ sym (quotient (length (records_of ps)) (length ps) all))
    ∙ set)
  where
    sum : (a b m : ℕ) → a ≡ header_length → b ≡ record_length * m → h.count ≡ m → a + b ≡ header_length + record_length * h.count
    sum a b m p q r = omega arith

    quotient : (b m : ℕ) → b ≡ record_length * m → b / record_length ≡ m
    quotient b m e = omega arith
