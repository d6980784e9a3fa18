-- The records of a set, line by line.
-- Assumes nothing.
use Prim.Native.Nat.{ℕ, ◌+◌, ◌-◌, ◌*◌, ◌≤◌, ◌<◌}
use native.Mathlib.Nat.{zero-add}
use native.Mathlib.Omega.{arith}
use mathlib.Core.Path.{◌≡◌, refl, sym, ap, ◌∙◌}
use mathlib.Core.List.{List, [], ◌∷◌, ◌++◌, map, append_assoc, append-nil}
use lib.ListN.{length, take, drop, length-append, length-drop}
use lib.Seq.{drop-drop, take-append_seam, drop-append_seam}
use Rattle.arith.specs.Sums.{from, up_to, from-append}
use Rattle.particle.specs.declared.Particle.{Particle}
use Rattle.particle.specs.Layout.{record_length}
use Rattle.particle.specs.Record.{particle_of}
use Rattle.particles.proofs.Turns.{part-is}
use Rattle.particles.specs.Set.{record_at, record_count}
use Rattle.report.specs.Lines.{particle_line, particle_lines}
use Rattle.text.specs.declared.Text.{Text}
use Rattle.text.specs.Internal.{Room, Put}
use Rattle.report.specs.Internal.{lines_up_to}
use Rattle.text.proofs.Puts.{put-none, put_then, room-first, room-second, room_as, put_as}

-- the part of a slice that the code hands to the record reader
pub the-record : (records : List ℕ) (k : ℕ) → take (record_length * k + record_length - record_length * k) (drop (record_length * k) records) ≡ record_at 0 records k
the-record records k = part-is (record_length * k) records ∙ ap (λ m. take record_length (drop m records)) (sym (zero-add (record_length * k)))

lines-append : (ps qs : List Particle) → particle_lines (ps ++ qs) ≡ particle_lines ps ++ particle_lines qs
unfolding particle_lines
lines-append [] qs = refl
lines-append (p ∷ ps) qs = ap (λ l. particle_line p ++ l) (lines-append ps qs) ∙ sym (append_assoc (particle_line p) (particle_lines ps) (particle_lines qs))

map-append : (f : ℕ → Particle) (xs ys : List ℕ) → map f (xs ++ ys) ≡ map f xs ++ map f ys
map-append f [] ys = refl
map-append f (x ∷ xs) ys = ap (λ l. f x ∷ l) (map-append f xs ys)

module _ (records : List ℕ) where
  abbrev particle_at : ℕ → Particle
  particle_at k = particle_of (record_at 0 records k)

  abbrev line_at : ℕ → List ℕ
  line_at k = particle_line (particle_at k)

  abbrev lines_from : ℕ → ℕ → List ℕ
  lines_from j n = particle_lines (map particle_at (from j n))

  -- the lines of j records, and then those of n more
  two-parts : (j n : ℕ) → lines_up_to records (j + n) ≡ lines_up_to records j ++ lines_from j n
  two-parts j n =
      ap (λ l. particle_lines (map particle_at l)) (from-append 0 j n)
      ∙ ap particle_lines (map-append particle_at (up_to j) (from (0 + j) n))
      ∙ lines-append (map particle_at (up_to j)) (map particle_at (from (0 + j) n))
      ∙ ap (λ m. lines_up_to records j ++ lines_from m n) (zero-add j)

  one_line : (k : ℕ) → lines_from k 1 ≡ line_at k
  unfolding particle_lines
  one_line k = append-nil (line_at k)

  one_more : (k : ℕ) → lines_up_to records (k + 1) ≡ lines_up_to records k ++ line_at k
  one_more k = two-parts k 1 ∙ ap (λ l. lines_up_to records k ++ l) (one_line k)

  -- ---- the loop

  abbrev count : ℕ
  count = record_count records

  -- the lines of k records are put, and the bytes behind these are left
  pub record Printed (t t' : Text) (left : List ℕ) (size k : ℕ) : Type 0 where
    pub within : k ≤ count
    pub put : Put t (lines_up_to records k) t'
    pub left_is : left ≡ drop (record_length * k) records
    pub size_is : size ≡ record_length

  module _ {t : Text} (room : Room t (lines_up_to records count)) where
    pub printed-none : {left : List ℕ} {size : ℕ} → left ≡ records → size ≡ record_length → Printed t t left size 0
    unfolding particle_lines
    printed-none e s = record { within = omega arith; put = put-none (omega (arith, room.room)); left_is = e; size_is = s }

    module _ (bytes left' : List ℕ) {t' : Text} {left : List ℕ} {size k : ℕ} (p : Printed t t' left size k) (e : left ≡ bytes ++ left') (l : length bytes ≡ size) where
      long : length bytes ≡ record_length
      long = l ∙ p.size_is

      parts : drop (record_length * k) records ≡ bytes ++ left'
      parts = sym p.left_is ∙ e

      below : k < count
      below = omega (arith, length-drop (record_length * k) records, ap length parts, length-append bytes left', long)

      pub is_record : bytes ≡ record_at 0 records k
      is_record =
          sym
          (ap (λ n. take record_length (drop n records)) (zero-add (record_length * k))
          ∙ ap (take record_length) parts
          ∙ ap (λ n. take n (bytes ++ left')) (sym long)
          ∙ take-append_seam bytes left')

      left_after : left' ≡ drop (record_length * (k + 1)) records
      left_after =
          sym
          (ap (λ n. drop n records) next
          ∙ sym (drop-drop record_length (record_length * k) records)
          ∙ ap (drop record_length) parts
          ∙ ap (λ n. drop n (bytes ++ left')) (sym long)
          ∙ drop-append_seam bytes left')
        where
          next : record_length * (k + 1) ≡ record_length * k + record_length
          next = omega arith

      pub line-room : Room t' (particle_line (particle_of bytes))
      line-room =
          rw is_record
          (room-second (lines_up_to records k) (line_at k)
          (room_as (one_more k) (room-first (lines_up_to records (k + 1)) (lines_from (k + 1) (count - (k + 1))) (room_as (ap (lines_up_to records) (split k count below) ∙ two-parts (k + 1) (count - (k + 1))) room)))
          p.put)
        where
          split : (k n : ℕ) → k < n → n ≡ k + 1 + (n - (k + 1))
          split k n h = omega arith

      pub printed-more : {t'' : Text} {size' k' : ℕ} → size' ≡ size → k' ≡ k + 1 → Put t' (particle_line (particle_of bytes)) t'' → Printed t t'' left' size' k'
      printed-more s n q =
          rw n
          (record {
            within = omega (arith, below);
            put = put_as (ap (λ b. lines_up_to records k ++ particle_line (particle_of b)) is_record ∙ sym (one_more k)) (put_then p.put q);
            left_is = left_after;
            size_is = s ∙ p.size_is;
          })

    pub printed-all : {t' : Text} {left : List ℕ} {size k : ℕ} → Printed t t' left size k → length left < size → Put t (lines_up_to records count) t'
    printed-all {k = k} p h =
        let all : k ≡ count = omega (arith, p.within, p.size_is, ap length p.left_is, length-drop (record_length * k) records, h) in
        put_as (ap (lines_up_to records) all) p.put
