-- Bytes as one number, the first the most significant, at any length.
--     total-bytes           the bits of n bytes
--     small-part            a part of bytes is bytes
--     word_of, byte_of      eight bytes from a place on, or one, are a part of the number
--     field-read, top_read  a field of w bits from sixteen bits of a word, and one at the word's top
--     two-words             a number of 8 to 16 bytes, stored as two words
-- Assumes nothing.
use Prim.Native.Nat.{ℕ, zero, suc, ◌+◌, ◌-◌, ◌*◌, ◌/◌, ◌%◌, ◌^◌, ◌<◌, ◌≤◌}
use native.Mathlib.Nat.{zero-mul, mul_assoc, add-mul, mod-lt, mod-eq_of_lt, lt_of_lt_of_le, le_of_eq}
use native.Mathlib.Omega.{arith}
use mathlib.Core.Path.{◌≡◌, refl, sym, ap, ap₂, subst, ◌∙◌}
use mathlib.Core.List.{List, [], ◌∷◌, ◌++◌, append-nil, append_assoc}
use lib.ListN.{length, get_or, take, drop, replicate, length-append, length-drop, length-replicate, replicate-append-replicate, drop_of_length-le, take-append-drop}
use lib.Seq.{length-take-le, drop-cons, drop_at, get_or-drop}
use lib.Pow.{pow_pos, pow-add, pow_mono, high, low, shr-shr, field, mod-mod-pow}
use Rattle.bits.specs.Bits.{total, cut, join}
use Rattle.bits.specs.Internal.{word_at, word_bytes, stored}
use Rattle.bits.proofs.Parts.{total-append, cut-append, cut-length, cut-mod, join-lt, bytes_below}

pub total-bytes : (n : ℕ) → total (replicate n 8) ≡ 8 * n
total-bytes zero = refl
total-bytes (suc n) = ap (λ t. 8 + t) (total-bytes n) ∙ omega arith

join-append : (ws ds vs es : List ℕ) → length ws ≡ length ds → join (ws ++ vs) (ds ++ es) ≡ join ws ds * 2 ^ total vs + join vs es
join-append [] [] vs es e = omega (arith, zero-mul (2 ^ total vs))
join-append [] (d ∷ ds) vs es e = absurd (omega arith)
join-append (w ∷ ws) [] vs es e = absurd (omega arith)
join-append (w ∷ ws) (d ∷ ds) vs es e =
    ap₂ (λ t r. d * t + r) (ap (λ t. 2 ^ t) (total-append ws vs) ∙ pow-add 2 (total ws) (total vs)) (join-append ws ds vs es (omega arith))
    ∙ raised d (2 ^ total ws) (2 ^ total vs) (join ws ds) (join vs es)
  where
    raised : (d a b m n : ℕ) → d * (a * b) + (m * b + n) ≡ (d * a + m) * b + n
    raised d a b m n = omega (arith, mul_assoc d a b, add-mul (d * a) m b)

-- ---- the number that bytes make

abbrev number : List ℕ → ℕ
number l = join (replicate (length l) 8) l

number_append : (a b : List ℕ) → number (a ++ b) ≡ number a * 2 ^ (8 * length b) + number b
number_append a b =
    ap (λ ws. join ws (a ++ b)) (ap (λ n. replicate n 8) (length-append a b) ∙ sym (replicate-append-replicate (length a) (length b) 8))
    ∙ join-append (replicate (length a) 8) a (replicate (length b) 8) b (length-replicate (length a) 8)
    ∙ ap (λ t. number a * 2 ^ t + number b) (total-bytes (length b))

number_lt : (l : List ℕ) → ((k : ℕ) → get_or l k 0 < 256) → number l < 2 ^ (8 * length l)
number_lt l small = subst (λ t. number l < 2 ^ t) (total-bytes (length l)) (join-lt (replicate (length l) 8) l (bytes_below l small))

-- the bytes of a list from a place on, one after the other
abbrev from : List ℕ → ℕ → ℕ → List ℕ
from l at zero = []
from l at (suc n) = get_or l at 0 ∷ from l (suc at) n

taken : (l : List ℕ) (at n : ℕ) → at + n ≤ length l → take n (drop at l) ≡ from l at n
taken l at zero h = refl
taken l at (suc n) h = ap (take (suc n)) (drop-cons l at 0 (omega arith)) ∙ ap (λ r. get_or l at 0 ∷ r) (taken l (suc at) n (omega arith))

small-take : (n : ℕ) (l : List ℕ) → ((k : ℕ) → get_or l k 0 < 256) → (k : ℕ) → get_or (take n l) k 0 < 256
small-take zero l small k = omega arith
small-take (suc n) [] small k = small k
small-take (suc n) (a ∷ l) small zero = small zero
small-take (suc n) (a ∷ l) small (suc k) = small-take n l (λ i. small (suc i)) k

small-drop : (n : ℕ) (l : List ℕ) → ((k : ℕ) → get_or l k 0 < 256) → (k : ℕ) → get_or (drop n l) k 0 < 256
small-drop n l small k = subst (λ b. b < 256) (sym (get_or-drop n l k 0)) (small (n + k))

-- a part of bytes is bytes
pub small-part : (bytes : List ℕ) (n m : ℕ) → ((i : ℕ) → get_or bytes i 0 < 256) → (i : ℕ) → get_or (take n (drop m bytes)) i 0 < 256
small-part bytes n m small = small-take n (drop m bytes) (small-drop m bytes small)

module _ (l : List ℕ) {size : ℕ} (long : length l ≡ size) (small : (k : ℕ) → get_or l k 0 < 256) where
  -- n bytes with r bytes behind them
  part_of : (at n r : ℕ) → at + n + r ≡ size → number (from l at n) ≡ join (replicate size 8) l / 2 ^ (8 * r) % 2 ^ (8 * n)
  part_of at n r e =
      let a = take at l in
      let m = take n (drop at l) in
      let b = drop n (drop at l) in
      let m-long : length m ≡ n = length-take-le n (drop at l) (omega (arith, length-drop at l)) in
      let b-long : length b ≡ r = length-drop n (drop at l) ∙ ap (λ k. k - n) (length-drop at l) ∙ omega arith in
      let m-lt : number m < 2 ^ (8 * n) = subst (λ k. number m < 2 ^ (8 * k)) m-long (number_lt m (small-part l n at small)) in
      let b_lt : number b < 2 ^ (8 * r) = subst (λ k. number b < 2 ^ (8 * k)) b-long (number_lt b (small-drop n (drop at l) (small-drop at l small))) in
      let whole : join (replicate size 8) l ≡ number (a ++ m) * 2 ^ (8 * r) + number b =
      ap (λ k. join (replicate k 8) l) (sym long)
      ∙ ap number (sym (take-append-drop at l) ∙ ap (λ t. a ++ t) (sym (take-append-drop n (drop at l))) ∙ sym (append_assoc a m b))
      ∙ number_append (a ++ m) b
      ∙ ap (λ k. number (a ++ m) * 2 ^ (8 * k) + number b) b-long in
      let above : number (a ++ m) ≡ number a * 2 ^ (8 * n) + number m = number_append a m ∙ ap (λ k. number a * 2 ^ (8 * k) + number m) m-long in
      sym
      (ap (λ x. x / 2 ^ (8 * r) % 2 ^ (8 * n)) whole
      ∙ ap (λ x. x % 2 ^ (8 * n)) (high (number (a ++ m)) (8 * r) b_lt ∙ above)
      ∙ low (number a) (8 * n) m-lt
      ∙ ap number (taken l at n (omega arith)))

  pub word_of : (at r : ℕ) → at + 8 + r ≡ size → word_at l at ≡ join (replicate size 8) l / 2 ^ (8 * r) % 2 ^ 64
  word_of at r e =
      let p1 : at + 1 ≡ suc at = omega arith in
      let p2 : at + 2 ≡ suc (suc at) = omega arith in
      let p3 : at + 3 ≡ suc (suc (suc at)) = omega arith in
      let p4 : at + 4 ≡ suc (suc (suc (suc at))) = omega arith in
      let p5 : at + 5 ≡ suc (suc (suc (suc (suc at)))) = omega arith in
      let p6 : at + 6 ≡ suc (suc (suc (suc (suc (suc at))))) = omega arith in
      let p7 : at + 7 ≡ suc (suc (suc (suc (suc (suc (suc at)))))) = omega arith in
      (λ i. get_or l at 0 * 72057594037927936 + get_or l (p1 i) 0 * 281474976710656 + get_or l (p2 i) 0 * 1099511627776 + get_or l (p3 i) 0 * 4294967296 + get_or l (p4 i) 0 * 16777216 + get_or l (p5 i) 0 * 65536 + get_or l (p6 i) 0 * 256 + get_or l (p7 i) 0)
      ∙ sum (get_or l at 0) _ _ _ _ _ _ _
      ∙ part_of at 8 r e
    where
      sum : (a b c d e f g h : ℕ) → a * 72057594037927936 + b * 281474976710656 + c * 1099511627776 + d * 4294967296 + e * 16777216 + f * 65536 + g * 256 + h ≡ number (a ∷ b ∷ c ∷ d ∷ e ∷ f ∷ g ∷ h ∷ [])
      sum a b c d e f g h = omega arith

  pub byte_of : (at r : ℕ) → at + 1 + r ≡ size → get_or l at 0 ≡ join (replicate size 8) l / 2 ^ (8 * r) % 2 ^ 8
  byte_of at r e = single (get_or l at 0) ∙ part_of at 1 r e
    where
      single : (a : ℕ) → a ≡ number (a ∷ [])
      single a = omega arith

-- ---- a field with s bits of its word below it, where the word has t bits below it

module _ (n t s w : ℕ) {word low : ℕ} (p : word ≡ n / 2 ^ t % 2 ^ 64) (q : low ≡ word / 2 ^ s % 65536) where
  pub field-read : w ≤ 16 → w + s ≤ 64 → low % 2 ^ w ≡ n / 2 ^ (t + s) % 2 ^ w
  field-read h f =
      let r = 16 - w in
      let u = 64 - (w + s) in
      let sixteen : 16 ≡ r + w = omega arith in
      let all : 64 ≡ u + w + s = omega arith in
      ap (λ m. m % 2 ^ w) (q ∙ ap (λ m. m / 2 ^ s % 65536) p)
      ∙ ap (λ k. n / 2 ^ t % 2 ^ 64 / 2 ^ s % 2 ^ k % 2 ^ w) sixteen
      ∙ mod-mod-pow (n / 2 ^ t % 2 ^ 64 / 2 ^ s) r w
      ∙ ap (λ k. n / 2 ^ t % 2 ^ k / 2 ^ s % 2 ^ w) all
      ∙ ap (λ m. m % 2 ^ w) (field (n / 2 ^ t) (u + w) s)
      ∙ mod-mod-pow (n / 2 ^ t / 2 ^ s) u w
      ∙ ap (λ m. m % 2 ^ w) (shr-shr n t s)

  pub top_read : w ≤ 16 → w + s ≡ 64 → low ≡ n / 2 ^ (t + s) % 2 ^ w
  top_read h f =
      q
      ∙ ap (λ m. m / 2 ^ s % 65536) (p ∙ ap (λ k. n / 2 ^ t % 2 ^ k) (sym f))
      ∙ ap (λ m. m % 65536) (field (n / 2 ^ t) w s)
      ∙ mod-eq_of_lt (lt_of_lt_of_le (mod-lt (n / 2 ^ t / 2 ^ s) (pow_pos w)) (pow_mono {j = 16} h))
      ∙ ap (λ m. m % 2 ^ w) (shr-shr n t s)

-- ---- two words in a buffer of b bytes more than one has: the first is stored over the beginning of the second, whose bytes
-- that stay are the last b

pub two-words : (b : ℕ) → b ≤ 8 → (n : ℕ) (l : List ℕ) → length l ≡ b + 8 → stored (word_bytes (n / 2 ^ (8 * b))) (stored (word_bytes (n % 2 ^ (8 * b))) l b) 0 ≡ cut (replicate (b + 8) 8) n
two-words b h n l long =
    ap (λ r. word_bytes (n / 2 ^ (8 * b)) ++ r) (ap (drop 8) split ∙ drop_at (take b l ++ high) low 8 high_end ∙ low-is)
    ∙ ap (λ t. cut (replicate 8 8) (n / 2 ^ t) ++ cut (replicate b 8) n) (sym (total-bytes b))
    ∙ sym (cut-append (replicate 8 8) (replicate b 8) n)
    ∙ ap (λ ws. cut ws n) (replicate-append-replicate 8 b 8 ∙ ap (λ k. replicate k 8) {x = 8 + b} {y = b + 8} (omega arith))
  where
    rest : ℕ
    rest = n % 2 ^ (8 * b)

    high : List ℕ
    high = cut (replicate (8 - b) 8) (rest / 2 ^ total (replicate b 8))

    low : List ℕ
    low = cut (replicate b 8) rest

    two-parts : word_bytes rest ≡ high ++ low
    two-parts =
        ap (λ ws. cut ws rest) (ap (λ k. replicate k 8) {x = 8} {y = 8 - b + b} (omega arith) ∙ sym (replicate-append-replicate (8 - b) b 8))
        ∙ cut-append (replicate (8 - b) 8) (replicate b 8) rest

    split : take b l ++ word_bytes rest ++ drop (b + 8) l ≡ (take b l ++ high) ++ low
    split =
        ap₂ (λ w r. take b l ++ w ++ r) two-parts (drop_of_length-le l (le_of_eq long))
        ∙ append-nil (take b l ++ (high ++ low))
        ∙ sym (append_assoc (take b l) high low)

    high_end : length (take b l ++ high) ≡ 8
    high_end =
        length-append (take b l) high
        ∙ ap₂ ◌+◌ (length-take-le b l (omega arith)) (cut-length (replicate (8 - b) 8) _ ∙ length-replicate (8 - b) 8)
        ∙ omega arith

    low-is : low ≡ cut (replicate b 8) n
    low-is = ap (λ t. cut (replicate b 8) (n % 2 ^ t)) (sym (total-bytes b)) ∙ cut-mod (replicate b 8) n
