-- The parts of a number by widths: cutting and joining are inverse, whatever the widths.
--     join-cut          the parts of a number make its low bits
--     cut-join          parts that their widths hold are the parts of the number that they make
--     join-lt           a number that is made of parts is below the power of all their widths
--     cut_below         what is cut is held by its widths, and `cut-length` has as many parts
--     cut-append        some widths and then others cut the high bits and then the low ones
--     cut-mod           the low bits are all that is cut
-- Assumes nothing.
use Prim.Native.Nat.{ℕ, zero, suc, ◌+◌, ◌*◌, ◌/◌, ◌%◌, ◌^◌, ◌<◌}
use native.Mathlib.Nat.{mod-lt, mod-one, mod-eq_of_lt, mul_assoc, mul-add-div_right, mul-add-mod_self_right}
use native.Mathlib.Omega.{arith}
use mathlib.Core.Path.{◌≡◌, refl, sym, ap, ap₂, ◌∙◌}
use mathlib.Core.List.{List, [], ◌∷◌, ◌++◌}
use lib.Arith.{digits_lt}
use lib.Pow.{pow_pos, pow-add, mod-pow-add, high, shr-shr, split}
use lib.ListN.{length, get_or, replicate}
use Rattle.bits.specs.Bits.{total, cut, join}
use Rattle.bits.specs.Internal.{Below}

pub join-cut : (ws : List ℕ) (n : ℕ) → join ws (cut ws n) ≡ n % 2 ^ total ws
join-cut [] n = sym (mod-one n)
join-cut (w ∷ ws) n =
    ap (λ r. n / 2 ^ total ws % 2 ^ w * 2 ^ total ws + r) (join-cut ws n) ∙ sym (mod-pow-add n w (total ws))

pub join-lt : (ws ds : List ℕ) → Below ws ds → join ws ds < 2 ^ total ws
join-lt [] [] b = omega arith
join-lt [] (d ∷ ds) b = absurd b
join-lt (w ∷ ws) [] b = absurd b
join-lt (w ∷ ws) (d ∷ ds) b = rw (pow-add 2 w (total ws)) (digits_lt b.0 (join-lt ws ds b.1))

pub cut_below : (ws : List ℕ) (n : ℕ) → Below ws (cut ws n)
cut_below [] n = tt
cut_below (w ∷ ws) n = (mod-lt (n / 2 ^ total ws) (pow_pos w), cut_below ws n)

-- what stands above all the widths is not cut
cut_low : (ws : List ℕ) (c n : ℕ) → cut ws (c * 2 ^ total ws + n) ≡ cut ws n
cut_low [] c n = refl
cut_low (w ∷ ws) c n =
    let t = total ws in
    let shift : c * 2 ^ (w + t) ≡ (c * 2 ^ w) * 2 ^ t = ap (λ x. c * x) (pow-add 2 w t) ∙ sym (mul_assoc c (2 ^ w) (2 ^ t)) in
    ap (λ x. cut (w ∷ ws) (x + n)) shift
    ∙ ap₂ (λ d ds. d ∷ ds)
    (ap (λ x. x % 2 ^ w) (mul-add-div_right (pow_pos t) (c * 2 ^ w) n) ∙ mul-add-mod_self_right c (2 ^ w) (n / 2 ^ t))
    (cut_low ws (c * 2 ^ w) n)

pub cut-mod : (ws : List ℕ) (n : ℕ) → cut ws (n % 2 ^ total ws) ≡ cut ws n
cut-mod ws n = sym (cut_low ws (n / 2 ^ total ws) (n % 2 ^ total ws)) ∙ ap (cut ws) (split n (total ws))

pub total-append : (ws vs : List ℕ) → total (ws ++ vs) ≡ total ws + total vs
total-append [] vs = omega arith
total-append (w ∷ ws) vs = ap (λ t. w + t) (total-append ws vs) ∙ omega arith

pub cut-length : (ws : List ℕ) (n : ℕ) → length (cut ws n) ≡ length ws
cut-length [] n = refl
cut-length (w ∷ ws) n = ap suc (cut-length ws n)

pub cut-append : (ws vs : List ℕ) (n : ℕ) → cut (ws ++ vs) n ≡ cut ws (n / 2 ^ total vs) ++ cut vs n
cut-append [] vs n = refl
cut-append (w ∷ ws) vs n =
    ap₂ (λ d ds. d % 2 ^ w ∷ ds)
    (ap (λ t. n / 2 ^ t) {y = total vs + total ws} (total-append ws vs ∙ omega arith) ∙ sym (shr-shr n (total vs) (total ws)))
    (cut-append ws vs n)

pub cut-join : (ws ds : List ℕ) → Below ws ds → cut ws (join ws ds) ≡ ds
cut-join [] [] b = refl
cut-join [] (d ∷ ds) b = absurd b
cut-join (w ∷ ws) [] b = absurd b
cut-join (w ∷ ws) (d ∷ ds) b =
    ap₂ (λ x xs. x ∷ xs)
    (ap (λ x. x % 2 ^ w) (high d (total ws) (join-lt ws ds b.1)) ∙ mod-eq_of_lt b.0)
    (cut_low ws d (join ws ds) ∙ cut-join ws ds b.1)

-- a list of bytes is held by as many widths of 8
pub bytes_below : (l : List ℕ) → ((k : ℕ) → get_or l k 0 < 256) → Below (replicate (length l) 8) l
bytes_below [] h = tt
bytes_below (a ∷ l) h = (h 0, bytes_below l (λ k. h (suc k)))

pub below-bytes : (n : ℕ) (l : List ℕ) → Below (replicate n 8) l → (k : ℕ) → get_or l k 0 < 256
below-bytes zero [] b k = omega arith
below-bytes zero (a ∷ l) b k = absurd b
below-bytes (suc n) [] b k = absurd b
below-bytes (suc n) (a ∷ l) b zero = b.0
below-bytes (suc n) (a ∷ l) b (suc k) = below-bytes n l b.1 k
