-- Decimal digits: their recursion, their number, and that they tell the number.
--     decimal-small, decimal-large    a number below ten, and any other
--     decimal-length                  a number below 10^k has at most k digits
--     decimal-tells                   the number that the digits make is the number
-- Assumes nothing.
use Prim.Native.Nat.{ℕ, zero, suc, ◌+◌, ◌-◌, ◌*◌, ◌/◌, ◌%◌, ◌^◌, ◌≤◌, ◌<◌}
use native.Mathlib.Nat.{pow-suc}
use native.Mathlib.Omega.{arith}
use native.Mathlib.Decide.{dec_lt}
use mathlib.Core.Path.{◌≡◌, refl, sym, ap, ◌∙◌}
use mathlib.Core.List.{List, [], ◌∷◌, ◌++◌}
use borrow.Author.Tests.{lt-ltb, le-ltb}
use lib.ListN.{length, length-append}
use Rattle.text.specs.Decimal.{digit, digits_within, decimal}

small : (most n : ℕ) → n < 10 → digits_within (suc most) n ≡ digit (n % 10) ∷ []
unfolding digits_within
small most n h = rw (lt-ltb n 10 h)

large : (most n : ℕ) → 10 ≤ n → digits_within (suc most) n ≡ digits_within most (n / 10) ++ (digit (n % 10) ∷ [])
unfolding digits_within
large most n h = rw (le-ltb n 10 h)

-- any bound above the number does
enough : (f g n : ℕ) → n < f → n < g → digits_within f n ≡ digits_within g n
enough zero g n p q = absurd (omega arith)
enough (suc f) zero n p q = absurd (omega arith)
enough (suc f) (suc g) n p q = go (dec_lt n 10) (λ h. enough f g (n / 10) (omega arith) (omega arith))
  where
    go : Dec (n < 10) → (10 ≤ n → digits_within f (n / 10) ≡ digits_within g (n / 10)) → digits_within (suc f) n ≡ digits_within (suc g) n
    go (yes h) again = small f n h ∙ sym (small g n h)
    go (no h) again =
        large f n (omega arith) ∙ ap (λ l. l ++ (digit (n % 10) ∷ [])) (again (omega arith)) ∙ sym (large g n (omega arith))

pub decimal-small : (n : ℕ) → n < 10 → decimal n ≡ digit n ∷ []
unfolding decimal
decimal-small n h = small n n h ∙ ap (λ d. digit d ∷ []) (omega arith)

pub decimal-large : (n : ℕ) → 10 ≤ n → decimal n ≡ decimal (n / 10) ++ (digit (n % 10) ∷ [])
unfolding decimal
decimal-large n h = large n n h ∙ ap (λ l. l ++ (digit (n % 10) ∷ [])) (enough n (suc (n / 10)) (n / 10) (omega arith) (omega arith))

-- one digit more
one_more : (d : ℕ) (l : List ℕ) (k : ℕ) → length l ≤ k → length (l ++ (d ∷ [])) ≤ suc k
one_more d l k h = omega (arith, length-append l (d ∷ []))

tenth : (p n : ℕ) → n < p * 10 → n / 10 < p
tenth p n h = omega arith

pub decimal-length : (k n : ℕ) → n < 10 ^ suc k → length (decimal n) ≤ suc k
decimal-length zero n h = rw (decimal-small n h) (omega arith)
decimal-length (suc k) n h = go (dec_lt n 10) (decimal-length k (n / 10) (tenth (10 ^ suc k) n (rw (pow-suc 10 (suc k)) at h)))
  where
    go : Dec (n < 10) → length (decimal (n / 10)) ≤ suc k → length (decimal n) ≤ suc (suc k)
    go (yes s) l = rw (decimal-small n s) (omega arith)
    go (no s) l = rw (decimal-large n (omega arith)) (one_more (digit (n % 10)) (decimal (n / 10)) (suc k) l)

-- the number that digits make
unfoldable pub value : ℕ → List ℕ → ℕ
value v [] = v
value v (c ∷ l) = value (v * 10 + (c - 48)) l

value-last : (v : ℕ) (l : List ℕ) (c : ℕ) → value v (l ++ (c ∷ [])) ≡ value v l * 10 + (c - 48)
unfolding value
value-last v [] c = refl
value-last v (d ∷ l) c = value-last (v * 10 + (d - 48)) l c

tells : (most n : ℕ) → n < most → value 0 (digits_within most n) ≡ n
unfolding value
tells zero n h = absurd (omega arith)
tells (suc most) n h = go (dec_lt n 10) (λ s. tells most (n / 10) (omega arith))
  where
    go : Dec (n < 10) → (10 ≤ n → value 0 (digits_within most (n / 10)) ≡ n / 10) → value 0 (digits_within (suc most) n) ≡ n
    go (yes s) again = ap (value 0) (small most n s) ∙ omega arith
    go (no s) again =
        ap (value 0) (large most n (omega arith))
        ∙ value-last 0 (digits_within most (n / 10)) (digit (n % 10))
        ∙ ap (λ v. v * 10 + (48 + n % 10 - 48)) (again (omega arith))
        ∙ omega arith

pub decimal-tells : (n : ℕ) → value 0 (decimal n) ≡ n
unfolding decimal
decimal-tells n = tells (suc n) n (omega arith)
