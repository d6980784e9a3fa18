-- Laws of rounding (specs.Rounding).
--     near-bound                    of a rounding that is Nearest: |n| ≤ k·d gives |r| ≤ k
--     nearest-error, nearest-bound  nearest is one, for every rule, and so has this bound
--     nearest-unique, nearest-exact only r is less than a half away; a multiple of d is not rounded
--     nearest-half                  at a half above q, as the rule says of q
--     nearest-odd, nearest-cancel   OddRounding and HalvesCancel, for every rule that turns with the floor's sign, and with its
--                                   parity
--     rounded-error, rounded-bound, rounded-even, rounded-odd, halves-cancel
--                                   for the rule in use
--     grown-halves                  1/2 and 3/2 that grow become 3
--     even-unique                   an even number at most a half away is it
--     rounded-up, rounded-down      of a number that is not negative, by quotient and remainder
--     parity-bound                  a parity is at most 1
--     rounded-shift                 by d = 2·h with shifts that round down: of n + (h - 1), one more where the floor is odd
-- Assumes nothing.
use Rattle.std.specs.Prelude.{◌≡◌, refl, Bool, true, false, cond, not, ◌&&◌, ◌||◌, [], ◌∷◌, ℕ, zero, suc, ◌+◌, ◌-◌, ◌*◌, ◌/◌, ◌%◌, ◌<◌, ◌≤◌, T, eqb, ℤ, pos, negsuc, neg_ℤ, nat_abs, ◌+ℤ◌, ◌-ℤ◌, ◌*ℤ◌, ◌≤ℤ◌, ◌<ℤ◌}
use Rattle.std.proofs.Common.{sym, ap, ap₂, ◌∙◌, subst, ⊎_elim, mod-lt, arith, eqb→eq}
use Rattle.std.proofs.Math.Nat.{div-add-mod}
use Rattle.std.specs.Int.Signed.{lt_z, le_z, shr_z, clash_ℤ}
use Rattle.arith.specs.Order.{Within, linear, reading, ◌&◌, nothing, le_z-true, le_z-false, lt_z-true, lt_z-false, ≤ℤ-of-eq, ≤ℤ-total, ≤ℤ-antisym, *ℤ-mono-left, pos-nonneg}
use Rattle.arith.specs.Size.{Bound, bound-pos, bound-within, within-bound}
use Rattle.arith.specs.Rounding.{floor, rest, nearest, parity, halves_even, rounded, Nearest, OddRounding, HalvesToEven, HalvesCancel, GrowingDoesNotCancel}

-- ---- at work: 1/2, -1/2, 3/2, -3/2, 5/2, -5/2; 1/3, 2/3, -2/3; about a half of 2^34

halves : (rounded (pos 1) 2 ≡ pos 0) × (rounded (negsuc 0) 2 ≡ pos 0) × (rounded (pos 3) 2 ≡ pos 2) × (rounded (negsuc 2) 2 ≡ negsuc 1) × (rounded (pos 5) 2 ≡ pos 2) × (rounded (negsuc 4) 2 ≡ negsuc 1)
unfolding nearest
halves = (refl, refl, refl, refl, refl, refl)

thirds : (rounded (pos 1) 3 ≡ pos 0) × (rounded (pos 2) 3 ≡ pos 1) × (rounded (negsuc 1) 3 ≡ negsuc 0)
unfolding nearest
thirds = (refl, refl, refl)

large : (rounded (pos 8589934592) 17179869184 ≡ pos 0) × (rounded (pos 8589934593) 17179869184 ≡ pos 1) × (rounded (negsuc 8589934592) 17179869184 ≡ negsuc 0)
unfolding nearest
large = (refl, refl, refl)

-- another rule: halves go up
halves-up : (nearest (λ _. true) (pos 1) 2 ≡ pos 1) × (nearest (λ _. true) (negsuc 0) 2 ≡ pos 0)
unfolding nearest
halves-up = (refl, refl)

-- ---- rounding down

pub rest-nonneg : (n : ℤ) (d : ℕ) → zero < d → pos 0 ≤ℤ rest n d
rest-nonneg (pos a) d h = linear [] nothing (search reading depth 30) (omega (arith, div-add-mod a d))
rest-nonneg (negsuc a) d h = linear [] nothing (search reading depth 30) (omega (arith, div-add-mod a d, mod-lt a h))

pub rest_below : (n : ℤ) (d : ℕ) → zero < d → rest n d <ℤ pos d
rest_below (pos a) d h = linear [] nothing (search reading depth 30) (omega (arith, div-add-mod a d, mod-lt a h))
rest_below (negsuc a) d h = linear [] nothing (search reading depth 30) (omega (arith, div-add-mod a d, mod-lt a h))

cancel : (d : ℕ) (x y : ℤ) → (pos d *ℤ x) <ℤ (pos d *ℤ (y +ℤ pos 1)) → x ≤ℤ y
cancel d x y h = ⊎_elim (λ l. l) (λ l. clash_ℤ h (*ℤ-mono-left (pos-nonneg d) (next x y l))) (≤ℤ-total x y)
  where
    next : (x y : ℤ) → y <ℤ x → (y +ℤ pos 1) ≤ℤ x
    next x y l = linear (x ∷ y ∷ []) l (search reading depth 30) (omega arith)

-- the one integer q with d·q ≤ n < d·(q + 1)
pub floor-unique : (n q : ℤ) (d : ℕ) → zero < d → (pos d *ℤ q) ≤ℤ n → n <ℤ (pos d *ℤ (q +ℤ pos 1)) → floor n d ≡ q
floor-unique n q d h l u =
    ≤ℤ-antisym
    (cancel d (floor n d) q (linear (n ∷ q ∷ floor n d ∷ []) (rest-nonneg n d h & u) (search reading depth 30) (omega arith)))
    (cancel d q (floor n d) (linear (n ∷ q ∷ floor n d ∷ []) (rest_below n d h & l) (search reading depth 30) (omega arith)))

-- ---- any rounding at most a half away

pub near-bound : (round : ℤ → ℕ → ℤ) → Nearest round → (n : ℤ) (d k : ℕ) → zero < d → Bound n (k * d) → Bound (round n d) k
near-bound round near n d k h b = within-bound (within (round n d) (near n d h) (bound-within b))
  where
    within : (r : ℤ) → Within (pos d) (pos 2 *ℤ (pos d *ℤ r -ℤ n)) → Within (pos (k * d)) n → Within (pos k) r
    within r e b =
        record {
          low = cancel d (neg_ℤ (pos k)) r (linear (n ∷ r ∷ []) (e & b) (search reading depth 30) (omega arith));
          high = cancel d r (pos k) (linear (n ∷ r ∷ []) (e & b) (search reading depth 30) (omega arith));
        }

-- ---- to nearest, for every rule

pick : (p q r : Bool) (P : ℤ → Type 0) (x y : ℤ) → (p ≡ true → P x) → (q ≡ false → P y) → (p ≡ false → q ≡ true → r ≡ true → P x) → (p ≡ false → q ≡ true → r ≡ false → P y) → P (cond (p || (q && r)) x y)
pick true q r P x y past short up down = past refl
pick false false r P x y past short up down = short refl
pick false true true P x y past short up down = up refl refl refl
pick false true false P x y past short up down = down refl refl refl

-- what is left is more than half of d, less, or just half of it, where the rule decides
pub nearest-cases : (rule : ℤ → Bool) (n : ℤ) (d : ℕ) (P : ℤ → Type 0) → (pos d <ℤ (pos 2 *ℤ rest n d) → P (floor n d +ℤ pos 1)) → ((pos 2 *ℤ rest n d) <ℤ pos d → P (floor n d)) → (pos 2 *ℤ rest n d ≡ pos d → rule (floor n d) ≡ true → P (floor n d +ℤ pos 1)) → (pos 2 *ℤ rest n d ≡ pos d → rule (floor n d) ≡ false → P (floor n d)) → P (nearest rule n d)
unfolding nearest
nearest-cases rule n d P past short up down =
    pick
    (lt_z (pos d) (pos 2 *ℤ rest n d))
    (le_z (pos d) (pos 2 *ℤ rest n d))
    (rule (floor n d))
    P
    (floor n d +ℤ pos 1)
    (floor n d)
    (λ e. past (lt_z-true (pos d) (pos 2 *ℤ rest n d) e))
    (λ e. short (le_z-false (pos d) (pos 2 *ℤ rest n d) e))
    (λ e f. up (half e f))
    (λ e f. down (half e f))
  where
    half : lt_z (pos d) (pos 2 *ℤ rest n d) ≡ false → le_z (pos d) (pos 2 *ℤ rest n d) ≡ true → pos 2 *ℤ rest n d ≡ pos d
    half e f = ≤ℤ-antisym (lt_z-false (pos d) (pos 2 *ℤ rest n d) e) (le_z-true (pos d) (pos 2 *ℤ rest n d) f)

pub nearest-error : (rule : ℤ → Bool) → Nearest (nearest rule)
nearest-error rule n d h =
    nearest-cases rule n d (λ r. Within (pos d) (pos 2 *ℤ (pos d *ℤ r -ℤ n)))
    (λ l. linear (n ∷ floor n d ∷ []) (l & rest_below n d h) (search reading depth 30) (omega arith))
    (λ l. linear (n ∷ floor n d ∷ []) (l & rest-nonneg n d h) (search reading depth 30) (omega arith))
    (λ e _. linear (n ∷ floor n d ∷ []) e (search reading depth 30) (omega arith))
    (λ e _. linear (n ∷ floor n d ∷ []) e (search reading depth 30) (omega arith))

-- two that are at most a half away, the first of them less on the one side and the second on the other, are in order
ordered : (n r s : ℤ) (d : ℕ) → (pos 2 *ℤ (pos d *ℤ r -ℤ n)) <ℤ pos d → neg_ℤ (pos d) ≤ℤ (pos 2 *ℤ (pos d *ℤ s -ℤ n)) → r ≤ℤ s
ordered n r s d h k = cancel d r s (linear (n ∷ r ∷ s ∷ []) (h & k) (search reading depth 30) (omega arith))

ordered' : (n r s : ℤ) (d : ℕ) → (pos 2 *ℤ (pos d *ℤ r -ℤ n)) ≤ℤ pos d → neg_ℤ (pos d) <ℤ (pos 2 *ℤ (pos d *ℤ s -ℤ n)) → r ≤ℤ s
ordered' n r s d h k = cancel d r s (linear (n ∷ r ∷ s ∷ []) (h & k) (search reading depth 30) (omega arith))

pub nearest-unique : (rule : ℤ → Bool) (n r : ℤ) (d : ℕ) → zero < d → neg_ℤ (pos d) <ℤ (pos 2 *ℤ (pos d *ℤ r -ℤ n)) → (pos 2 *ℤ (pos d *ℤ r -ℤ n)) <ℤ pos d → nearest rule n d ≡ r
nearest-unique rule n r d h l u =
    ≤ℤ-antisym
    (ordered' n (nearest rule n d) r d (nearest-error rule n d h).high l)
    (ordered n r (nearest rule n d) d u (nearest-error rule n d h).low)

pub nearest-exact : (rule : ℤ → Bool) (k : ℤ) (d : ℕ) → zero < d → nearest rule (pos d *ℤ k) d ≡ k
nearest-exact rule k d h =
    nearest-unique rule (pos d *ℤ k) k d h
    (linear (k ∷ []) nothing (search reading depth 30) (omega arith))
    (linear (k ∷ []) nothing (search reading depth 30) (omega arith))

pub nearest-bound : (rule : ℤ → Bool) (n : ℤ) (d k : ℕ) → zero < d → Bound n (k * d) → Bound (nearest rule n d) k
nearest-bound rule = near-bound (nearest rule) (nearest-error rule)

-- ---- at a half

-- a half above q: then q is the floor
module _ (rule : ℤ → Bool) (n q : ℤ) (d : ℕ) (some : zero < d) (half : pos 2 *ℤ (n -ℤ pos d *ℤ q) ≡ pos d) where
  below : floor n d ≡ q
  below =
      floor-unique n q d some
      (linear (n ∷ q ∷ []) half (search reading depth 30) (omega arith))
      (linear (n ∷ q ∷ []) half (search reading depth 30) (omega (arith, some)))

  left : pos 2 *ℤ rest n d ≡ pos d
  left = ap (λ q. pos 2 *ℤ (n -ℤ pos d *ℤ q)) below ∙ half

  pub nearest-half : nearest rule n d ≡ cond (rule q) (q +ℤ pos 1) q
  nearest-half =
      nearest-cases rule n d (λ r. r ≡ cond (rule q) (q +ℤ pos 1) q)
      (λ l. clash_ℤ l (≤ℤ-of-eq left))
      (λ l. clash_ℤ l (≤ℤ-of-eq (sym left)))
      (λ _ up. ap (λ q. q +ℤ pos 1) below ∙ sym (ap (λ b. cond b (q +ℤ pos 1) q) (ap rule (sym below) ∙ up)))
      (λ _ down. below ∙ sym (ap (λ b. cond b (q +ℤ pos 1) q) (ap rule (sym below) ∙ down)))

-- a rule that turns with the sign: of a floor q it says what it does not of -q - 1, the floor on the other side of 0
pub nearest-odd : (rule : ℤ → Bool) → ((q : ℤ) → rule (neg_ℤ q -ℤ pos 1) ≡ not (rule q)) → OddRounding (nearest rule)
nearest-odd rule turns n d h =
    nearest-cases rule n d (λ r. nearest rule (neg_ℤ n) d ≡ neg_ℤ r)
    (λ l. nearest-unique rule (neg_ℤ n) (neg_ℤ (floor n d +ℤ pos 1)) d h
    (linear (n ∷ floor n d ∷ []) (l & rest_below n d h) (search reading depth 30) (omega arith))
    (linear (n ∷ floor n d ∷ []) (l & rest_below n d h) (search reading depth 30) (omega arith)))
    (λ l. nearest-unique rule (neg_ℤ n) (neg_ℤ (floor n d)) d h
    (linear (n ∷ floor n d ∷ []) (l & rest-nonneg n d h) (search reading depth 30) (omega arith))
    (linear (n ∷ floor n d ∷ []) (l & rest-nonneg n d h) (search reading depth 30) (omega arith)))
    (λ e up. across e ∙ ap turned up ∙ on (floor n d))
    (λ e down. across e ∙ ap turned down ∙ back (floor n d))
  where
    turned : Bool → ℤ
    turned b = cond (not b) (neg_ℤ (floor n d) -ℤ pos 1 +ℤ pos 1) (neg_ℤ (floor n d) -ℤ pos 1)

    across : pos 2 *ℤ rest n d ≡ pos d → nearest rule (neg_ℤ n) d ≡ turned (rule (floor n d))
    across e =
        nearest-half rule (neg_ℤ n) (neg_ℤ (floor n d) -ℤ pos 1) d h (linear (n ∷ floor n d ∷ []) e (search reading depth 30) (omega arith))
        ∙ ap (λ b. cond b (neg_ℤ (floor n d) -ℤ pos 1 +ℤ pos 1) (neg_ℤ (floor n d) -ℤ pos 1)) (turns (floor n d))

    on : (q : ℤ) → neg_ℤ q -ℤ pos 1 ≡ neg_ℤ (q +ℤ pos 1)
    on q = linear (q ∷ []) nothing (search reading depth 30) (omega arith)

    back : (q : ℤ) → neg_ℤ q -ℤ pos 1 +ℤ pos 1 ≡ neg_ℤ q
    back q = linear (q ∷ []) nothing (search reading depth 30) (omega arith)

-- (2·k + 1)/2, where h is half of the divisor
odd-half : (rule : ℤ → Bool) (k : ℤ) (h : ℕ) → zero < h → nearest rule (pos h *ℤ (pos 2 *ℤ k +ℤ pos 1)) (2 * h) ≡ cond (rule k) (k +ℤ pos 1) k
odd-half rule k h some =
    nearest-half rule (pos h *ℤ (pos 2 *ℤ k +ℤ pos 1)) k (2 * h) (omega arith) (linear (k ∷ []) nothing (search reading depth 30) (omega arith))

-- a rule that turns with the parity: of a floor q it says what it does not of q + 1
pub nearest-cancel : (rule : ℤ → Bool) → ((q : ℤ) → rule (q +ℤ pos 1) ≡ not (rule q)) → HalvesCancel (nearest rule)
nearest-cancel rule turns k h some =
    ap₂ ◌+ℤ◌
    (odd-half rule k h some)
    (ap (λ z. nearest rule (pos h *ℤ z) (2 * h)) (next k) ∙ odd-half rule (k +ℤ pos 1) h some ∙ ap (λ b. cond b (k +ℤ pos 1 +ℤ pos 1) (k +ℤ pos 1)) (turns k))
    ∙ together (rule k)
  where
    next : (k : ℤ) → pos 2 *ℤ k +ℤ pos 3 ≡ pos 2 *ℤ (k +ℤ pos 1) +ℤ pos 1
    next k = linear (k ∷ []) nothing (search reading depth 30) (omega arith)

    together : (up : Bool) → cond up (k +ℤ pos 1) k +ℤ cond (not up) (k +ℤ pos 1 +ℤ pos 1) (k +ℤ pos 1) ≡ pos 2 *ℤ k +ℤ pos 2
    together true = linear (k ∷ []) nothing (search reading depth 30) (omega arith)
    together false = linear (k ∷ []) nothing (search reading depth 30) (omega arith)

-- 1/2 and 3/2 together become 3
pub grown-halves : GrowingDoesNotCancel
grown-halves rule grows cancel = three-is-not-two (sym grown ∙ cancel (pos 0) 1 (omega arith))
  where
    grown : nearest rule (pos 1) 2 +ℤ nearest rule (pos 3) 2 ≡ pos 3
    grown =
        ap₂ ◌+ℤ◌
        (odd-half rule (pos 0) 1 (omega arith) ∙ ap (λ b. cond b (pos 1) (pos 0)) (grows (pos 0) (pos-nonneg 0)))
        (odd-half rule (pos 1) 1 (omega arith) ∙ ap (λ b. cond b (pos 2) (pos 1)) (grows (pos 1) (pos-nonneg 1)))

    three-is-not-two : pos 3 ≡ pos 2 → ⊥
    three-is-not-two e = linear [] e (search reading depth 30) (omega arith)

-- ---- the rule in use

pub rounded-error : Nearest rounded
rounded-error = nearest-error halves_even

pub rounded-bound : (n : ℤ) (d k : ℕ) → zero < d → Bound n (k * d) → Bound (rounded n d) k
rounded-bound = nearest-bound halves_even

-- what the rule says of a size
is_odd : (a : ℕ) → eqb (a % 2) 1 ≡ true → a % 2 ≡ 1
is_odd a e = eqb→eq (a % 2) 1 (subst T (sym e) tt)

is-even : (a : ℕ) → eqb (a % 2) 1 ≡ false → a % 2 ≡ 0
is-even a e = go (a % 2) (omega arith) e
  where
    go : (x : ℕ) → x < 2 → eqb x 1 ≡ false → x ≡ 0
    go zero h e = refl
    go (suc zero) h e = absurd (subst T e tt)
    go (suc (suc x)) h e = omega arith

-- the next number has the other parity
flips : (a b : ℕ) → (a % 2) + (b % 2) ≡ 1 → eqb (a % 2) 1 ≡ not (eqb (b % 2) 1)
flips a b e = go (a % 2) (b % 2) e
  where
    go : (x y : ℕ) → x + y ≡ 1 → eqb x 1 ≡ not (eqb y 1)
    go zero zero e = absurd (omega arith)
    go zero (suc zero) e = refl
    go zero (suc (suc y)) e = absurd (omega arith)
    go (suc zero) zero e = refl
    go (suc zero) (suc y) e = absurd (omega arith)
    go (suc (suc x)) y e = absurd (omega arith)

even-turns : (q : ℤ) → halves_even (q +ℤ pos 1) ≡ not (halves_even q)
even-turns (pos a) = flips (a + 1) a (omega arith)
even-turns (negsuc zero) = refl
even-turns (negsuc (suc a)) = ap halves_even next ∙ flips (suc a) (suc (suc a)) (omega arith)
  where
    next : negsuc (suc a) +ℤ pos 1 ≡ negsuc a
    next = linear [] nothing (search reading depth 30) (omega arith)

even-turns-over : (q : ℤ) → halves_even (neg_ℤ q -ℤ pos 1) ≡ not (halves_even q)
even-turns-over (pos zero) = refl
even-turns-over (pos (suc a)) = ap halves_even over ∙ flips (suc (suc a)) (suc a) (omega arith)
  where
    over : negsuc a -ℤ pos 1 ≡ negsuc (suc a)
    over = linear [] nothing (search reading depth 30) (omega arith)
even-turns-over (negsuc a) = ap halves_even over ∙ flips a (suc a) (omega arith)
  where
    over : pos (suc a) -ℤ pos 1 ≡ pos a
    over = linear [] nothing (search reading depth 30) (omega arith)

pub rounded-odd : OddRounding rounded
rounded-odd = nearest-odd halves_even even-turns-over

pub halves-cancel : HalvesCancel rounded
halves-cancel = nearest-cancel halves_even even-turns

pub rounded-even : HalvesToEven rounded
rounded-even n q d some half = ap parity (nearest-half halves_even n q d some half) ∙ even-one (halves_even q) refl
  where
    even-one : (b : Bool) → halves_even q ≡ b → parity (cond b (q +ℤ pos 1) q) ≡ 0
    even-one true e = is-even (nat_abs (q +ℤ pos 1)) (even-turns q ∙ ap not e)
    even-one false e = is-even (nat_abs q) e

-- an even number that is at most a half away
module _ (n r : ℤ) (d : ℕ) (some : zero < d) (even : parity r ≡ 0) (near : Within (pos d) (pos 2 *ℤ (pos d *ℤ r -ℤ n))) where
  stays : halves_even r ≡ false
  stays = ap (λ p. eqb p 1) even

  -- a half above r
  from-above : (pos 2 *ℤ (pos d *ℤ r -ℤ n)) ≤ℤ neg_ℤ (pos d) → rounded n d ≡ r
  from-above l =
      nearest-half halves_even n r d some (linear (n ∷ r ∷ []) (l & near) (search reading depth 30) (omega arith))
      ∙ ap (λ b. cond b (r +ℤ pos 1) r) stays

  -- a half below r, and so above r - 1
  from-below : pos d ≤ℤ (pos 2 *ℤ (pos d *ℤ r -ℤ n)) → rounded n d ≡ r
  from-below l =
      nearest-half halves_even n (r -ℤ pos 1) d some (linear (n ∷ r ∷ []) (l & near) (search reading depth 30) (omega arith))
      ∙ rises (halves_even (r -ℤ pos 1)) (sym (even-turns (r -ℤ pos 1)) ∙ ap halves_even (again r) ∙ stays)
      ∙ again r
    where
      again : (r : ℤ) → r -ℤ pos 1 +ℤ pos 1 ≡ r
      again r = linear (r ∷ []) nothing (search reading depth 30) (omega arith)

      rises : (b : Bool) → not b ≡ false → cond b (r -ℤ pos 1 +ℤ pos 1) (r -ℤ pos 1) ≡ r -ℤ pos 1 +ℤ pos 1
      rises true e = refl
      rises false e = absurd (subst T e tt)

  pub even-unique : rounded n d ≡ r
  even-unique =
      ⊎_elim from-above
      (λ l. ⊎_elim from-below (λ u. nearest-unique halves_even n r d some l u) (≤ℤ-total (pos d) (pos 2 *ℤ (pos d *ℤ r -ℤ n))))
      (≤ℤ-total (pos 2 *ℤ (pos d *ℤ r -ℤ n)) (neg_ℤ (pos d)))

-- ---- by quotient and remainder

module _ (a d : ℕ) (some : zero < d) where
  pub rounded-up : d - a % d < a % d + a / d % 2 → rounded (pos a) d ≡ pos (a / d + 1)
  rounded-up l =
      nearest-cases halves_even (pos a) d (λ r. r ≡ pos (a / d + 1))
      (λ _. refl)
      (λ s. absurd (linear [] s (search reading depth 30) (omega (arith, l, div-add-mod a d, mod-lt a some))))
      (λ _ _. refl)
      (λ e down. absurd (linear [] e (search reading depth 30) (omega (arith, l, is-even (a / d) down, div-add-mod a d, mod-lt a some))))

  pub rounded-down : a % d + a / d % 2 ≤ d - a % d → rounded (pos a) d ≡ pos (a / d)
  rounded-down l =
      nearest-cases halves_even (pos a) d (λ r. r ≡ pos (a / d))
      (λ p. absurd (linear [] p (search reading depth 30) (omega (arith, l, div-add-mod a d, mod-lt a some))))
      (λ _. refl)
      (λ e up. absurd (linear [] e (search reading depth 30) (omega (arith, l, is_odd (a / d) up, div-add-mod a d, mod-lt a some))))
      (λ _ _. refl)

-- ---- by an even divisor

pub parity-bound : (q : ℤ) → Bound (pos (parity q)) 1
parity-bound q = bound-pos (omega arith)

module _ (n : ℤ) (h : ℕ) (some : zero < h) where
  abbrev under : ℤ
  under = floor n (2 * h)

  abbrev raised : ℤ
  raised = n +ℤ (pos h -ℤ pos 1) +ℤ pos (parity under)

  pub rounded-shift : shr_z raised (2 * h) ≡ rounded n (2 * h)
  rounded-shift =
      nearest-cases halves_even n (2 * h) (λ r. shr_z raised (2 * h) ≡ r)
      (λ p. floor-unique raised (under +ℤ pos 1) (2 * h) (omega arith)
      (linear (n ∷ under ∷ []) p (search reading depth 30) (omega arith))
      (linear (n ∷ under ∷ []) (rest_below n (2 * h) (omega arith)) (search reading depth 30) (omega (arith, some))))
      (λ s. floor-unique raised under (2 * h) (omega arith)
      (linear (n ∷ under ∷ []) (rest-nonneg n (2 * h) (omega arith)) (search reading depth 30) (omega (arith, some)))
      (linear (n ∷ under ∷ []) s (search reading depth 30) (omega (arith, some))))
      (λ e up. floor-unique raised (under +ℤ pos 1) (2 * h) (omega arith)
      (linear (n ∷ under ∷ []) e (search reading depth 30) (omega (arith, is_odd (nat_abs under) up)))
      (linear (n ∷ under ∷ []) e (search reading depth 30) (omega (arith, some))))
      (λ e down. floor-unique raised under (2 * h) (omega arith)
      (linear (n ∷ under ∷ []) e (search reading depth 30) (omega (arith, some)))
      (linear (n ∷ under ∷ []) e (search reading depth 30) (omega (arith, is-even (nat_abs under) down))))
