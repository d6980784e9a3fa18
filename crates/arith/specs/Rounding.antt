-- Rounding of n / d, n an integer and d a positive natural number: to nearest; at a half, as the rule says.
--     floor, rest                   n / d rounded down, and what that leaves of n
--     nearest rule n d              n / d to nearest; where it is a half above its floor, up if the rule says so of the floor
--     halves_even, rounded          the rule in use, a half goes to the even neighbour; and the rounding with it
--     Nearest                       what the laws over any rounding use of it: |2·(d·r - n)| ≤ d
--     HalvesToEven                  a half becomes even
--     OddRounding, HalvesCancel     of -n the negative of that of n; the errors of neighbouring halves cancel
--     GrowingDoesNotCancel          .. which is not so where halves above 0 grow
-- Assumes nothing.
use Rattle.std.specs.Prelude.{◌≡◌, Bool, true, cond, ◌&&◌, ◌||◌, ℕ, zero, ◌*◌, ◌%◌, ◌<◌, eqb, ℤ, pos, neg_ℤ, nat_abs, ◌+ℤ◌, ◌-ℤ◌, ◌*ℤ◌, ◌≤ℤ◌}
use Rattle.std.specs.Int.Signed.{lt_z, le_z, shr_z}
use Rattle.arith.specs.Order.{Within}

abbrev pub floor : ℤ → ℕ → ℤ
floor n d = shr_z n d

abbrev pub rest : ℤ → ℕ → ℤ
rest n d = n -ℤ pos d *ℤ floor n d

-- past the half, or at it where the rule says so
abbrev pub goes_up : (ℤ → Bool) → ℤ → ℕ → Bool
goes_up rule n d = lt_z (pos d) (pos 2 *ℤ rest n d) || (le_z (pos d) (pos 2 *ℤ rest n d) && rule (floor n d))

unfoldable pub nearest : (ℤ → Bool) → ℤ → ℕ → ℤ
nearest rule n d = cond (goes_up rule n d) (floor n d +ℤ pos 1) (floor n d)

-- 1 for an odd number, 0 for an even one
abbrev pub parity : ℤ → ℕ
parity q = nat_abs q % 2

-- up from an odd floor, so to the even neighbour
abbrev pub halves_even : ℤ → Bool
halves_even q = eqb (parity q) 1

-- the engine's rounding: every definition that rounds cites it
abbrev pub rounded : ℤ → ℕ → ℤ
rounded = nearest halves_even

abbrev pub Nearest : (ℤ → ℕ → ℤ) → Type 0
Nearest round = (n : ℤ) (d : ℕ) → zero < d → Within (pos d) (pos 2 *ℤ (pos d *ℤ round n d -ℤ n))

-- of -n, the negative of that of n
abbrev pub OddRounding : (ℤ → ℕ → ℤ) → Type 0
OddRounding round = (n : ℤ) (d : ℕ) → zero < d → round (neg_ℤ n) d ≡ neg_ℤ (round n d)

-- a number a half above q becomes even
abbrev pub HalvesToEven : (ℤ → ℕ → ℤ) → Type 0
HalvesToEven round = (n q : ℤ) (d : ℕ) → zero < d → pos 2 *ℤ (n -ℤ pos d *ℤ q) ≡ pos d → parity (round n d) ≡ 0

-- of (2·k + 1)/2 and (2·k + 3)/2, with any half h of the divisor: together as much as the two halves, 2·k + 2
abbrev pub HalvesCancel : (ℤ → ℕ → ℤ) → Type 0
HalvesCancel round =
    (k : ℤ) (h : ℕ) → zero < h → round (pos h *ℤ (pos 2 *ℤ k +ℤ pos 1)) (2 * h) +ℤ round (pos h *ℤ (pos 2 *ℤ k +ℤ pos 3)) (2 * h) ≡ pos 2 *ℤ k +ℤ pos 2

-- a rule by which halves above 0 grow, as where they go away from zero, or up
abbrev pub Grows : (ℤ → Bool) → Type 0
Grows rule = (q : ℤ) → pos 0 ≤ℤ q → rule q ≡ true

abbrev pub GrowingDoesNotCancel : Type 0
GrowingDoesNotCancel = (rule : ℤ → Bool) → Grows rule → HalvesCancel (nearest rule) → ⊥
