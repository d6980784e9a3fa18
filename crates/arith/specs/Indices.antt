-- The index of a node: node (i, j) of a grid of nx by ny nodes has index j·nx + i.
--     column, line                  that index is of column i and line j
--     column-below, line-below      an index of the grid is of one of its columns and lines
--     index                         an index by its line and column
--     index_below                   the index of a node is below the number of nodes
-- Assumes nothing.
use Rattle.std.specs.Prelude.{◌≡◌, ℕ, ◌+◌, ◌*◌, ◌/◌, ◌%◌, ◌<◌, ◌≤◌}
use Rattle.std.proofs.Common.{ap, subst, ◌∙◌, add-zero, div-add-mod', mod-lt, mod-eq_of_lt, div-lt_iff_lt-mul, mul_comm, suc-mul, mul-le-mul_right, lt_of_lt_of_le, arith}
use Rattle.std.proofs.Math.Nat.{div-eq_of_lt, mul-add-div_right, mul-add-mod_self_right}

module _ (nx : ℕ) (some : 0 < nx) where
  pub column : (i j : ℕ) → i < nx → (j * nx + i) % nx ≡ i
  column i j h = mul-add-mod_self_right j nx i ∙ mod-eq_of_lt h

  pub line : (i j : ℕ) → i < nx → (j * nx + i) / nx ≡ j
  line i j h = mul-add-div_right some j i ∙ ap (λ k. j + k) (div-eq_of_lt h) ∙ add-zero j

  pub column-below : (n : ℕ) → n % nx < nx
  column-below n = mod-lt n some

  pub line-below : (ny n : ℕ) → n < nx * ny → n / nx < ny
  line-below ny n h = (div-lt_iff_lt-mul some).1 (subst (λ k. n < k) (mul_comm nx ny) h)

pub index : (nx n : ℕ) → n / nx * nx + n % nx ≡ n
index nx n = div-add-mod' n nx

pub index_below : (nx ny i j : ℕ) → i < nx → j < ny → j * nx + i < nx * ny
index_below nx ny i j h g =
    lt_of_lt_of_le (next (j * nx) i nx h) (subst (λ k. j * nx + nx ≤ k) (mul_comm ny nx) (rows j ny g))
  where
    next : (a i n : ℕ) → i < n → a + i < a + n
    next a i n h = omega arith

    rows : (j ny : ℕ) → j < ny → j * nx + nx ≤ ny * nx
    rows j ny g = rw (← suc-mul j nx) (mul-le-mul_right nx g)
