-- A grid with something added at every node. Assumes nothing.
use Rattle.std.specs.Prelude.{List, ℕ, ◌+◌, ◌*◌, get_or, ℤ, nat_abs, ◌+ℤ◌}
use Rattle.apic.specs.Step.{grid, node}

-- f(i, j) added at node (i, j)
unfoldable pub plus : ℕ → ℕ → List ℤ → (ℕ → ℕ → ℤ) → List ℤ
plus nx ny l f = grid nx ny (λ i j. node nx l i j +ℤ f i j)

-- the same of masses; f is never negative
unfoldable pub mass_plus : ℕ → ℕ → List ℕ → (ℕ → ℕ → ℤ) → List ℕ
mass_plus nx ny l f = grid nx ny (λ i j. get_or l (j * nx + i) 0 + nat_abs (f i j))
