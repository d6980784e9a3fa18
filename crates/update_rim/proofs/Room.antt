-- What a grid with room for a band gives the functions: indices that lie within it, and numbers that fit.
--     some, narrow-x, narrow-y      there are nodes, and the band is no wider than the grid
--     row_room, part_room           a row's nodes, and the nodes of the band's rows, are nodes of the grid
--     node-fits                     a number of nodes fits
--     room-kept                     velocities of the same number have the same room
-- Assumes nothing.
use mathlib.Core.Path.{◌≡◌, sym, ◌∙◌, subst}
use mathlib.Core.List.{List}
use Prim.Native.Nat.{ℕ, ◌+◌, ◌*◌, ◌≤◌, ◌<◌}
use native.Mathlib.Nat.{mul_comm, mul-le-mul, mul-le-mul_right, add-mul, le_trans, lt_of_le_of_lt}
use native.Mathlib.Omega.{arith}
use lib.Dec.{lit<}
use lib.ListN.{length}
use lib.IntN.{ℤ}
use mir.Syntax.{w64}
use mir.Val.{Fits}
use Rattle.limits.specs.Limits.{most_side}
use Rattle.update_rim.specs.Internal.{BandRoom}

module _ {nx ny width : ℕ} {u : List ℤ} (room : BandRoom nx ny width u) where
  pub some : 0 < nx
  some = omega (arith, room.sizes.x-least)

  pub narrow-x : width ≤ nx
  narrow-x = omega (arith, room.sizes.x-least, room.width-most)

  pub narrow-y : width ≤ ny
  narrow-y = omega (arith, room.sizes.y-least, room.width-most)

  pub row_room : {j : ℕ} → j < ny → j * nx + nx ≤ length u
  row_room {j} h = omega (arith, mul-le-mul_right nx h, mul_comm nx ny, room.count)

  pub part_room : (from : ℕ) → from + width ≤ ny → from * nx + width * nx ≤ length u
  part_room from h = omega (arith, add-mul from width nx, mul-le-mul_right nx h, mul_comm nx ny, room.count)

  pub node-fits : {n : ℕ} → n ≤ length u → Fits w64 n
  node-fits h =
      record { fits = lt_of_le_of_lt (le_trans h (subst (λ n. n ≤ most_side * most_side) (sym room.count) (mul-le-mul room.sizes.x-most room.sizes.y-most))) (lit< tt) }

  pub room-kept : {v : List ℤ} → length v ≡ length u → BandRoom nx ny width v
  room-kept e = record { sizes = room.sizes; width-most = room.width-most; count = e ∙ room.count }
