-- `update_rim::hold_columns`: a turn clears both ends of a row. Assumes nothing.
use Rattle.std.proofs.Common.{◌≡◌, ℕ, ◌+◌, ◌-◌, ◌*◌, ◌<◌, ◌||◌, List, ℤ, sym, ap, ◌∙◌, subst, arith}
use Rattle.update_rim.specs.Internal.{cleared, in_part, in_columns, BandRoom}
use Rattle.update_rim.proofs.Cleared.{cleared-cong, cleared-none, cleared-twice}
use Rattle.update_rim.proofs.Band.{no_row, row-turn, all-rows}
use Rattle.update_rim.proofs.Room.{some, narrow-x}
use Rattle.update_rim.proofs.hold_columns.Invariants.{done}
use Rattle.update_rim.proofs.hold_columns.Goals as goal

-- a turn clears both ends of row j
turned : {nx ny width : ℕ} {u₀ : List ℤ} → BandRoom nx ny width u₀ → (j : ℕ) {u v w : List ℤ} → u ≡ cleared (done nx width j) u₀ → v ≡ cleared (in_part (j * nx) width) u → w ≡ cleared (in_part (j * nx + nx - width) width) v → w ≡ cleared (done nx width (j + 1)) u₀
turned {nx} {ny} {width} {u₀} room j e f g =
    g ∙ ap (cleared (in_part (j * nx + nx - width) width)) (f ∙ ap (cleared (in_part (j * nx) width)) e ∙ cleared-twice (done nx width j) (in_part (j * nx) width) u₀)
    ∙ cleared-twice (λ k. done nx width j k || in_part (j * nx) width k) (in_part (j * nx + nx - width) width) u₀
    ∙ cleared-cong (λ k. (done nx width j k || in_part (j * nx) width k) || in_part (j * nx + nx - width) width k) u₀ (done nx width (j + 1)) (λ k h. row-turn nx width j (some room) (narrow-x room) k)

pub loop-j-init : goal.loop-j-init
loop-j-init c = sym (cleared-none (done c.args.nx c.args.width 0) c.args.velocities.now (no_row c.args.nx c.args.width))

pub loop-j-preserved : goal.loop-j-preserved
loop-j-preserved c =
    turned c.requires c.loop-j.j c.loop-j.invariant c.clear_part.ensures c.clear_part-in-loop-j.ensures

pub returns : goal.returns
returns c =
    let a = c.args in
    let u = a.velocities.now in
    let all : c.loop-j.j ≡ a.ny = omega arith in
    c.loop-j.invariant
    ∙ ap (λ j. cleared (done a.nx a.width j) u) all
    ∙ cleared-cong (done a.nx a.width a.ny) u (in_columns a.width a.nx)
    (λ k h. all-rows a.nx a.ny a.width k (some c.requires) (subst (λ n. k < n) c.requires.count h))
