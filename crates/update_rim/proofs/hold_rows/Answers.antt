-- `update_rim::hold_rows`: the band's rows are the first nodes and the last. Assumes nothing.
use Rattle.std.proofs.Common.{◌≡◌, ℕ, ◌+◌, ◌-◌, ◌*◌, ◌≤◌, ◌<◌, ◌||◌, List, length, ℤ, ap, ◌∙◌, subst, arith}
use Rattle.update_rim.specs.Internal.{cleared, in_part, in_rows, BandRoom}
use Rattle.update_rim.proofs.Cleared.{cleared-cong, cleared-twice}
use Rattle.update_rim.proofs.Band.{two-parts}
use Rattle.update_rim.proofs.Room.{some, narrow-y, part_room}
use Rattle.update_rim.proofs.hold_rows.Goals as goal

module _ {nx ny width : ℕ} {u : List ℤ} (room : BandRoom nx ny width u) where
  first : 0 * nx + width * nx ≤ length u
  first = part_room room 0 (omega (arith, narrow-y room))

  last : (ny - width) * nx + width * nx ≤ length u
  last = part_room room (ny - width) (omega (arith, narrow-y room))

  rows : {v w : List ℤ} → v ≡ cleared (in_part 0 (width * nx)) u → w ≡ cleared (in_part ((ny - width) * nx) (width * nx)) v → w ≡ cleared (in_rows width nx ny) u
  rows e f =
      f ∙ ap (cleared (in_part ((ny - width) * nx) (width * nx))) e
      ∙ cleared-twice (in_part 0 (width * nx)) (in_part ((ny - width) * nx) (width * nx)) u
      ∙ cleared-cong (λ k. in_part 0 (width * nx) k || in_part ((ny - width) * nx) (width * nx) k) u (in_rows width nx ny)
      (λ k h. two-parts nx ny width k (some room) (narrow-y room) (subst (λ n. k < n) room.count h))

pub returns : goal.returns
returns c = rows c.requires c.clear_part.ensures c.clear_part-2.ensures
