-- A turn of `write_all`: what was written is sent, and no longer left. Assumes nothing.
use Rattle.std.proofs.Common.{◌≡◌, ℕ, ◌-◌, List, ◌++◌, length, take, drop, sym, ap, ◌∙◌, append_assoc, take-append-drop}
use Rattle.std.proofs.lemmas.List.{take_rest}
use Rattle.std.specs.Io.KnownBytes.{Appends}
use Rattle.std.proofs.KnownBytes.{Appends-trans, Appends-kept}
use Rattle.streams.proofs.write_all.Goals as goal
use Rattle.streams.proofs.write_all.Goals.{in-Ok, in-Err+else-ne}

-- a part of what is left goes behind what was sent
sends : (text sent left : List ℕ) (n : ℕ) → text ≡ sent ++ left → text ≡ (sent ++ take n left) ++ take (length left - n) (drop n left)
sends text sent left n e =
    e ∙ ap (λ l. sent ++ l) (sym (ap (λ l. take n left ++ l) (take_rest left n) ∙ take-append-drop n left)) ∙ sym (append_assoc sent (take n left) (take (length left - n) (drop n left)))

pub loop-preserved : goal.loop-preserved
loop-preserved g c =
    let (sent, split, appended) = c.loop.invariant in
    let left = c.loop.left.now in
    elim c.match-write.branch [
      | in-Ok w ↦ (sent ++ take w.in-Ok.put left, sends _ sent left w.in-Ok.put split ∙ ap (λ b. (sent ++ take w.in-Ok.put left) ++ b.now) (sym w.left-is), Appends-trans _ _ _ _ _ appended w.in-Ok.ensures.bytes)
      | in-Err+else-ne w ↦ (sent, split ∙ ap (λ b. sent ++ b.now) (sym w.left-is), Appends-kept _ _ _ _ appended w.in-Err.ensures.bytes)
    ]
