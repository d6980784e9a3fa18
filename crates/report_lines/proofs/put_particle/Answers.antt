-- The line is its form with the numbers in the gaps. Assumes nothing.
use Prim.Native.Nat.{ℕ, ◌<◌}
use borrow.Author.Rules.{rules}
use mathlib.Core.Path.{sym}
use lib.IntN.{pos}
use lib.ListN.{length, get_or}
use mir.Syntax.{w64}
use mir.Val.{SFits}
use Rattle.text.proofs.Puts.{room_as, put_as}
use Rattle.report.proofs.Texts.{particle-text}
use Rattle.report_lines.proofs.put_particle.Goals as goal

pub put_filled-requires : goal.put_filled-requires
put_filled-requires c =
    let fits : (k : ℕ) → k < length c.numbers_of-numbers.result → SFits w64 (get_or c.numbers_of-numbers.result k (pos 0)) = λ k h. search rules in
    room_as (sym (particle-text c.args.p (λ k h. (fits k h).sfits) c.numbers_of-numbers.ensures)) c.requires

pub returns : goal.returns
returns c =
    let fits : (k : ℕ) → k < length c.numbers_of-numbers.result → SFits w64 (get_or c.numbers_of-numbers.result k (pos 0)) = λ k h. search rules in
    put_as (particle-text c.args.p (λ k h. (fits k h).sfits) c.numbers_of-numbers.ensures) c.put_filled.ensures
