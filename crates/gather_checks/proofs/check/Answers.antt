-- `gather_checks::check` meets its contract. Assumes nothing.
use Rattle.std.proofs.Common.{◌∙◌, rules, to_z-of_z}
use Rattle.refusal.specs.Refused.{gives}
use Rattle.gather_point.proofs.Numbers.{Read}
use Rattle.gathering.specs.Gather.{too_fast, too_steep, off_grid, first_of}
use Rattle.gathering.specs.Parts.{check_of}
use Rattle.gather_checks.proofs.check.Goals as goal

pub returns : goal.returns
unfolding check_of
returns c =
    let s = c.args in
    let a : Read s.a = record { v = search rules; bx = search rules; by = search rules } in
    let b : Read s.b = record { v = search rules; bx = search rules; by = search rules } in
    c.answer.ensures
    ∙ (λ i. first_of (c.either_beyond-fast.ensures i) (c.any_beyond-steep.ensures i) (c.is_off_grid-off.ensures i) s.k (gives tt))
    ∙ (λ i. first_of
    (too_fast (a.v i) (b.v i))
    (too_steep (a.bx i) (a.by i) (b.bx i) (b.by i))
    (off_grid s.nx s.ny (to_z-of_z c.ranges.x i) (to_z-of_z c.ranges.y i))
    s.k
    (gives tt))
