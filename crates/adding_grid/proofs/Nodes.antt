-- The nodes' checks, of the numbers that the machine holds.
--     flag      what `momenta_within` answers
--     at-node   what `check_node` answers of node k of the buffers
-- Assumes nothing.
use mathlib.Core.Path.{◌≡◌, sym, ap₂, ◌∙◌}
use mathlib.Core.Bool.{Bool}
use mathlib.Core.List.{List}
use Prim.Native.Nat.{ℕ}
use lib.ListN.{get_or}
use lib.IntN.{ℤ, pos}
use mir.Syntax.{w64}
use mir.Val.{SFits, to_z, of_z}
use mir.Facts.{to_z-of_z}
use Rattle.refusal.specs.Refused.{Answer}
use Rattle.apic.specs.Step.{grids_of}
use Rattle.adding.specs.Adding.{check_node, check_node_at, valid_present}

pub flag : {px py : ℤ} {r b : Bool} (M : ℕ) → SFits w64 px → SFits w64 py → r ≡ valid_present M (to_z w64 (of_z w64 px)) (to_z w64 (of_z w64 py)) → r ≡ b → valid_present M px py ≡ b
flag M f g e t = ap₂ (λ x y. valid_present M x y) (sym (to_z-of_z f)) (sym (to_z-of_z g)) ∙ sym e ∙ t

pub at-node : {told : Answer Unit} (mass : List ℕ) (px py : List ℤ) (gain : List ℕ) (k : ℕ) → SFits w64 (get_or px k (pos 0)) → SFits w64 (get_or py k (pos 0)) → told ≡ check_node k (get_or mass k 0) (to_z w64 (of_z w64 (get_or px k (pos 0)))) (to_z w64 (of_z w64 (get_or py k (pos 0)))) (get_or gain k 0) → check_node_at (grids_of mass px py) gain k ≡ told
at-node mass px py gain k f g e = ap₂ (λ x y. check_node k (get_or mass k 0) x y (get_or gain k 0)) (sym (to_z-of_z f)) (sym (to_z-of_z g)) ∙ sym e
