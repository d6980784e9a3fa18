-- The definitions compute: the edges of 20 and 21 at one node, the node that is told of several, and what is left.
-- Assumes nothing.
use mathlib.Core.Path.{◌≡◌, refl}
use mathlib.Core.List.{List, [], ◌∷◌}
use Prim.Native.Nat.{ℕ}
use lib.ListN.{replicate, set}
use lib.IntN.{pos, negsuc}
use Rattle.refusal.specs.Refused.{gives, refused, done}
use Rattle.limits.specs.declared.Caller.TheVariants.{Bench}
use Rattle.apic.specs.Step.{Grids, grids_of, node_mass, node_momentum}
use Rattle.particles.specs.Set.{set_from}
use Rattle.entry.specs.Entry.{checked_forces, begin_answer, entry_answer}
use Rattle.adding.specs.Adding.{check_node, check_nodes, mass_sums, momentum_sums, added_grids, adding_answer, AddingIs}

-- ---- one node

-- a mass of 2 may have 915,072 on either axis and in either direction, and not one more
along-x : (check_node 7 2 (pos 915072) (pos 0) 0 ≡ done) × (check_node 7 2 (negsuc 915071) (pos 0) 0 ≡ done) × (check_node 7 2 (pos 915073) (pos 0) 0 ≡ refused 20 7) × (check_node 7 2 (negsuc 915072) (pos 0) 0 ≡ refused 20 7)
unfolding check_node
along-x = (refl, refl, refl, refl)

along-y : (check_node 7 2 (pos 1) (pos 915072) 0 ≡ done) × (check_node 7 2 (pos 1) (negsuc 915071) 0 ≡ done) × (check_node 7 2 (pos 1) (pos 915073) 0 ≡ refused 20 7) × (check_node 7 2 (pos 1) (negsuc 915072) 0 ≡ refused 20 7)
unfolding check_node
along-y = (refl, refl, refl, refl)

massless : (check_node 0 0 (pos 0) (pos 0) 5 ≡ done) × (check_node 0 0 (pos 1) (pos 0) 5 ≡ refused 20 0) × (check_node 0 0 (pos 0) (negsuc 0) 5 ≡ refused 20 0)
unfolding check_node
massless = (refl, refl, refl)

-- 2^43 at most, before and after; 20 comes first where both are broken
heaviest : (check_node 3 8796093022208 (pos 0) (pos 0) 0 ≡ done) × (check_node 3 8796093022209 (pos 0) (pos 0) 0 ≡ refused 20 3) × (check_node 3 8796093022207 (pos 0) (pos 0) 1 ≡ done) × (check_node 3 8796093022207 (pos 0) (pos 0) 2 ≡ refused 21 3) × (check_node 3 8796093022209 (pos 0) (pos 0) 1 ≡ refused 20 3)
unfolding check_node
heaviest = (refl, refl, refl, refl, refl)

-- ---- grids of three nodes

abbrev held : Grids
held = grids_of (1 ∷ 2 ∷ 8796093022208 ∷ []) (pos 3 ∷ pos 0 ∷ negsuc 4 ∷ []) (pos 0 ∷ negsuc 6 ∷ pos 8 ∷ [])

abbrev gain : ℕ → Grids
gain last = grids_of (10 ∷ 20 ∷ last ∷ []) (pos 30 ∷ pos 40 ∷ pos 50 ∷ []) (pos 60 ∷ pos 70 ∷ pos 80 ∷ [])

sums : added_grids 3 held (gain 0) ≡ gives (grids_of (11 ∷ 22 ∷ 8796093022208 ∷ []) (pos 33 ∷ pos 40 ∷ pos 45 ∷ []) (pos 60 ∷ pos 63 ∷ pos 88 ∷ []))
unfolding check_node check_nodes mass_sums momentum_sums added_grids
sums = refl

-- the last node's 21, and before it the middle node's 20
first-told : (added_grids 3 held (gain 1) ≡ refused 21 2) × (added_grids 3 (grids_of held.mass held.x (pos 0 ∷ pos 915073 ∷ pos 8 ∷ [])) (gain 1) ≡ refused 20 1)
unfolding check_node check_nodes added_grids
first-told = (refl, refl)

-- ---- the operation, on 4 by 5 nodes without a particle: the nodes are looked at, and a refused call changes none

abbrev masses : List ℕ
masses = set (replicate 20 1) 6 0

no-particle : adding_answer Bench 4 5 [] (grids_of masses (replicate 20 (pos 0)) (replicate 20 (pos 0))) ≡ gives (grids_of masses (replicate 20 (pos 0)) (replicate 20 (pos 0)))
unfolding node_mass node_momentum set_from checked_forces begin_answer entry_answer check_node check_nodes mass_sums momentum_sums added_grids adding_answer
no-particle = refl

still-there : AddingIs Bench 4 5 [] masses (set (replicate 20 (pos 0)) 6 (pos 1)) (replicate 20 (pos 0)) (refused 20 6) masses (set (replicate 20 (pos 0)) 6 (pos 1)) (replicate 20 (pos 0))
unfolding node_mass node_momentum set_from checked_forces begin_answer entry_answer check_node check_nodes added_grids adding_answer
still-there = record { answer = refl; left_is = refl }

-- 1 where a buffer is one short, before any node is looked at
short : adding_answer Bench 4 5 [] (grids_of masses (replicate 19 (pos 1)) (replicate 20 (pos 0))) ≡ refused 1 0
unfolding checked_forces begin_answer entry_answer adding_answer
short = refl
