-- The definitions compute. Twenty nodes of mass 1 with momenta 2 and −6, 1/2 and −3/2 of a unit, go to 0 and −2; a node without
-- mass stays at 0 under gravity; a refused grid stays as it was; drag rounds; each edge holds its nodes. Assumes nothing.
use mathlib.Core.Path.{◌≡◌, refl}
use mathlib.Core.List.{List, [], ◌∷◌, ◌++◌}
use Prim.Native.Nat.{ℕ}
use lib.ListN.{replicate, set}
use lib.IntN.{ℤ, pos, negsuc}
use Rattle.refusal.specs.Refused.{Answer, refused, done}
use Rattle.arith.specs.Rounding.{nearest, rounded}
use Rattle.limits.specs.declared.Caller.TheVariants.{Bench}
use Rattle.spline.specs.Spline.{D}
use Rattle.apic.specs.Step.{Axis, along_x, along_y, node_velocity, after_drag, updated_velocity}
use Rattle.settings.specs.declared.Edge.{Edge}
use Rattle.settings.specs.declared.Edge.TheVariants.{Open, Sticky, Slip}
use Rattle.settings.specs.declared.Settings.{Settings}
use Rattle.entry.specs.Entry.{checked_forces, begin_answer}
use Rattle.update.specs.Update.{check_node, check_nodes, velocities, update_answer, UpdateIs}

-- 4 by 5 nodes
abbrev plain : ℤ → ℤ → Settings
plain gx gy = record { nx = 4; ny = 5; gx = gx; gy = gy; edge = Open; drag = 0 }

halves : (update_answer Bench (plain (pos 0) (pos 0)) (replicate 20 1) (replicate 20 (pos 2)) (replicate 20 (negsuc 5)) ≡ done) × ((velocities D (plain (pos 0) (pos 0)) along_x (replicate 20 1) (replicate 20 (pos 2)) ≡ replicate 20 (pos 0)) × (velocities D (plain (pos 0) (pos 0)) along_y (replicate 20 1) (replicate 20 (negsuc 5)) ≡ replicate 20 (negsuc 1)))
unfolding nearest node_velocity after_drag updated_velocity check_node check_nodes velocities checked_forces begin_answer update_answer
halves = (refl, (refl, refl))

without-mass : velocities D (plain (pos 7) (pos 9)) along_x (set (replicate 20 1) 1 0) (replicate 20 (pos 0)) ≡ set (replicate 20 (pos 7)) 1 (pos 0)
unfolding nearest node_velocity after_drag updated_velocity velocities
without-mass = refl

too-heavy : update_answer Bench (plain (pos 0) (pos 0)) (set (replicate 20 1) 5 8796093022209) (replicate 20 (pos 2)) (replicate 20 (negsuc 1)) ≡ refused 11 5
unfolding nearest node_velocity check_node check_nodes checked_forces begin_answer update_answer
too-heavy = refl

still-there : UpdateIs Bench (plain (pos 0) (pos 0)) (set (replicate 20 1) 5 8796093022209) (replicate 20 (pos 2)) (replicate 20 (negsuc 1)) (refused 11 5) (replicate 20 (pos 2)) (replicate 20 (negsuc 1))
unfolding nearest node_velocity check_node check_nodes checked_forces begin_answer update_answer
still-there = record { answer = refl; left_is = refl }

-- ---- edges and drag

-- a velocity of 3, and of −3, loses 3·128/256 = 3/2, rounded to 2; of 1 it loses a half, rounded to 0
slowed : (after_drag rounded 128 (pos 3) ≡ pos 1) × ((after_drag rounded 128 (negsuc 2) ≡ negsuc 0) × (after_drag rounded 128 (pos 1) ≡ pos 1))
unfolding nearest after_drag
slowed = (refl, (refl, refl))

abbrev rimmed : Edge → Settings
rimmed edge = record { nx = 5; ny = 4; gx = pos 7; gy = pos 9; edge = edge; drag = 0 }

abbrev moving : Edge → Axis → List ℤ
moving edge a = velocities D (rimmed edge) a (replicate 20 1) (replicate 20 (pos 0))

abbrev row : ℤ → ℤ → ℤ → ℤ → ℤ → List ℤ
row a b c d e = a ∷ b ∷ c ∷ d ∷ e ∷ []

-- slip of width 1 on 5 by 4 nodes: the columns 0 and 4 on x, the rows 0 and 3 on y, the corners in both
columns : moving (Slip 1) along_x ≡ row (pos 0) (pos 7) (pos 7) (pos 7) (pos 0) ++ row (pos 0) (pos 7) (pos 7) (pos 7) (pos 0) ++ row (pos 0) (pos 7) (pos 7) (pos 7) (pos 0) ++ row (pos 0) (pos 7) (pos 7) (pos 7) (pos 0)
unfolding nearest node_velocity after_drag updated_velocity velocities
columns = refl

rows : moving (Slip 1) along_y ≡ replicate 5 (pos 0) ++ replicate 10 (pos 9) ++ replicate 5 (pos 0)
unfolding nearest node_velocity after_drag updated_velocity velocities
rows = refl

-- sticky of width 2: every row of four is in the band, and of the columns the one in the middle is in none
band : moving (Sticky 2) along_x ≡ replicate 20 (pos 0)
unfolding nearest node_velocity after_drag updated_velocity velocities
band = refl

-- ---- limits

abbrev forced : ℤ → Edge → ℕ → Settings
forced gx edge drag = record { nx = 5; ny = 4; gx = gx; gy = pos 0; edge = edge; drag = drag }

-- nodes of mass 1 at rest, but for node 4, a corner, on x
abbrev answer_of : Settings → ℤ → Answer Unit
answer_of s momentum = update_answer Bench s (replicate 20 1) (set (replicate 20 (pos 0)) 4 momentum) (replicate 20 (pos 0))

-- 12 at a node of the band: after gravity it is one beyond the limit, and would rest; at the limit it is not told
in-the-band : (answer_of (forced (pos 1) (Sticky 1) 255) (pos 524288) ≡ refused 12 4) × (answer_of (forced (pos 1) (Sticky 1) 255) (pos 524284) ≡ done)
unfolding nearest node_velocity check_node check_nodes checked_forces begin_answer update_answer
in-the-band = (refl, refl)

-- 10 before 18 before 19
in_order : (answer_of (forced (pos 4097) (Slip 4) 256) (pos 0) ≡ refused 10 0) × (answer_of (forced (pos 0) (Sticky 0) 256) (pos 0) ≡ refused 18 0) × (answer_of (forced (pos 0) Open 256) (pos 0) ≡ refused 19 0)
unfolding checked_forces begin_answer update_answer
in_order = (refl, refl, refl)
