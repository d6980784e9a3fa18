-- Affine flows at work, on 6 by 5 nodes: a turn, a stretch and shear of three particles each, with what a step leaves of their
-- records, and of the turn a second one; a drift, with what two runs leave; and the turn with one velocity larger by one, which
-- does not come back.
-- Assumes nothing.
use Rattle.std.specs.Prelude.{◌≡◌, List, [], ◌∷◌, ℕ, replicate, ℤ, pos, neg_ℤ}
use Rattle.refusal.specs.Refused.{Answer, gives, refused, done}
use Rattle.arith.specs.Sums.{Each}
use Rattle.limits.specs.declared.Caller.TheVariants.{Bench}
use Rattle.particle.specs.declared.Particle.{Particle}
use Rattle.particles.specs.Set.{records_of, check_answer}
use Rattle.settings.specs.Settings.{still}
use Rattle.apic.specs.Step.{Axis, along_x, along_y, Grids}
use Rattle.simulation.specs.Step.{After, step_after}
use Rattle.simulation.specs.Run.{Completion, run_after}
use Rattle.affine_flow.specs.Flow.{Flow, Follows, drift, Unforced}

-- ---- flows

-- A by axis, B by velocity axis and offset axis
abbrev both : ℤ → ℤ → Axis → ℤ
both x y along_x = x
both x y along_y = y

abbrev entries : ℤ → ℤ → ℤ → ℤ → Axis → Axis → ℤ
entries xx xy yx yy along_x = both xx xy
entries xx xy yx yy along_y = both yx yy

-- vx = y/8 − 12.5, vy = 18.25 − x/8
abbrev pub turn : Flow
turn = record { A = both (neg_ℤ (pos 3200)) (pos 4672); B = entries (pos 0) (pos 128) (neg_ℤ (pos 128)) (pos 0) }

-- vx = x/4 − 25.25, vy = 33.5 − y/2
abbrev pub stretch : Flow
stretch = record { A = both (neg_ℤ (pos 6464)) (pos 8576); B = entries (pos 256) (pos 0) (pos 0) (neg_ℤ (pos 512)) }

-- vx = 2, vy = 3·x/32 − 9.5625
abbrev pub shear : Flow
shear = record { A = both (pos 512) (neg_ℤ (pos 2448)); B = entries (pos 0) (pos 0) (pos 96) (pos 0) }

-- vx = 7, vy = −4
abbrev pub gliding : Flow
gliding = drift (both (pos 1792) (neg_ℤ (pos 1024)))

-- ---- particles

-- with this B, place and velocity; `first`, `second` and `third` have identifier, mass and marks
abbrev particle : ℕ → ℕ → ℕ → (Axis → Axis → ℤ) → ℕ → ℕ → ℤ → ℤ → Particle
particle identifier mass marks B x y vx vy =
    record {
      identifier = identifier;
      mass = mass;
      x = x;
      y = y;
      vx = vx;
      vy = vy;
      bxx = B along_x along_x;
      bxy = B along_x along_y;
      byx = B along_y along_x;
      byy = B along_y along_y;
      marks = marks;
    }

abbrev first : (Axis → Axis → ℤ) → ℕ → ℕ → ℤ → ℤ → Particle
first = particle 3 5 40

abbrev second : (Axis → Axis → ℤ) → ℕ → ℕ → ℤ → ℤ → Particle
second = particle 8 2 0

abbrev third : (Axis → Axis → ℤ) → ℕ → ℕ → ℤ → ℤ → Particle
third = particle 9 11 255

-- the turn's, before and after a step, and after another
abbrev pub turning : List Particle
turning =
    first turn.B 130 100 (pos 0) (pos 2)
    ∷ second turn.B 146 124 (pos 3) (pos 0)
    ∷ third turn.B 202 84 (neg_ℤ (pos 2)) (neg_ℤ (pos 7))
    ∷ []

abbrev pub turned : List Particle
turned =
    first turn.B 130 102 (pos 0) (pos 2)
    ∷ second turn.B 149 124 (pos 3) (pos 0)
    ∷ third turn.B 200 77 (neg_ℤ (pos 2)) (neg_ℤ (pos 7))
    ∷ []

abbrev pub again : List Particle
again =
    first (entries (pos 8) (pos 126) (neg_ℤ (pos 130)) (pos 2)) 130 104 (pos 0) (pos 2)
    ∷ second (entries (pos 9) (pos 125) (neg_ℤ (pos 131)) (pos 3)) 152 124 (pos 3) (pos 0)
    ∷ third (entries (pos 5) (pos 125) (neg_ℤ (pos 130)) (pos 1)) 198 70 (neg_ℤ (pos 2)) (neg_ℤ (pos 7))
    ∷ []

-- the stretch's
abbrev pub stretching : List Particle
stretching =
    first stretch.B 81 61 (neg_ℤ (pos 5)) (pos 3)
    ∷ second stretch.B 101 71 (pos 0) (neg_ℤ (pos 2))
    ∷ third stretch.B 137 95 (pos 9) (neg_ℤ (pos 14))
    ∷ []

abbrev pub stretched : List Particle
stretched =
    first stretch.B 76 64 (neg_ℤ (pos 5)) (pos 3)
    ∷ second stretch.B 101 69 (pos 0) (neg_ℤ (pos 2))
    ∷ third stretch.B 146 81 (pos 9) (neg_ℤ (pos 14))
    ∷ []

-- shear's
abbrev pub shearing : List Particle
shearing =
    first shear.B 70 60 (pos 2) (neg_ℤ (pos 3))
    ∷ second shear.B 102 133 (pos 2) (pos 0)
    ∷ third shear.B 166 97 (pos 2) (pos 6)
    ∷ []

abbrev pub sheared : List Particle
sheared =
    first shear.B 72 57 (pos 2) (neg_ℤ (pos 3))
    ∷ second shear.B 104 133 (pos 2) (pos 0)
    ∷ third shear.B 168 103 (pos 2) (pos 6)
    ∷ []

-- the drift's, at these places
abbrev pub glides : ℕ → ℕ → ℕ → ℕ → ℕ → ℕ → List Particle
glides x₁ y₁ x₂ y₂ x₃ y₃ =
    first gliding.B x₁ y₁ (pos 7) (neg_ℤ (pos 4))
    ∷ second gliding.B x₂ y₂ (pos 7) (neg_ℤ (pos 4))
    ∷ third gliding.B x₃ y₃ (pos 7) (neg_ℤ (pos 4))
    ∷ []

-- the turn's, but vx of the second, which is 4 and not 3; before and after a step
abbrev pub missing : List Particle
missing =
    first turn.B 130 100 (pos 0) (pos 2)
    ∷ second turn.B 146 124 (pos 4) (pos 0)
    ∷ third turn.B 202 84 (neg_ℤ (pos 2)) (neg_ℤ (pos 7))
    ∷ []

abbrev pub missed : List Particle
missed =
    first (entries (pos 0) (pos 131) (neg_ℤ (pos 128)) (pos 0)) 130 102 (pos 0) (pos 2)
    ∷ second (entries (neg_ℤ (pos 2)) (pos 134) (neg_ℤ (pos 128)) (pos 0)) 149 124 (pos 3) (pos 0)
    ∷ third (entries (neg_ℤ (pos 1)) (pos 129) (neg_ℤ (pos 128)) (pos 0)) 200 77 (neg_ℤ (pos 2)) (neg_ℤ (pos 7))
    ∷ []

-- ---- calls, with grids that hold something

abbrev lent : Grids
lent = record { mass = replicate 30 3; x = replicate 30 (pos 5); y = replicate 30 (neg_ℤ (pos 7)) }

abbrev stepping : List Particle → After (Answer Unit)
stepping ps = step_after Bench (still 6 5) (records_of ps) lent

abbrev running : ℕ → List Particle → After Completion
running steps ps = run_after Bench (still 6 5) steps (records_of ps) lent

-- ---- the examples

-- an accepted set of three, and a step of it that is done
pub record Stepped (before after : List Particle) : Type 0 where
  pub accepted : check_answer Bench 6 5 (records_of before) ≡ gives 3
  pub answer : (stepping before).answer ≡ done
  pub left : (stepping before).records ≡ records_of after

pub record Examples : Type 0 where
  pub unforced : Unforced (still 6 5)
  pub turn-follows : Each (Follows 1024 4 turn) turning
  pub turn-steps : Stepped turning turned
  -- a second step rounds: the same v at other places is no flow any more
  pub turn-again : Stepped turned again
  pub stretch-follows : Each (Follows 1024 4 stretch) stretching
  pub stretch-steps : Stepped stretching stretched
  pub shear-follows : Each (Follows 1024 4 shear) shearing
  pub shear-steps : Stepped shearing sheared
  -- two steps; and at most three, since the fourth would move the third particle off the grid
  pub drift-follows : Each (Follows 1024 4 gliding) (glides 60 150 85 140 265 201)
  pub drift-answer : (running 2 (glides 60 150 85 140 265 201)).answer ≡ record { completed = 2; stop = done }
  pub drift-left : (running 2 (glides 60 150 85 140 265 201)).records ≡ records_of (glides 74 142 99 132 279 193)
  pub stopped-answer : (running 9 (glides 60 150 85 140 265 201)).answer ≡ record { completed = 3; stop = refused 15 2 }
  pub stopped-left : (running 9 (glides 60 150 85 140 265 201)).records ≡ records_of (glides 81 138 106 128 286 189)
  -- the premise is needed: no flow has all three particles, though the turn has two of them; the step is done, and no B comes
  -- back, nor does the second particle's velocity
  pub two-follow : Each (Follows 1024 4 turn) (first turn.B 130 100 (pos 0) (pos 2) ∷ third turn.B 202 84 (neg_ℤ (pos 2)) (neg_ℤ (pos 7)) ∷ [])
  pub none-fits : (f : Flow) → Each (Follows 1024 4 f) missing → ⊥
  pub missing-steps : Stepped missing missed
