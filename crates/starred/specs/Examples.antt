-- The starred examples of documents 01 and 02, one row each: what the operations' definitions answer, and what they must. A row is
-- the bench's answer with numbers: the three weights of Weights; the number of records of Check a set; of Step the particles in the
-- records that it leaves, their identifier, nine numbers and marks each, or the node velocities that it leaves on the x axis. The
-- grid has 4 by 5 nodes, and what the example leaves open differs on the two axes. Assumes nothing.
use Rattle.std.specs.Prelude.{◌≡◌, List, [], ◌∷◌, ◌++◌, map, ℕ, ◌+◌, replicate, ℤ, pos, neg_ℤ}
use Rattle.refusal.specs.Refused.{Answer, gives, refused, and_then}
use Rattle.limits.specs.declared.Caller.TheVariants.{Bench}
use Rattle.spline.specs.Answers.{weights_answer}
use Rattle.particle.specs.declared.Particle.{Particle}
use Rattle.particle.specs.Record.{record_of}
use Rattle.particles.specs.Set.{check_answer, records_of, particles_in}
use Rattle.unpacked.specs.Unpacked.{numbers}
use Rattle.apic.specs.Step.{Grids}
use Rattle.settings.specs.declared.Edge.TheVariants.{Open}
use Rattle.simulation.specs.Step.{After, step_after}

-- without Bxy, Byx and Byy, and with two marks more than its identifier
abbrev particle : ℕ → ℕ → ℕ → ℕ → ℤ → ℤ → ℤ → Particle
particle identifier mass x y vx vy bxx =
    record {
      identifier = identifier;
      mass = mass;
      x = x;
      y = y;
      vx = vx;
      vy = vy;
      bxx = bxx;
      bxy = pos 0;
      byx = pos 0;
      byy = pos 0;
      marks = identifier + 2;
    }

-- the weights at offset q
abbrev weighing : ℤ → Answer (List ℤ)
weighing q = and_then (weights_answer q) (λ w. gives (w.lower ∷ w.nearest ∷ w.upper ∷ []))

-- check a set, of one record at (x, 200): y is on an axis of 5 nodes, and on none of 4
abbrev checking : ℕ → Answer (List ℤ)
checking x = and_then (check_answer Bench 4 5 (record_of (particle 1 1 x 200 (pos 0) (pos 0) (pos 0)))) (λ n. gives (pos n ∷ []))

-- a step of these particles' records, under this gravity, in grids that hold something
abbrev lent : Grids
lent = record { mass = replicate 20 3; x = replicate 20 (pos 5); y = replicate 20 (neg_ℤ (pos 7)) }

abbrev after : ℤ → ℤ → List Particle → After (Answer Unit)
after gx gy ps = step_after Bench (record { nx = 4; ny = 5; gx = gx; gy = gy; edge = Open; drag = 0 }) (records_of ps) lent

abbrev listed : List Particle → List ℤ
listed [] = []
listed (p ∷ ps) = pos p.identifier ∷ numbers p ++ pos p.marks ∷ listed ps

abbrev stepping : ℤ → ℤ → List Particle → Answer (List ℤ)
stepping gx gy ps = and_then (after gx gy ps).answer (λ _. gives (listed (particles_in (after gx gy ps).records)))

abbrev node_velocities : List Particle → Answer (List ℤ)
node_velocities ps = and_then (after (pos 0) (pos 0) ps).answer (λ _. gives (after (pos 0) (pos 0) ps).grids.x)

-- mass 1 at (64, 64), v zero
abbrev lone : ℤ → List Particle
lone bxx = particle 1 1 64 64 (pos 0) (pos 0) bxx ∷ []

-- the same come to this place with this velocity, B zero
abbrev lone_at : ℕ → ℕ → ℤ → ℤ → List Particle
lone_at x y vx vy = particle 1 1 x y vx vy (pos 0) ∷ []

-- masses 1 and 2 at one place, with these vx
abbrev pair : ℤ → ℤ → List Particle
pair vx₁ vx₂ = particle 1 1 70 90 vx₁ (pos 0) (pos 0) ∷ particle 2 2 70 90 vx₂ (pos 0) (pos 0) ∷ []

-- a row of nodes
abbrev nodes : ℤ → List ℤ
nodes u = u ∷ u ∷ u ∷ pos 0 ∷ []

unfoldable pub examples : List (Answer (List ℤ) × Answer (List ℤ))
examples =
    -- offsets 0, −32 and 31
    (weighing (pos 0), gives (pos 1024 ∷ pos 6144 ∷ pos 1024 ∷ []))
    ∷ (weighing (neg_ℤ (pos 32)), gives (pos 4096 ∷ pos 4096 ∷ pos 0 ∷ []))
    ∷ (weighing (pos 31), gives (pos 1 ∷ pos 4222 ∷ pos 3969 ∷ []))
    -- Nx = 4: 32 accepted, 31 refused, 159 accepted, 160 refused
    ∷ (checking 32, gives (pos 1 ∷ []))
    ∷ (checking 31, refused 7 0)
    ∷ (checking 159, gives (pos 1 ∷ []))
    ∷ (checking 160, refused 7 0)
    -- gx 127 gives vx 0; at a half the even neighbour: 128 and −128 give 0, 384 and −384 give 2 and −2, 640 gives 2; gy is −2
    -- velocity units
    ∷ (stepping (pos 127) (neg_ℤ (pos 512)) (lone (pos 0)), gives (listed (lone_at 64 62 (pos 0) (neg_ℤ (pos 2)))))
    ∷ (stepping (pos 128) (neg_ℤ (pos 512)) (lone (pos 0)), gives (listed (lone_at 64 62 (pos 0) (neg_ℤ (pos 2)))))
    ∷ (stepping (neg_ℤ (pos 128)) (neg_ℤ (pos 512)) (lone (pos 0)), gives (listed (lone_at 64 62 (pos 0) (neg_ℤ (pos 2)))))
    ∷ (stepping (pos 384) (neg_ℤ (pos 512)) (lone (pos 0)), gives (listed (lone_at 66 62 (pos 2) (neg_ℤ (pos 2)))))
    ∷ (stepping (neg_ℤ (pos 384)) (neg_ℤ (pos 512)) (lone (pos 0)), gives (listed (lone_at 62 62 (neg_ℤ (pos 2)) (neg_ℤ (pos 2)))))
    ∷ (stepping (pos 640) (neg_ℤ (pos 512)) (lone (pos 0)), gives (listed (lone_at 66 62 (pos 2) (neg_ℤ (pos 2)))))
    -- Bxx = 1024 and no gravity: v stays 0 and B is unchanged
    ∷ (stepping (pos 0) (pos 0) (lone (pos 1024)), gives (listed (lone (pos 1024))))
    -- vx 1 and 0: node velocity 85, both vx become 0
    ∷ (node_velocities (pair (pos 1) (pos 0)), gives (nodes (pos 85) ++ nodes (pos 85) ++ nodes (pos 85) ++ nodes (pos 0) ++ nodes (pos 0)))
    ∷ (stepping (pos 0) (pos 0) (pair (pos 1) (pos 0)), gives (listed (pair (pos 0) (pos 0))))
    ∷ []

-- every row holds
abbrev pub ExamplesHold : Type 0
ExamplesHold = map (λ r. r.0) examples ≡ map (λ r. r.1) examples
