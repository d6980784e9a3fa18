-- The numbers of the k-th particle, as they were read from an array that holds it. Assumes nothing.
use mathlib.Core.Path.{◌≡◌, sym, ap, subst, ◌∙◌}
use mathlib.Core.List.{List, [], ◌∷◌}
use Prim.Native.Nat.{ℕ, ◌+◌, ◌*◌}
use lib.Dec.{lit<}
use lib.ListN.{get_or}
use lib.IntN.{ℤ, pos, nat_abs}
use Rattle.particle.specs.declared.Particle.{Particle}
use Rattle.apic.specs.Step.{node_mass, node_momentum}
use Rattle.unpacked.specs.Unpacked.{per_particle, HoldsAt}
use Rattle.scatter_particle.specs.Added.{Added, ParticleReady, unlabelled}
use Rattle.scatter_core.specs.Scatter.{NthReady}

-- what was read
pub record Read (l : List ℤ) (k m x y : ℕ) (vx vy bxx bxy byx byy : ℤ) : Type 0 where
  pub of-m : m ≡ nat_abs (get_or l (per_particle * k) (pos 0))
  pub of-x : x ≡ nat_abs (get_or l (per_particle * k + 1) (pos 0))
  pub of-y : y ≡ nat_abs (get_or l (per_particle * k + 2) (pos 0))
  pub of-vx : vx ≡ get_or l (per_particle * k + 3) (pos 0)
  pub of-vy : vy ≡ get_or l (per_particle * k + 4) (pos 0)
  pub of-bxx : bxx ≡ get_or l (per_particle * k + 5) (pos 0)
  pub of-bxy : bxy ≡ get_or l (per_particle * k + 6) (pos 0)
  pub of-byx : byx ≡ get_or l (per_particle * k + 7) (pos 0)
  pub of-byy : byy ≡ get_or l (per_particle * k + 8) (pos 0)

-- a particle without its label
abbrev bare : Particle → Particle
bare p = unlabelled p.mass p.x p.y p.vx p.vy p.bxx p.bxy p.byx p.byy

module _ {nx ny : ℕ} {l : List ℤ} {k m x y : ℕ} {vx vy bxx bxy byx byy : ℤ} (r : Read l k m x y vx vy bxx bxy byx byy) {p : Particle} (h : HoldsAt nx ny l k p) where
  is_read : unlabelled m x y vx vy bxx bxy byx byy ≡ bare p
  is_read =
      let n = h.numbers in
      λ t. unlabelled ((r.of-m ∙ ap nat_abs n.mass) t) ((r.of-x ∙ ap nat_abs n.x) t) ((r.of-y ∙ ap nat_abs n.y) t)
      ((r.of-vx ∙ n.vx) t) ((r.of-vy ∙ n.vy) t) ((r.of-bxx ∙ n.bxx) t) ((r.of-bxy ∙ n.bxy) t) ((r.of-byx ∙ n.byx) t) ((r.of-byy ∙ n.byy) t)

  pub nth-asked : {table : List (List ℕ)} {D : ℕ} {mass : List ℕ} {px py : List ℤ} → NthReady nx ny l k table D mass px py → ParticleReady nx ny (unlabelled m x y vx vy bxx bxy byx byy) table D mass px py
  nth-asked {table} {D} {mass} {px} {py} ready =
      subst (λ q. ParticleReady nx ny q table D mass px py) (sym is_read)
      (record {
        sizes = h.sizes;
        limits =
            record {
              identifier = lit< tt;
              mass-least = h.limits.mass-least;
              mass-most = h.limits.mass-most;
              vx = h.limits.vx;
              vy = h.limits.vy;
              bxx = h.limits.bxx;
              bxy = h.limits.bxy;
              byx = h.limits.byx;
              byy = h.limits.byy;
              x-on = h.limits.x-on;
              y-on = h.limits.y-on;
              marks = lit< tt;
            };
        kernel = ready.kernel;
        held = ready.held;
      })

  pub nth-added : {w : ℕ → ℕ → ℤ} {D : ℕ} {mass mass' : List ℕ} {px py px' py' : List ℤ} → Added w D nx ny (unlabelled m x y vx vy bxx bxy byx byy ∷ []) mass px py mass' px' py' → Added w D nx ny (p ∷ []) mass px py mass' px' py'
  unfolding node_mass node_momentum
  nth-added {w} {D} {mass} {mass'} {px} {py} {px'} {py'} a =
      let b : Added w D nx ny (bare p ∷ []) mass px py mass' px' py' = subst (λ q. Added w D nx ny (q ∷ []) mass px py mass' px' py') is_read a in
      record { of-mass = b.of-mass; of-px = b.of-px; of-py = b.of-py }
