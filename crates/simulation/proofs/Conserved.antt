-- Demand 3, proved. Assumes nothing.
use mathlib.Core.Path.{◌≡◌, sym, ap, ◌∙◌, subst₂}
use mathlib.Core.List.{List, map}
use Prim.Native.Nat.{◌*◌}
use lib.ListN.{length, length-map}
use Rattle.particle.specs.declared.Particle.{Particle}
use Rattle.particle.specs.Layout.{record_length}
use Rattle.particles.specs.Set.{particles_in}
use Rattle.simulation.specs.Demand3.{leaves_all, settings_all, completes_all, completed_steps, Keeps, Demand3}
use Rattle.simulation.proofs.Records.{accepted-length}
use Rattle.simulation.proofs.Chains.{chain-keeps, chain-each, chain-unrefused, chain-number}
use Rattle.simulation.proofs.Calls.{calls-work, calls-number}

same_count : (ps qs : List Particle) → map (λ p. p.identifier) qs ≡ map (λ p. p.identifier) ps → length qs ≡ length ps
same_count ps qs e = sym (length-map qs (λ p. p.identifier)) ∙ ap length e ∙ length-map ps (λ p. p.identifier)

pub demand-3 : Demand3
demand-3 start h calls =
    let w = calls-work calls start h in
    let ss = settings_all calls start in
    let ps = particles_in start in
    let keeps : Keeps (completes_all calls start) (completed_steps calls start) ps (particles_in (leaves_all calls start)) =
    subst₂ (λ n qs. Keeps n (completed_steps calls start) ps qs) (calls-number calls start) (sym w.last) (chain-keeps ss ps w.chain) in
    record {
      count =
          accepted-length w.accepted
          ∙ ap (λ n. record_length * n) (same_count ps (particles_in (leaves_all calls start)) keeps.identifiers)
          ∙ sym (accepted-length h);
      whole = keeps;
      each = chain-each ss ps w.chain;
      number = chain-number ss ps ∙ calls-number calls start;
      unrefused = chain-unrefused ss ps w.chain;
      last = w.last;
      accepted = w.accepted;
    }
