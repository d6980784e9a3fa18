-- An accepted set: its limits, and its records' length.
--     accepted-set      its particles are within their limits
--     whole-records     its bytes are whole records
-- Assumes nothing.
use mathlib.Core.Path.{◌≡◌, sym, subst}
use mathlib.Core.List.{List}
use Prim.Native.Nat.{ℕ, ◌*◌}
use lib.ListN.{length}
use Rattle.refusal.specs.Refused.{gives}
use Rattle.limits.specs.declared.Caller.TheVariants.{Bench}
use Rattle.particle.specs.declared.Particle.{Particle}
use Rattle.particle.specs.Layout.{record_length}
use Rattle.apic.specs.Limits.{SetLimits}
use Rattle.particles.specs.Set.{record_count, set_answer, particles_in}
use Rattle.particles.proofs.Accepted.{accepted-limits}
use Rattle.particles.proofs.Checks.{length-limits, entered}
use Rattle.unpacking.proofs.Sets.{particles_in-accepted}

module _ (nx ny : ℕ) (records : List ℕ) {ps : List Particle} (e : set_answer Bench nx ny records ≡ gives ps) where
  pub accepted-set : SetLimits nx ny (particles_in records)
  accepted-set = subst (SetLimits nx ny) (sym (particles_in-accepted nx ny records e)) (accepted-limits nx ny records e)

  pub whole-records : record_length * record_count records ≡ length records
  whole-records = (length-limits (length records) (entered Bench nx ny records e).whole).whole
