-- `gather::gather_scratch` meets its contract. Assumes nothing.
use Rattle.std.proofs.Common.{◌≡◌, sym, refl, subst, ◌∙◌, List, ◌++◌, ℕ, ◌*◌, ◌/◌, ◌≤◌, length, take, drop, ℤ}
use Rattle.std.proofs.lemmas.Result.{err_from_is_err_and}
use lib.Seq.{length-take-le, take_at}
use Rattle.particle.specs.Layout.{record_length}
use Rattle.particles.specs.Set.{record_count}
use Rattle.unpacked.specs.Unpacked.{per_particle}
use Rattle.packing.specs.Packing.{Packable, Packs}
use Rattle.transfer.proofs.Sets.{accepted-set, whole-records}
use Rattle.transfer.proofs.Gathers.{refused-moves, pack-ready, done-moves}
use Rattle.gather.proofs.gather_scratch.Goals as goal

-- the first n numbers of the array are then what the gather left of them
front : (n : ℕ) (after to : List ℤ) → length after ≡ length (take n to) → n ≤ length to → take n (after ++ drop n to) ≡ after
front n after to e h = take_at after (drop n to) n (e ∙ length-take-le n to h)

pub pack_set-requires : goal.pack_set-requires
pack_set-requires c =
    let a = c.args in
    let set = c.requires.0.set in
    let is = front (per_particle * record_count a.records.now) c.gather_into.new.to a.to.now c.gather_into.auto.to c.requires.1 in
    subst (λ l. Packable l × (length a.records.now ≡ record_length * (length l / per_particle))) (sym is)
    (pack-ready c.in_ok-gather_into.ensures refl (accepted-set a.nx a.ny a.records.now set) (whole-records a.nx a.ny a.records.now set))

pub returns-in_err-gather_into : goal.returns-in_err-gather_into
returns-in_err-gather_into c =
    let p = err_from_is_err_and c.from_residual.result c.from_residual.ensures.1 in
    rw (p.1, p.2) (refused-moves c.in_err-gather_into.ensures refl)

pub returns : goal.returns
returns c =
    let a = c.args in
    let is = front (per_particle * record_count a.records.now) c.gather_into.new.to a.to.now c.gather_into.auto.to c.requires.1 in
    done-moves c.in_ok-gather_into.ensures refl
    (subst (λ l. Packs l a.records.now c.pack_set.new.records) is c.pack_set.ensures)
