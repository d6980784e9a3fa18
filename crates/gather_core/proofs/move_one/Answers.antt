-- `gather_core::move_one` meets its contract: particle k stands in the array, and its nine nodes on the grid. Assumes nothing.
use Rattle.std.proofs.Common.{sym, ap, subst₂, ◌∙◌, List, ℕ, ◌+◌, le_trans, arith, ℤ, pos, nat_abs, w64}
use lib.Dec.{lit≤}
use Rattle.arith.specs.Size.{bound-pos, bound-equal}
use Rattle.arith.specs.Machine.{read_result}
use Rattle.spline.specs.Kernel.{weight_in}
use Rattle.unpacked.specs.Unpacked.{ParticleAt}
use Rattle.unpacked.proofs.Laws.{some_at, x-at, y-at}
use Rattle.gather_point.specs.Point.{Around, axis_at}
use Rattle.gather_point.proofs.Nodes.{axis-at}
use Rattle.gathering.specs.Gather.{Gatherable, gathered}
use Rattle.gathering.proofs.Record.{placed, moves, x-axis, y-axis}
use Rattle.gather_core.proofs.move_one.Goals as goal

-- the particle that stands at place k has nine nodes around it
around : {nx ny k : ℕ} {source ux uy target : List ℤ} → Gatherable nx ny source ux uy target → (p : ParticleAt nx ny source k) → Around nx p.particle.x p.particle.y ux uy
around g p = (placed g.x-velocities g.y-velocities p.holds).around

pub natural_at-x-requires : goal.natural_at-x-requires
natural_at-x-requires c = x-at (some_at c.requires.0.particles c.args.k c.requires.2).holds

pub natural_at-y-requires : goal.natural_at-y-requires
natural_at-y-requires c = y-at (some_at c.requires.0.particles c.args.k c.requires.2).holds

pub gather_at-m-requires : goal.gather_at-m-requires
gather_at-m-requires c =
    let p = some_at c.requires.0.particles c.args.k c.requires.2 in
    subst₂ (λ x y. Around c.args.nx x y c.args.ux.now c.args.uy.now)
    (sym (c.from.ensures ∙ c.natural_at-x.ensures ∙ ap nat_abs p.holds.numbers.x))
    (sym (c.from-2.ensures ∙ c.natural_at-y.ensures ∙ ap nat_abs p.holds.numbers.y))
    (around c.requires.0 p)

pub settle-requires : goal.settle-requires
settle-requires c =
    let p = some_at c.requires.0.particles c.args.k c.requires.2 in
    let a = around c.requires.0 p in
    record {
      sizes = p.holds.sizes;
      room = omega (arith, p.holds.inside, c.requires.0.room);
      mass-size = bound-equal (sym (read_result w64 c.number_at.type_inv (c.number_at.ensures ∙ p.holds.numbers.mass))) (bound-pos (le_trans p.holds.limits.mass-most (lit≤ tt)));
      x-size = bound-equal (sym (read_result w64 c.from-3.type_inv (c.from-3.ensures ∙ ap pos (c.natural_at-x.ensures ∙ ap nat_abs p.holds.numbers.x)))) (bound-pos a.x-most);
      y-size = bound-equal (sym (read_result w64 c.from-4.type_inv (c.from-4.ensures ∙ ap pos (c.natural_at-y.ensures ∙ ap nat_abs p.holds.numbers.y)))) (bound-pos a.y-most);
      vx-size = c.gather_at-m.ensures.x-size;
      vy-size = c.gather_at-m.ensures.y-size;
    }

pub returns : goal.returns
returns c p h =
    let a = c.args in
    let w = weight_in a.table.now in
    let t = placed c.requires.0.x-velocities c.requires.0.y-velocities h in
    let of-x = c.natural_at-x.ensures ∙ ap nat_abs h.numbers.x in
    let of-y = c.natural_at-y.ensures ∙ ap nat_abs h.numbers.y in
    let at-x = c.from.ensures ∙ of-x in
    let at-y = c.from-2.ensures ∙ of-y in
    moves a.nx a.ny (a.first + a.k) a.k p (gathered w a.nx a.ny a.ux.now a.uy.now p) c.settle.ensures
    (read_result w64 c.number_at.type_inv (c.number_at.ensures ∙ h.numbers.mass))
    (read_result w64 c.from-3.type_inv (c.from-3.ensures ∙ ap pos of-x))
    (read_result w64 c.from-4.type_inv (c.from-4.ensures ∙ ap pos of-y))
    (c.gather_at-m.ensures.x-is ∙ (λ i. axis_at a.table.now a.nx a.ux.now (at-x i) (at-y i))
    ∙ axis-at a.table.now a.nx a.ny a.ux.now p t.on-x t.on-y
    ∙ x-axis w a.nx a.ny a.ux.now a.uy.now p)
    (c.gather_at-m.ensures.y-is ∙ (λ i. axis_at a.table.now a.nx a.uy.now (at-x i) (at-y i))
    ∙ axis-at a.table.now a.nx a.ny a.uy.now p t.on-x t.on-y
    ∙ y-axis w a.nx a.ny a.ux.now a.uy.now p)
