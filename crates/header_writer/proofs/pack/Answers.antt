-- Gravity's parts are its residues, and the bytes are those of the parts. Assumes nothing.
use borrow.Author.Rules.{rules}
use native.Mathlib.Omega.{arith}
use lib.Dec.{lit≤}
use mathlib.Core.Path.{◌≡◌}
use mir.Syntax.{w16}
use mir.Val.{SFits}
use Rattle.refusal.specs.Refused.{gives}
use Rattle.apic.specs.Limits.{SizeLimits}
use Rattle.bits.proofs.TwosComplement.{residue-asks, residue-is}
use Rattle.limits.specs.declared.Caller.TheVariants.{Bench}
use Rattle.particles.proofs.Checks.{size-limits}
use Rattle.bath_file.specs.declared.Header.{Header}
use Rattle.bath_file.specs.File.{checked_header}
use Rattle.bath_file.proofs.Checks.{Valid, EdgeLimits, edge-limits, valid}
use Rattle.header_writer.proofs.Parts.{header-of-parts}
use Rattle.header_writer.proofs.pack.Goals as goal

-- what a header that passes its checks is known to be
module _ (h : Header) (p : checked_header Bench h (gives h) ≡ gives h) where
  accepted : Valid Bench h
  accepted = (valid Bench h (gives h) p).0

  sizes : SizeLimits h.nx h.ny
  sizes = size-limits Bench h.nx h.ny accepted.size

  edges : EdgeLimits h.kind h.width
  edges = edge-limits h.kind h.width accepted.edge

pub residue-gx-requires : goal.residue-gx-requires
residue-gx-requires c =
    let h = c.args.h in
    let f : SFits w16 h.gx = search rules in
    residue-asks 16384 h.gx f.sfits (omega (arith, (accepted h c.requires.0).gx-to)) (lit≤ tt)

pub residue-gy-requires : goal.residue-gy-requires
residue-gy-requires c =
    let h = c.args.h in
    let f : SFits w16 h.gy = search rules in
    residue-asks 16384 h.gy f.sfits (omega (arith, (accepted h c.requires.0).gy-to)) (lit≤ tt)

pub overflow_cast-h : goal.overflow_cast-h
overflow_cast-h c = record { fits = omega (arith, (sizes c.args.h c.requires.0).x-most) }

pub overflow_cast-h-2 : goal.overflow_cast-h-2
overflow_cast-h-2 c = record { fits = omega (arith, (sizes c.args.h c.requires.0).y-most) }

pub overflow_cast-h-3 : goal.overflow_cast-h-3
overflow_cast-h-3 c = record { fits = omega (arith, (accepted c.args.h c.requires.0).count-to) }

pub overflow_cast-h-4 : goal.overflow_cast-h-4
overflow_cast-h-4 c = record { fits = omega (arith, (accepted c.args.h c.requires.0).steps-to) }

pub overflow_cast-h-5 : goal.overflow_cast-h-5
overflow_cast-h-5 c = record { fits = omega (arith, (edges c.args.h c.requires.0).kind-to) }

pub overflow_cast-h-6 : goal.overflow_cast-h-6
overflow_cast-h-6 c = record { fits = omega (arith, (edges c.args.h c.requires.0).width-to) }

pub overflow_cast-h-7 : goal.overflow_cast-h-7
overflow_cast-h-7 c = record { fits = omega (arith, (accepted c.args.h c.requires.0).drag-to) }

pub put-requires : goal.put-requires
put-requires c =
    let h = c.args.h in
    let v = accepted h c.requires.0 in
    let s = sizes h c.requires.0 in
    let e = edges h c.requires.0 in
    ((omega (arith, s.x-most), (omega (arith, s.y-most), (c.residue-gx.ensures.1, (c.residue-gy.ensures.1, (omega (arith, v.count-to), (omega (arith, v.steps-to), (omega arith, (omega (arith, e.kind-to), (omega (arith, e.width-to), (omega (arith, v.drag-to), (omega arith, tt))))))))))), c.requires.1)

pub returns : goal.returns
returns c =
    let h = c.args.h in
    let x : SFits w16 h.gx = search rules in
    let y : SFits w16 h.gy = search rules in
    header-of-parts h
    c.put.ensures
    (residue-is 16384 h.gx x.sfits c.residue-gx.ensures)
    (residue-is 16384 h.gy y.sfits c.residue-gy.ensures)
