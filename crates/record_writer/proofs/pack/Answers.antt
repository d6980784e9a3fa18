-- `pack` meets its contract: each signed field's part is its residue, and the bytes are those of the parts. Assumes nothing.
use Rattle.std.proofs.Common.{arith}
use lib.Dec.{lit≤}
use Rattle.bits.proofs.TwosComplement.{residue-asks, residue-is}
use Rattle.particle.proofs.Valid.{write-valid}
use Rattle.record_writer.proofs.Parts.{record-of-parts}
use Rattle.record_writer.proofs.pack.Goals as goal

pub residue-vx-requires : goal.residue-vx-requires
residue-vx-requires c = residue-asks 128 c.args.p.vx (omega arith) (omega (arith, (write-valid c.args.p c.requires.0).vx-to)) (lit≤ tt)

pub residue-vy-requires : goal.residue-vy-requires
residue-vy-requires c = residue-asks 128 c.args.p.vy (omega arith) (omega (arith, (write-valid c.args.p c.requires.0).vy-to)) (lit≤ tt)

pub residue-bxx-requires : goal.residue-bxx-requires
residue-bxx-requires c = residue-asks 4096 c.args.p.bxx (omega arith) (omega (arith, (write-valid c.args.p c.requires.0).bxx-to)) (lit≤ tt)

pub residue-bxy-requires : goal.residue-bxy-requires
residue-bxy-requires c = residue-asks 4096 c.args.p.bxy (omega arith) (omega (arith, (write-valid c.args.p c.requires.0).bxy-to)) (lit≤ tt)

pub residue-byx-requires : goal.residue-byx-requires
residue-byx-requires c = residue-asks 4096 c.args.p.byx (omega arith) (omega (arith, (write-valid c.args.p c.requires.0).byx-to)) (lit≤ tt)

pub residue-byy-requires : goal.residue-byy-requires
residue-byy-requires c = residue-asks 4096 c.args.p.byy (omega arith) (omega (arith, (write-valid c.args.p c.requires.0).byy-to)) (lit≤ tt)

pub put-requires : goal.put-requires
put-requires c =
    let v = write-valid c.args.p c.requires.0 in
    ((omega arith, (omega (arith, v.mass-to), (omega (arith, v.x-to), (omega (arith, v.y-to), (c.residue-vx.ensures.1, (c.residue-vy.ensures.1, (c.residue-bxx.ensures.1, (c.residue-bxy.ensures.1, (c.residue-byx.ensures.1, (c.residue-byy.ensures.1, (omega arith, tt))))))))))), c.requires.1)

pub returns : goal.returns
returns c =
    let p = c.args.p in
    record-of-parts p
    c.put.ensures
    (residue-is 128 p.vx (omega arith) c.residue-vx.ensures)
    (residue-is 128 p.vy (omega arith) c.residue-vy.ensures)
    (residue-is 4096 p.bxx (omega arith) c.residue-bxx.ensures)
    (residue-is 4096 p.bxy (omega arith) c.residue-bxy.ensures)
    (residue-is 4096 p.byx (omega arith) c.residue-byx.ensures)
    (residue-is 4096 p.byy (omega arith) c.residue-byy.ensures)
