-- One particle's share of the totals, and the sum of two: named by internal contracts, and by no public operation's. Assumes nothing.
use Rattle.std.specs.Prelude.{pos, ◌+ℤ◌, ◌*ℤ◌}
use Rattle.spline.specs.Spline.{D}
use Rattle.particle.specs.declared.Particle.{Particle}
use Rattle.apic.specs.Totals.{spin_per_mass, motion_per_mass}
use Rattle.totals.specs.declared.Totals.{Totals}

abbrev pub share : Particle → Totals
share p =
    record {
      mass = pos p.mass;
      px = pos p.mass *ℤ p.vx;
      py = pos p.mass *ℤ p.vy;
      spin = pos p.mass *ℤ spin_per_mass p;
      motion = pos p.mass *ℤ motion_per_mass D p;
      marks = pos p.marks;
    }

abbrev pub plus : Totals → Totals → Totals
plus s t =
    record {
      mass = s.mass +ℤ t.mass;
      px = s.px +ℤ t.px;
      py = s.py +ℤ t.py;
      spin = s.spin +ℤ t.spin;
      motion = s.motion +ℤ t.motion;
      marks = s.marks +ℤ t.marks;
    }
