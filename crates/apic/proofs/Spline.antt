-- The quadratic spline is an instance of the laws' weights. Assumes nothing.
use mathlib.Core.Path.{subst}
use Rattle.spline.specs.Spline.{axis_weight, D}
use Rattle.spline.proofs.Table.{spline-kernel}
use Rattle.spline.proofs.Spline.{spline-weights}
use Rattle.apic.proofs.Kernel.{Lawful, kernel-lawful}

pub spline-lawful : Lawful axis_weight D
spline-lawful = subst (λ w. Lawful w D) spline-weights (kernel-lawful spline-kernel)
