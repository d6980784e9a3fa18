-- `update_rim::hold`: an open edge holds no node. Assumes nothing.
use Rattle.std.proofs.Common.{◌≡◌, ◌%◌, ◌/◌, List, ℤ, refl, sym, ap, ◌∙◌}
use Rattle.apic.specs.Step.{Axis, along_x, along_y, holds}
use Rattle.settings.specs.declared.Edge.TheVariants.{Open}
use Rattle.settings.specs.declared.Settings.{Settings}
use Rattle.update_rim.specs.Internal.{cleared, held_at}
use Rattle.update_rim.proofs.Cleared.{cleared-none}
use Rattle.update_rim.proofs.hold.Goals as goal

free : (s : Settings) (a : Axis) → s.edge ≡ Open → (u : List ℤ) → u ≡ cleared (held_at s a) u
free s a q u =
    sym (cleared-none (λ k. holds Open s.nx s.ny a (k % s.nx) (k / s.nx)) u (λ k. refl))
    ∙ ap (λ e. cleared (λ k. holds e s.nx s.ny a (k % s.nx) (k / s.nx)) u) (sym q)

pub returns-in-Open : goal.returns-in-Open
returns-in-Open c = (free c.args.settings along_x c.in-Open.is c.args.x.now, free c.args.settings along_y c.in-Open.is c.args.y.now)
