-- The settings of a call, as far as the definitions of documents 01 and 02 name them. Assumes nothing.
use Rattle.std.specs.Prelude.{◌≡◌, Bool, true, ℕ, zero, suc, ◌≤◌, ℤ, pos, nat_abs}
use Rattle.limits.specs.Limits.{most_gravity, most_drag, valid_width}
use Rattle.settings.specs.declared.Edge.{Edge}
use Rattle.settings.specs.declared.Edge.TheVariants.{Open, Sticky, Slip}
use Rattle.settings.specs.declared.Settings.{Settings}

-- a grid of this size; no gravity, open edges, no drag
abbrev pub still : ℕ → ℕ → Settings
still nx ny = record { nx = nx; ny = ny; gx = pos 0; gy = pos 0; edge = Open; drag = 0 }

-- the edge of a kind and a width: 0 open, 1 sticky, 2 slip. A kind from 3 on, and an open edge with a width, are no edge: they
-- become a sticky one without a width, which 18 refuses as it does them
abbrev pub edge_of : ℕ → ℕ → Edge
edge_of zero zero = Open
edge_of zero (suc w) = Sticky 0
edge_of (suc zero) w = Sticky w
edge_of (suc (suc zero)) w = Slip w
edge_of (suc (suc (suc k))) w = Sticky 0

-- the settings of these numbers, as a file and other languages give them
abbrev pub settings_with : ℕ → ℕ → ℤ → ℤ → ℕ → ℕ → ℕ → Settings
settings_with nx ny gx gy kind width drag =
    record { nx = nx; ny = ny; gx = gx; gy = gy; edge = edge_of kind width; drag = drag }

-- "Open has width 0; the others have 1 to 3"
abbrev pub valid_edge : Edge → Bool
valid_edge Open = true
valid_edge (Sticky w) = valid_width w
valid_edge (Slip w) = valid_width w

-- gravity, edge and drag within their limits, as facts
pub record ForceLimits (s : Settings) : Type 0 where
  pub gravity-x : nat_abs s.gx ≤ most_gravity
  pub gravity-y : nat_abs s.gy ≤ most_gravity
  pub edge : valid_edge s.edge ≡ true
  pub drag : s.drag ≤ most_drag

-- open edges and no drag
pub record Plain (s : Settings) : Type 0 where
  pub edge-open : s.edge ≡ Open
  pub no-drag : s.drag ≡ 0
