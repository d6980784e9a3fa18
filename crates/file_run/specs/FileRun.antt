-- The run that a file's header asks for, on the first nodes of grids that have room for any run. Assumes nothing.
use Rattle.std.specs.Prelude.{ℕ, ◌*◌, ◌≤◌, List, ◌++◌, ℤ, length, take, drop}
use Rattle.limits.specs.Limits.{most_side}
use Rattle.limits.specs.declared.Caller.TheVariants.{Bench}
use Rattle.settings.specs.declared.Settings.{Settings}
use Rattle.settings.specs.Settings.{settings_with}
use Rattle.apic.specs.Step.{Grids, grids_of}
use Rattle.simulation.specs.Step.{After}
use Rattle.simulation.specs.Run.{Completion, run_after}
use Rattle.bath_file.specs.declared.Header.{Header}

abbrev pub settings_for : Header → Settings
settings_for h = settings_with h.nx h.ny h.gx h.gy h.kind h.width h.drag

-- Nx-as-Ny
abbrev pub node_count : Header → ℕ
node_count h = h.nx * h.ny

-- the first nodes of grids that have room for any run, and such grids with others for their first nodes
abbrev pub first_nodes : ℕ → Grids → Grids
first_nodes n grids = grids_of (take n grids.mass) (take n grids.x) (take n grids.y)

abbrev pub with_first : ℕ → Grids → Grids → Grids
with_first n first grids =
    grids_of (first.mass ++ drop n grids.mass) (first.x ++ drop n grids.x) (first.y ++ drop n grids.y)

-- the nodes of the largest grid
abbrev pub most_nodes : ℕ
most_nodes = most_side * most_side

-- grids that have room for any run
pub record RunRoom (mass : List ℕ) (x y : List ℤ) : Type 0 where
  pub masses : most_nodes ≤ length mass
  pub x-velocities : most_nodes ≤ length x
  pub y-velocities : most_nodes ≤ length y

-- the bench's run that a header asks for, on the first nodes of such grids
abbrev pub run_first : Header → List ℕ → Grids → After Completion
run_first h records grids =
    let ran = run_after Bench (settings_for h) h.steps records (first_nodes (node_count h) grids) in
    record { answer = ran.answer; records = ran.records; grids = with_first (node_count h) ran.grids grids }
