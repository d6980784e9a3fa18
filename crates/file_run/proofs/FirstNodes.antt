-- A run on the first nodes of grids.
--     nodes-most    no grid has more nodes than the largest
--     on-first      what the run leaves of the first nodes, and of the others
-- Assumes nothing.
use Prim.Native.Nat.{ℕ, ◌*◌, ◌≤◌}
use native.Mathlib.Nat.{mul-le-mul}
use mathlib.Core.Path.{◌≡◌, ap, ap₂, ◌∙◌}
use mathlib.Core.List.{List, ◌++◌}
use lib.IntN.{ℤ}
use lib.ListN.{drop}
use Rattle.limits.specs.declared.Caller.TheVariants.{Bench}
use Rattle.apic.specs.Limits.{SizeLimits}
use Rattle.settings.specs.declared.Settings.{Settings}
use Rattle.apic.specs.Step.{grids_of}
use Rattle.simulation.specs.Step.{Sees}
use Rattle.simulation.specs.Run.{Completion, run_after}
use Rattle.bath_file.specs.declared.Header.{Header}
use Rattle.file_run.specs.FileRun.{settings_for, node_count, most_nodes, first_nodes, run_first}

pub nodes-most : {nx ny : ℕ} → SizeLimits nx ny → nx * ny ≤ most_nodes
nodes-most l = mul-le-mul l.x-most l.y-most

-- a run on the first n nodes
module _ (h : Header) {s : Settings} {n : ℕ} (settings : s ≡ settings_for h) (size : n ≡ node_count h) (records mass : List ℕ) (x y : List ℤ) where
  pub on-first :
      {c : Completion} {records' mass' : List ℕ} {x' y' : List ℤ} →
      Sees (run_after Bench s h.steps records (first_nodes n (grids_of mass x y))) c records' mass' x' y' →
      Sees (run_first h records (grids_of mass x y)) c records' (mass' ++ drop n mass) (x' ++ drop n x) (y' ++ drop n y)
  on-first r =
      let same = ap₂ (λ s n. run_after Bench s h.steps records (first_nodes n (grids_of mass x y))) settings size in
      record {
        answer = r.answer ∙ ap (λ a. a.answer) same;
        records = r.records ∙ ap (λ a. a.records) same;
        masses = ap₂ (λ l n. l ++ drop n mass) (r.masses ∙ ap (λ a. a.grids.mass) same) size;
        x-velocities = ap₂ (λ l n. l ++ drop n x) (r.x-velocities ∙ ap (λ a. a.grids.x) same) size;
        y-velocities = ap₂ (λ l n. l ++ drop n y) (r.y-velocities ∙ ap (λ a. a.grids.y) same) size;
      }
