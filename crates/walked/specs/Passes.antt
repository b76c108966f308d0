-- What the functions below `front` are given and answer with: the chart of a file (`Laid`), known rows in the lent tables (`KnownRows`),
-- and the rows behind them after a pass (`Passed`).
use Rattle.std.specs.Prelude.{◌≡◌, false, true, List, ◌*◌, ◌+◌, ◌<◌, ◌≤◌, ℕ, drop, length, take}
use Rattle.costs.specs.Costs.{front, front_trees}
use Rattle.chart.specs.Chart.{width_in}
use Rattle.network_file.specs.File.{network_of, sizes_of}
use Rattle.pages.specs.Pages.{pieces}
use Rattle.operations.specs.Operations.{layouts_in}
use Rattle.listed.proofs.Answers.{Listing}
use Rattle.scratch.specs.declared.Scratch.{Scratch}

-- how many rows the scratch table has
abbrev pub scratch_rows : ℕ
scratch_rows = 64

-- c is the chart of a file that `listed` has opened: it is right, and has a tree
abbrev pub Laid : List ℕ → List ℕ → Type 0
Laid f c = Listing f (sizes_of f) c

-- the first n vectors of the front stand in a table
pub record KnownRows (f : List ℕ) (n : ℕ) (table : List ℕ) : Type 0 where
  pub few : n ≤ length (front (network_of f))
  pub fits : n * (sizes_of f).k ≤ length table
  pub vectors : pieces (sizes_of f).k n table ≡ take n (front (network_of f))

-- The rows behind the first n after a pass: the next of the front, each with its witness. All, if no row was dropped; else some.
pub record Passed (f c : List ℕ) (n : ℕ) (s : Scratch) (costs witnesses : List ℕ) : Type 0 where
  pub few : s.count ≤ scratch_rows
  pub within : n + s.count ≤ length (front (network_of f))
  pub vectors : pieces (sizes_of f).k s.count costs ≡ take s.count (drop n (front (network_of f)))
  pub trees : pieces (width_in c) s.count witnesses ≡ take s.count (drop n (front_trees (network_of f) (layouts_in f)))
  pub all : s.bounded ≡ false → n + s.count ≡ length (front (network_of f))
  pub some_more : s.bounded ≡ true → 0 < s.count
