-- What Front is lent, where all of its checks are met (`Lent`), and what it leaves in the lent tables: they hold so many rows (`Holding`), and at the end the
-- first rows of the front, each with its witness (`FilledBy`; `Filled` of a file's front).
use Rattle.std.specs.Prelude.{◌≡◌, List, ◌*◌, ◌≤◌, min, ℕ, leb, length, replicate, take}
use Rattle.std.proofs.Math.Option.{none}
use Rattle.checks.specs.Checks.{Outcome, answered, first_unmet}
use Rattle.graph.specs.Graph.{width}
use Rattle.costs.specs.Costs.{front, front_trees}
use Rattle.chart.specs.Chart.{file_chart_on, width_in}
use Rattle.network_file.specs.File.{network_of}
use Rattle.pages.specs.Pages.{capacity, flat}
use Rattle.operations.specs.Operations.{Fronted, front_checks, graph_in, layouts_in, over}
use Rattle.fields.specs.Fields.{sizes_in}
use Rattle.listed.proofs.Answers.{Listing}
use Rattle.fronted.specs.declared.Room.{Room}

-- two tables of rows of k and of `width` places hold so many rows
pub record Holding (rows k width : ℕ) (costs witnesses : List ℕ) : Type 0 where
  pub costs_fit : rows * k ≤ length costs
  pub trees_fit : rows * width ≤ length witnesses

-- Where all of Front's checks are met: the sizes and the chart are those of the file, whose network has a tree, and both tables hold so many rows.
pub record Lent (f costs witnesses : List ℕ) (room : Room) : Type 0 where
  pub met : first_unmet (front_checks f costs witnesses) ≡ none
  pub made : room.chart.words ≡ file_chart_on f (replicate 1416 0)
  pub listing : Listing f (sizes_in room.header) room.chart.words
  pub capacity_is : room.capacity ≡ capacity (length (network_of f).kinds) (width (graph_in f)) costs witnesses
  pub holding : Holding room.capacity room.header.k (width_in room.chart.words) costs witnesses

-- The lent tables at the end, where both hold `capacity` rows: the first vectors and trees, and whether that is all.
pub record FilledBy (vectors trees : List (List ℕ)) (capacity : ℕ) (costs witnesses : List ℕ) (r : Outcome Fronted) (costs' witnesses' : List ℕ) : Type 0 where
  pub answer : r ≡ answered (record { count = min (length vectors) capacity; whole = leb (length vectors) capacity })
  pub costs_are : costs' ≡ over (flat (take capacity vectors)) costs
  pub witnesses_are : witnesses' ≡ over (flat (take capacity trees)) witnesses

-- the same of a file's front
abbrev pub Filled : List ℕ → ℕ → List ℕ → List ℕ → Outcome Fronted → List ℕ → List ℕ → Type 0
Filled f capacity costs witnesses r costs' witnesses' =
    FilledBy (front (network_of f)) (front_trees (network_of f) (layouts_in f)) capacity costs witnesses r costs' witnesses'
