-- What a search is over: the graph of two lists of ends (`graph_in`, `Tables`); a node of it (`Node`); and what an answer stands for (`found_of`).
-- Which tree is found is left open; completions' `Answers` says what the answer tells.
use Rattle.std.proofs.Math.Option.{Option, none, some}
use Rattle.std.specs.Prelude.{List, ◌<◌, ◌≤◌, ℕ, Option as Maybe, None, Some, get_or, length}
use Rattle.lists.specs.Lists.{range}
use Rattle.lists.proofs.Members.{◌∈◌}
use Rattle.graph.specs.Graph.{Graph}
use Rattle.graph.proofs.Minimal.{WellFormed}
use Rattle.forests.proofs.Forest.{Forest}
use Rattle.forests.proofs.Joined.{Lies}
use Rattle.chosen.specs.Chosen.{rows_of, rows_on}
use Rattle.chosen.specs.declared.Chosen.{Chosen}

-- the graph of these ends, with nodes from 1 on and the plant at node 1
abbrev pub graph_in : List ℕ → List ℕ → ℕ → Graph
graph_in firsts seconds limit = record { plant = 1; nodes = range 1 limit; first_ends = firsts; second_ends = seconds }

-- What a search is over: a graph of at most 32 nodes and 256 rows, and one to four criteria.
pub record Tables (firsts seconds : List ℕ) (limit k : ℕ) : Type 0 where
  pub formed : WellFormed (graph_in firsts seconds limit)
  pub small : limit ≤ 32
  pub few_rows : length firsts ≤ 256
  pub some_criteria : 0 < k
  pub few_criteria : k ≤ 4

-- A node of the search: the rows that are in make no ring, the usable rows lie between nodes, and limits past the last criterion let 0 in.
pub record Node (g : Graph) (k : ℕ) (limits inc usable : List ℕ) : Type 0 where
  pub forest : Forest g inc
  pub lies : (r : ℕ) → r ∈ rows_on usable → Lies g r
  pub open_past_lem : (c : ℕ) → k ≤ c → c < 4 → 0 < get_or limits c 0

-- the tree that was found
abbrev pub found_of : Maybe Chosen → Option (List ℕ)
found_of None = none
found_of (Some rows) = some (rows_of rows)
