-- The trees of a network whose rows have states: those with all must rows and no barred row, in the order of the list.
use Rattle.std.specs.Prelude.{Bool, false, not, true, List, map, ℕ}
use Rattle.lists.specs.Lists.{all, both, filter_b, has_all, pick, range}
use Rattle.graph.specs.Graph.{Graph, row_numbers}
use Rattle.graph.specs.Paths.{trees}
use Rattle.costs.specs.Network.{Network, Row, State, barred, graph_of, must, «open», row_at}

abbrev pub is_must : State → Bool
is_must «open» = false
is_must must = true
is_must barred = false

abbrev pub is_barred : State → Bool
is_barred «open» = false
is_barred must = false
is_barred barred = true

-- row r must be dug, or may not be
abbrev pub must_at : Network → ℕ → Bool
must_at w r = is_must (row_at w r).state

abbrev pub barred_at : Network → ℕ → Bool
barred_at w r = is_barred (row_at w r).state

-- the must rows, ascending
abbrev pub must_rows : Network → List ℕ
must_rows w = filter_b (must_at w) (row_numbers (graph_of w))

-- all must rows are there, and no barred row
abbrev pub keeps_states : Network → List ℕ → Bool
keeps_states w rows = both (has_all (must_rows w) rows) (all (λ r. not (barred_at w r)) rows)

-- The network's own trees.
abbrev pub layouts : Network → List (List ℕ)
layouts w = filter_b (keeps_states w) (trees (graph_of w))

-- an end of a row: 0 if the row is barred, and 0 if it is no must row
abbrev pub open_end : Row → ℕ → ℕ
open_end row end = pick (is_barred row.state) 0 end

abbrev pub must_end : Row → ℕ → ℕ
must_end row end = pick (is_must row.state) end 0

-- The graph without the barred rows: their ends are 0, which is no node.
abbrev pub open_graph : Network → Graph
open_graph w = record {
  plant = 1;
  nodes = range 1 w.node_count;
  first_ends = map (λ row. open_end row row.first_end) w.rows;
  second_ends = map (λ row. open_end row row.second_end) w.rows;
}

-- the ends of the must rows, 0 for every other row
abbrev pub must_firsts : Network → List ℕ
must_firsts w = map (λ row. must_end row row.first_end) w.rows
