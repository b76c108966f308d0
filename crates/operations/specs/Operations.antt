-- Document 01's operations but Open (crate network_file), with document 02's row states (#102) and first witness (#101): each gives, for every
-- input, its outcome and every lent buffer afterwards.
-- Each has its whole table of checks, in document 01's order. A definition that says "asked only after check .." may answer
-- anything before: the table stops at the first check that is not met.
use Rattle.std.specs.Prelude.{Bool, ◌&&◌, false, true, List, [], ◌++◌, ◌∷◌, map, ◌*◌, ◌+◌, ◌-◌, ◌^◌, min, ℕ, eqb, leb, ltb, drop, length, take}
use Rattle.lists.specs.Lists.{all, filter_b, pick, sum}
use Rattle.graph.specs.Graph.{Graph, is_tree, row_numbers, runs, width}
use Rattle.graph.specs.Paths.{is_minimal, path_in, path_of}
use Rattle.checks.specs.Checks.{Check, Ended, Outcome, checked, ended}
use Rattle.costs.specs.Costs.{cost_of, front_trees, front_vectors}
use Rattle.costs.specs.Layouts.{keeps_states, layouts, open_graph}
use Rattle.costs.specs.Network.{Network, graph_of}
use Rattle.network_file.specs.File.{file_checks, network_of, sizes_of, within}
use Rattle.pages.specs.Pages.{capacity, flat, more_after, page_after, page_count, rest_after}

abbrev pub graph_in : List ℕ → Graph
graph_in f = graph_of (network_of f)

-- the graph without the barred rows, and the network's own trees: those with all must rows and no barred row
abbrev pub open_in : List ℕ → Graph
open_in f = open_graph (network_of f)

abbrev pub layouts_in : List ℕ → List (List ℕ)
layouts_in f = layouts (network_of f)

abbrev pub check : ℕ → Bool → Check
check number met = record { number = number; met = met }

-- a buffer whose first places hold these numbers, and whose others keep their content
abbrev pub over : List ℕ → List ℕ → List ℕ
over places buffer = places ++ drop (length places) buffer

-- Reach

pub record Reached : Type 0 where
  pub word : ℕ
  pub size : ℕ

-- the nodes that a run of rows joins to the plant, and the plant
unfoldable pub reached_nodes : Graph → List ℕ
reached_nodes g = filter_b (λ v. runs g (row_numbers g) (length g.nodes) g.plant v) g.nodes

-- bit p - 1 for node p
unfoldable pub word_of : List ℕ → ℕ
word_of nodes = sum (map (λ p. 2 ^ (p - 1)) nodes)

unfoldable pub reach_call : List ℕ → Outcome Reached
reach_call f = checked (file_checks f) (record { word = word_of (reached_nodes (open_in f)); size = length (reached_nodes (open_in f)) })

-- Order and Cost

-- rows that are a spanning tree, in any sequence
unfoldable pub tree_checks : Graph → List ℕ → List Check
tree_checks g rows =
    check 8 (eqb (length rows) (width g))
    ∷ check 9 (all (λ r. ltb r (length g.first_ends)) rows)
    ∷ check 10 (is_tree g rows)
    ∷ []

-- rows that were drawn in any sequence: a spanning tree, in the plain sense, that keeps the rows' states
unfoldable pub drawn_checks : Network → List ℕ → List Check
drawn_checks w rows = tree_checks (graph_of w) rows ++ (check 15 (keeps_states w rows) ∷ [])

unfoldable pub order_checks : List ℕ → List ℕ → List ℕ → List Check
order_checks f rows buffer = file_checks f ++ drawn_checks (network_of f) rows ++ (check 11 (leb (width (graph_in f)) (length buffer)) ∷ [])

-- the path is asked only after check 10, where the rows have one
unfoldable pub order_call : List ℕ → List ℕ → List ℕ → Ended (Unit {0}) (List ℕ)
order_call f rows buffer = ended (order_checks f rows buffer) tt buffer (over (path_in (path_of (graph_in f) rows)) buffer)

unfoldable pub cost_checks : List ℕ → List ℕ → List ℕ → List Check
cost_checks f rows buffer = file_checks f ++ drawn_checks (network_of f) rows ++ (check 11 (leb (sizes_of f).k (length buffer)) ∷ [])

unfoldable pub cost_call : List ℕ → List ℕ → List ℕ → Ended (Unit {0}) (List ℕ)
cost_call f rows buffer = ended (cost_checks f rows buffer) tt buffer (over (cost_of (network_of f) rows) buffer)

-- Page

abbrev pub some_tree : List (List ℕ) → Bool
some_tree [] = false
some_tree (p ∷ l) = true

-- the path to start after; an empty one has no checks
unfoldable pub start_checks : Network → List ℕ → List Check
start_checks w [] = []
start_checks w (r ∷ rs) = drawn_checks w (r ∷ rs) ++ (check 13 (is_minimal (graph_of w) (r ∷ rs)) ∷ [])

pub record Paged : Type 0 where
  pub count : ℕ
  pub more : Bool

unfoldable pub page_checks : List ℕ → List ℕ → List ℕ → List Check
page_checks f page start =
    file_checks f
    ++ (check 12 (some_tree (layouts_in f)) ∷ check 11 (leb (width (graph_in f)) (length page)) ∷ start_checks (network_of f) start)

-- the trees behind the start are asked only after checks 10, 15 and 13
unfoldable pub page_call : List ℕ → List ℕ → List ℕ → Ended Paged (List ℕ)
page_call f page start =
    let w = width (graph_in f) in
    let rest = rest_after (layouts_in f) start in
    ended (page_checks f page start) (record { count = page_count w page rest; more = more_after w page rest }) page (page_after w page rest)

-- Pick: no refusal, and an empty part where n is out of range or the page ends before tree t does.

unfoldable pub pick_call : ℕ → List ℕ → ℕ → List ℕ
pick_call n page t = pick (within 2 32 n && leb (t * (n - 1) + (n - 1)) (length page)) (take (n - 1) (drop (t * (n - 1)) page)) []

-- Front

pub record Fronted : Type 0 where
  pub count : ℕ
  -- the mark: 'whole' if true, else 'cut'
  pub whole : Bool

-- the cost table and the witness table
pub record FrontTables : Type 0 where
  pub costs : List ℕ
  pub witnesses : List ℕ

-- the answer, and both tables afterwards
pub record FrontEnd : Type 0 where
  pub answer : Fronted
  pub tables : FrontTables

-- What Front comes to over some trees, of `places` rows each: the first vectors of their front, as many as fit, and beside each its witness.
unfoldable pub front_over : Network → ℕ → List (List ℕ) → FrontTables → FrontEnd
front_over w places trees lent =
    let rows = capacity (length w.kinds) places lent.costs lent.witnesses in
    let vectors = front_vectors w trees in
    record {
      answer = record { count = min (length vectors) rows; whole = leb (length vectors) rows };
      tables = record {
        costs = over (flat (take rows vectors)) lent.costs;
        witnesses = over (flat (take rows (front_trees w trees))) lent.witnesses;
      };
    }

unfoldable pub front_checks : List ℕ → List ℕ → List ℕ → List Check
front_checks f costs witnesses =
    file_checks f
    ++ (check 12 (some_tree (layouts_in f))
    ∷ check 11 (leb (sizes_of f).k (length costs) && leb (width (graph_in f)) (length witnesses))
    ∷ [])

unfoldable pub front_call : List ℕ → List ℕ → List ℕ → Ended Fronted FrontTables
front_call f costs witnesses =
    let lent : FrontTables = record { costs = costs; witnesses = witnesses } in
    let end = front_over (network_of f) (width (graph_in f)) (layouts_in f) lent in
    ended (front_checks f costs witnesses) end.answer lent end.tables
