-- The three demands on the library, said over the definitions that the contracts cite; `demand_1`, `demand_2` and `demand_3` of proofs/Demands.antt are
-- their proofs. Beside them Shuffles.antt says what two files have in common whose rows stand in another sequence, Texts.antt what a DIMACS edge file
-- and a network file have, and Surveys.antt what stands of two surveys.
--
-- On every input an operation equals its definition: that is its contract. The demands speak of the definitions. (tests/tests/contracts.rs holds both
-- tables to the contracts in src/.)
--
-- | function          | definition                       | demands |
-- |-------------------|----------------------------------|---------|
-- | network::open     | network_file File open_of        | 1       |
-- | reach::reach      | operations Operations reach_call | 1, 2    |
-- | count::count      | counts Count count_call          | 1, 2    |
-- | order::order      | operations Operations order_call | 1, 2    |
-- | cost::cost        | operations Operations cost_call  | 1, 2    |
-- | charge::charge    | charges Charges charge_call      | 1, 2    |
-- | page::page        | operations Operations page_call  | 1, 3    |
-- | pick::pick        | operations Operations pick_call  | 3       |
-- | index::build      | indexes Index index_call         | 1, 3    |
-- | fetch::fetch      | indexes Index fetch_call         | 1, 3    |
-- | front::front      | operations Operations front_call | 1, 3    |
-- | office::office    | offices Offices office_call      | 1, 2, 3 |
-- | edge_read::read   | edge_file Dimacs dimacs_call     | 1       |
-- | edge_write::write | edge_file Dimacs text_call       | 1       |
-- | survey::survey    | surveys Surveys survey_call      | 1       |
--
-- The functions for Rust and C, each with the definition that it hands on:
--
-- | function                        | definition                           | hands on    |
-- |---------------------------------|--------------------------------------|-------------|
-- | planner_c::planner_open         | planner_c Calls planner_open         | open_of     |
-- | planner_c::planner_reach        | planner_c Calls planner_reach        | reach_call  |
-- | planner_c::planner_count        | planner_c Calls planner_count        | count_call  |
-- | planner_c::planner_order        | planner_c Calls planner_order        | order_call  |
-- | planner_c::planner_cost         | planner_c Calls planner_cost         | cost_call   |
-- | planner_c::planner_charge       | planner_c Calls planner_charge       | charge_call |
-- | planner_c::planner_page         | planner_c Calls planner_page         | page_call   |
-- | planner_c::planner_pick         | planner_c Calls planner_pick         | pick_call   |
-- | planner_c::planner_index_build  | planner_c Calls planner_index        | index_call  |
-- | planner_c::planner_index_fetch  | planner_c Calls planner_fetch        | fetch_call  |
-- | planner_c::planner_front        | planner_c Calls planner_front        | front_call  |
-- | planner_c::planner_office       | planner_c Calls planner_office       | office_call |
-- | planner_c::planner_dimacs_read  | planner_c Calls planner_dimacs_read  | dimacs_call |
-- | planner_c::planner_dimacs_write | planner_c Calls planner_dimacs_write | text_call   |
-- | planner_c::planner_survey       | planner_c Calls planner_survey       | survey_call |
use Rattle.std.specs.Prelude.{◌≡◌, false, ◌↔◌, List, [], ◌++◌, ◌∷◌, map, ◌%◌, ◌*◌, ◌+◌, ◌/◌, ◌<◌, ◌≤◌, min, ℕ, drop, get_or, length, take, T}
use Rattle.std.proofs.Math.Option.{none}
use Rattle.lists.proofs.Distinct.{Distinct}
use Rattle.lists.proofs.Members.{◌∈◌, ◌⊆◌}
use Rattle.lists.proofs.Orders.{Ascending}
use Rattle.graph.specs.Graph.{is_tree, width}
use Rattle.graph.specs.Paths.{is_minimal, path_less}
use Rattle.checks.specs.Checks.{Check, Ended, answered, first_unmet, refused}
use Rattle.checks.proofs.Checks.{StopsAt}
use Rattle.costs.specs.Costs.{cost_of, dominates, front, vector_less}
use Rattle.costs.specs.Layouts.{keeps_states, must_rows}
use Rattle.forests.proofs.Forest.{Forest}
use Rattle.network_file.specs.File.{file_checks, network_of, open_of, sizes_of, within}
use Rattle.pages.specs.Pages.{capacity, pieces, rest_after}
use Rattle.operations.specs.Operations.{FrontTables, Fronted, Paged, Reached, cost_call, cost_checks, front_call, front_checks, graph_in}
use Rattle.operations.specs.Operations.{layouts_in, order_call, order_checks, over, page_call, page_checks, pick_call, reach_call}
use Rattle.operations.specs.Runs.{Call, run_of}
use Rattle.charges.specs.Charges.{Charge, Split, added_at, charge_call, charge_checks, charged_nodes, charges_by}
use Rattle.counts.specs.Count.{count_call, count_checks}
use Rattle.counts.specs.Trees.{tree_count}
use Rattle.indexes.specs.Index.{entry_at, fetch_call, fetch_checks, index_call, index_checks}
use Rattle.edge_file.specs.Dimacs.{dimacs_call, edges_checks, text_call, text_checks}
use Rattle.edge_file.specs.Text.{edges_of}
use Rattle.surveys.specs.Surveys.{survey_call, survey_checks}
use Rattle.operations.proofs.Runs.{Claim}
use Rattle.table.specs.Enter.{Row}
use Rattle.offices.specs.Offices.{Counts, Half, fits_in, half_of, half_rows, note_of, office_call, office_checks, part_of, rows_after, tables_fit, written}
use Rattle.offices.specs.Sequences.{Entry, OfficeClaim, office_of, other}

-- the file meets all its checks
abbrev pub Passes : List ℕ → Type 0
Passes f = first_unmet (file_checks f) ≡ none

-- rows that are a tree of the network: a spanning tree with all must rows and no barred row
abbrev pub Tree : List ℕ → List ℕ → Type 0
Tree f rows = T (is_tree (graph_in f) rows) × T (keeps_states (network_of f) rows)

-- Demand 1: a fault is refused by the number of the first check not met, and after a refusal every lent buffer is as it was. (That each
-- operation ends, and reads and writes only what it was lent, is what the checker proves of every function.)

-- a call with these checks that is lent the buffers `before`: it is refused by e exactly if e is the number of the first check not met
pub record Refuses {A B : Type 0} (cs : List Check) (call : Ended A B) (before : B) : Type 0 where
  pub first : (e : ℕ) → (call.outcome ≡ refused e) ↔ StopsAt cs e
  pub kept : (e : ℕ) → call.outcome ≡ refused e → call.buffers ≡ before

-- the file passes, and its network has no tree
abbrev pub NoTree : List ℕ → Type 0
NoTree f = Passes f × ((rows : List ℕ) → ¬ Tree f rows)

-- the numbers of a table of checks, in its order
abbrev pub numbers : List Check → List ℕ
numbers cs = map (λ c. c.number) cs

abbrev pub file_numbers : List ℕ
file_numbers = 1 ∷ 2 ∷ 3 ∷ 4 ∷ 5 ∷ 6 ∷ 7 ∷ 14 ∷ []

-- those of a path to start after
abbrev pub start_numbers : List ℕ → List ℕ
start_numbers [] = []
start_numbers (r ∷ rs) = 8 ∷ 9 ∷ 10 ∷ 15 ∷ 13 ∷ []

-- Open, Reach and Count are lent nothing to write in
pub record Demand1 (f rows : List ℕ) (criterion : ℕ) (buffer page start : List ℕ) (spacing : ℕ) (index : List ℕ) (tree : ℕ) (costs witnesses : List ℕ) (office h : ℕ) (counts : Counts)
    (text newer : List ℕ) : Type 0 where
  pub opens : (e : ℕ) → (open_of f ≡ refused e) ↔ StopsAt (file_checks f) e
  pub reaches : (e : ℕ) → (reach_call f ≡ refused e) ↔ StopsAt (file_checks f) e
  pub tallies : (e : ℕ) → (count_call f ≡ refused e) ↔ StopsAt (count_checks f) e
  pub orders : Refuses (order_checks f rows buffer) (order_call f rows buffer) buffer
  pub prices : Refuses (cost_checks f rows buffer) (cost_call f rows buffer) buffer
  pub charges : Refuses (charge_checks f rows criterion buffer) (charge_call f rows criterion buffer) buffer
  pub pages : Refuses (page_checks f page start) (page_call f page start) page
  pub indexes : Refuses (index_checks f spacing index) (index_call f spacing index) index
  pub fetches : Refuses (fetch_checks f spacing index tree buffer) (fetch_call f spacing index tree buffer) buffer
  pub fronts : Refuses (front_checks f costs witnesses) (front_call f costs witnesses) (record { costs = costs; witnesses = witnesses })
  pub notes : let lent : FrontTables = record { costs = costs; witnesses = witnesses } in Refuses (office_checks f rows office h counts lent) (office_call f rows office h counts lent) lent
  -- reading a text is refused by its own checks, and writing one by the file's
  pub reads : Refuses (edges_checks (edges_of text) buffer) (dimacs_call text buffer) buffer
  pub writes : Refuses (text_checks f buffer) (text_call f buffer) buffer
  -- a newer survey over the file: both files' checks, then the call's own
  pub surveys : Refuses (survey_checks f newer buffer) (survey_call f newer buffer) buffer
  -- 12 exactly if there is no tree
  pub pages_none : ((page_call f page start).outcome ≡ refused 12) ↔ NoTree f
  pub fronts_none : ((front_call f costs witnesses).outcome ≡ refused 12) ↔ NoTree f
  -- and the spacing is in range, which is asked before
  pub indexes_none : ((index_call f spacing index).outcome ≡ refused 12) ↔ (T (within 1 1000 spacing) × NoTree f)
  -- document 01's order, with 14 to 19, 22, 24, 25 and 26 of document 02
  pub file_order : numbers (file_checks f) ≡ file_numbers
  pub count_order : numbers (count_checks f) ≡ file_numbers ++ (25 ∷ [])
  pub order_order : numbers (order_checks f rows buffer) ≡ file_numbers ++ (8 ∷ 9 ∷ 10 ∷ 15 ∷ 11 ∷ [])
  pub cost_order : numbers (cost_checks f rows buffer) ≡ file_numbers ++ (8 ∷ 9 ∷ 10 ∷ 15 ∷ 11 ∷ [])
  pub charge_order : numbers (charge_checks f rows criterion buffer) ≡ file_numbers ++ (8 ∷ 9 ∷ 10 ∷ 15 ∷ 11 ∷ 22 ∷ [])
  pub page_order : numbers (page_checks f page start) ≡ file_numbers ++ (12 ∷ 11 ∷ start_numbers start)
  pub index_order : numbers (index_checks f spacing index) ≡ file_numbers ++ (26 ∷ 12 ∷ 11 ∷ [])
  pub fetch_order : numbers (fetch_checks f spacing index tree buffer) ≡ file_numbers ++ (26 ∷ 11 ∷ 26 ∷ 9 ∷ 10 ∷ 15 ∷ 13 ∷ 26 ∷ [])
  pub front_order : numbers (front_checks f costs witnesses) ≡ file_numbers ++ (12 ∷ 11 ∷ [])
  pub read_order : numbers (edges_checks (edges_of text) buffer) ≡ 16 ∷ 17 ∷ 3 ∷ 6 ∷ 11 ∷ []
  pub write_order : numbers (text_checks f buffer) ≡ file_numbers ++ (11 ∷ [])
  pub survey_order : numbers (survey_checks f newer buffer) ≡ file_numbers ++ file_numbers ++ (18 ∷ 19 ∷ 11 ∷ [])
  pub office_order : numbers (office_checks f rows office h counts (record { costs = costs; witnesses = witnesses })) ≡ file_numbers ++ (8 ∷ 9 ∷ 10 ∷ 15 ∷ 11 ∷ 24 ∷ [])

-- Demand 2, of a file that passes: each listed layout is a tree of the network, written as its minimal path; each drawn tree is turned into the one
-- minimal path with exactly its rows; each cost is the defined one, over those rows, and at most 31,000,000; the cost in an added criterion is split
-- among nodes 2 to n without loss; an office enters that path with that cost; and Count says how many trees the list has.

-- a tree exists exactly if Reach's size is n and the must rows have no cycle
pub record Exists (f : List ℕ) : Type 0 where
  pub reach : Reached
  pub reaches : reach_call f ≡ answered reach
  pub exactly : ((rows : List ℕ) × Tree f rows) ↔ ((reach.size ≡ (sizes_of f).n) × Forest (graph_in f) (must_rows (network_of f)))

-- the one minimal path of a spanning tree, with exactly its rows
pub record PathOfTree (f rows : List ℕ) : Type 0 where
  pub path : List ℕ
  pub minimal : T (is_minimal (graph_in f) path)
  pub within : path ⊆ rows
  pub around : rows ⊆ path
  pub only : (other : List ℕ) → T (is_minimal (graph_in f) other) → other ⊆ rows → rows ⊆ other → other ≡ path
  -- the list has it exactly if the rows keep the rows' states
  pub listed : T (keeps_states (network_of f) rows) ↔ (path ∈ layouts_in f)
  pub priced : cost_of (network_of f) rows ≡ cost_of (network_of f) path
  pub greatest : (x : ℕ) → x ∈ cost_of (network_of f) rows → x ≤ 31000000

-- the connection charge of a tree: what Cost gives in the criterion, split among nodes 2 to n
pub record ChargeClaim (f rows path : List ℕ) (criterion : ℕ) (buffer : List ℕ) : Type 0 where
  pub charge : Charge
  pub splits : Split (get_or (cost_of (network_of f) path) criterion 0) (charged_nodes f) charge
  pub answers : charge_call f rows criterion buffer ≡ record { outcome = answered charge; buffers = over (charges_by charge (charged_nodes f)) buffer }

-- Order, Cost and the charge in an added criterion of a tree of the network, drawn in any sequence, with room for the answer; and what an office enters for it
pub record Drawn (f rows path : List ℕ) : Type 0 where
  pub orders : (buffer : List ℕ) → width (graph_in f) ≤ length buffer → order_call f rows buffer ≡ record { outcome = answered tt; buffers = over path buffer }
  pub prices : (buffer : List ℕ) → (sizes_of f).k ≤ length buffer
      → cost_call f rows buffer ≡ record { outcome = answered tt; buffers = over (cost_of (network_of f) path) buffer }
  pub charges : (criterion : ℕ) (buffer : List ℕ) → T (added_at (network_of f) criterion) → charged_nodes f ≤ length buffer → ChargeClaim f rows path criterion buffer
  -- where check 11 is met and the half has room
  pub enters : (office h : ℕ) (counts : Counts) (lent : FrontTables)
      → let before = half_rows f h (half_of office) counts lent in
      let entry : Row = record { vector = cost_of (network_of f) path; path = path } in
      T (tables_fit (sizes_of f).k (width (graph_in f)) office h counts lent) → T (fits_in h before entry)
      → office_call f rows office h counts lent
      ≡ record { outcome = answered (note_of before entry); buffers = written (sizes_of f).k (width (graph_in f)) h (half_of office) (rows_after before entry) lent }

-- the number by dropping and by merging is the list's length, 0 without a tree, and Count answers it unless it exceeds 4,000,000,000
pub record CountClaim (f : List ℕ) : Type 0 where
  pub listed : tree_count (network_of f) ≡ length (layouts_in f)
  pub answers : length (layouts_in f) ≤ 4000000000 → count_call f ≡ answered (length (layouts_in f))
  pub refuses : (count_call f ≡ refused 25) ↔ (4000000000 < length (layouts_in f))
  pub none : (count_call f ≡ answered 0) ↔ ((rows : List ℕ) → ¬ Tree f rows)

pub record Demand2 (f : List ℕ) : Type 0 where
  pub exists : Exists f
  pub trees_are_lem : (path : List ℕ) → path ∈ layouts_in f → Tree f path × T (is_minimal (graph_in f) path)
  pub ascending : Ascending (path_less (graph_in f)) (layouts_in f)
  pub once : Distinct (layouts_in f)
  pub each : (rows : List ℕ) → T (is_tree (graph_in f) rows) → PathOfTree f rows
  pub counted : CountClaim f
  pub drawn : (rows : List ℕ) (tree : Tree f rows) → Drawn f rows (each rows tree.0).path

-- Demand 3, of a file that passes and whose network has a tree: the run of pages, for every list of calls; trees by their number; the front beside it; and the fronts of two offices'
-- entries, in one table.

-- the trees of the network, each once, as their minimal paths
pub record EveryTree (f : List ℕ) (written : List (List ℕ)) : Type 0 where
  pub all : written ≡ layouts_in f
  pub once : Distinct written
  pub trees_are_lem : (path : List ℕ) → path ∈ written → Tree f path × T (is_minimal (graph_in f) path)
  pub each : (rows : List ℕ) → Tree f rows → (path : List ℕ) × (path ∈ written) × (path ⊆ rows) × (rows ⊆ path)

-- what a call of Page that is answered by a leaves, from whatever start: trees of the list, those behind the start, and then the page as it was; and
-- Pick hands each of them back
pub record PageFrom (f page start : List ℕ) (a : Paged) : Type 0 where
  pub written : pieces (width (graph_in f)) a.count (page_call f page start).buffers ≡ take a.count (rest_after (layouts_in f) start)
  pub listed : (path : List ℕ) → path ∈ pieces (width (graph_in f)) a.count (page_call f page start).buffers → path ∈ layouts_in f
  pub rest : drop (a.count * width (graph_in f)) (page_call f page start).buffers ≡ drop (a.count * width (graph_in f)) page
  pub picked : (t : ℕ) → t < a.count
      → pick_call (sizes_of f).n (page_call f page start).buffers t ≡ get_or (pieces (width (graph_in f)) a.count (page_call f page start).buffers) t []

-- an index that was built, of n trees: it has tree i × s of the list at place i, for every tree that there is, and then the buffer as it was; and a fetch from it gives
-- the list's tree t by t % s moves, or 26 where the list has no such tree
pub record IndexClaim (f : List ℕ) (s : ℕ) (index : List ℕ) (n : ℕ) : Type 0 where
  pub every : (i : ℕ) → (i < n) ↔ (i * s < length (layouts_in f))
  pub entries : (i : ℕ) → i < n → get_or (pieces (width (graph_in f)) n (index_call f s index).buffers) i [] ≡ get_or (layouts_in f) (i * s) []
  pub rest : drop (n * width (graph_in f)) (index_call f s index).buffers ≡ drop (n * width (graph_in f)) index
  pub fetched : (t : ℕ) (buffer : List ℕ) → width (graph_in f) ≤ length buffer → t < length (layouts_in f)
      → fetch_call f s (take (n * width (graph_in f)) (index_call f s index).buffers) t buffer
      ≡ record { outcome = answered (t % s); buffers = over (get_or (layouts_in f) t []) buffer }
  pub past : (t : ℕ) (buffer : List ℕ) → width (graph_in f) ≤ length buffer → length (layouts_in f) ≤ t
      → fetch_call f s (take (n * width (graph_in f)) (index_call f s index).buffers) t buffer ≡ record { outcome = refused 26; buffers = buffer }

-- a fetch from any index that is answered by m: the entry for t is the list's tree at some place, and the tree written stands m places behind it
pub record FetchClaim (f : List ℕ) (s : ℕ) (index : List ℕ) (t : ℕ) (buffer : List ℕ) (m : ℕ) : Type 0 where
  pub moves : m ≡ t % s
  pub place : ℕ
  pub entry : get_or (layouts_in f) place [] ≡ entry_at (width (graph_in f)) index (t / s)
  pub reached : place + m < length (layouts_in f)
  pub written : (fetch_call f s index t buffer).buffers ≡ over (get_or (layouts_in f) (place + m) []) buffer

-- v is the cost vector of a tree of the network
abbrev pub Costs : List ℕ → List ℕ → Type 0
Costs f v = (rows : List ℕ) × Tree f rows × (cost_of (network_of f) rows ≡ v)

-- The front: exactly the vectors of trees that no tree's vector dominates, ascending, each once.
pub record FrontIs (f : List ℕ) : Type 0 where
  pub members : (v : List ℕ) → (v ∈ front (network_of f)) ↔ (Costs f v × ((rows : List ℕ) → Tree f rows → ¬ T (dominates (cost_of (network_of f) rows) v)))
  pub ascending : Ascending vector_less (front (network_of f))
  pub once : Distinct (front (network_of f))

-- p is the first tree of the list that has the vector v: none that stands before it has v.
pub record FirstTree (f v p : List ℕ) : Type 0 where
  pub before : List (List ℕ)
  pub behind : List (List ℕ)
  pub stands : layouts_in f ≡ before ++ p ∷ behind
  pub priced : cost_of (network_of f) p ≡ v
  pub none_before : (q : List ℕ) → q ∈ before → ¬ (cost_of (network_of f) q ≡ v)

-- Front, with tables that have room for a row: the first vectors of the front, as many as fit, and beside each the first tree of the list that has
-- it; the rest of both tables as it was; and the mark says truly whether that is all.
pub record FrontClaim (f costs witnesses : List ℕ) : Type 0 where
  pub answer : Fronted
  pub answers : (front_call f costs witnesses).outcome ≡ answered answer
  pub count : answer.count ≡ min (length (front (network_of f))) (capacity (sizes_of f).k (width (graph_in f)) costs witnesses)
  pub whole : T answer.whole ↔ (length (front (network_of f)) ≤ capacity (sizes_of f).k (width (graph_in f)) costs witnesses)
  pub vectors_are : pieces (sizes_of f).k answer.count (front_call f costs witnesses).buffers.costs ≡ take answer.count (front (network_of f))
  -- row by row
  pub trees_are_lem : (i : ℕ) → i < answer.count
      → FirstTree f (get_or (pieces (sizes_of f).k answer.count (front_call f costs witnesses).buffers.costs) i [])
      (get_or (pieces (width (graph_in f)) answer.count (front_call f costs witnesses).buffers.witnesses) i [])
  pub costs_rest : drop (answer.count * (sizes_of f).k) (front_call f costs witnesses).buffers.costs ≡ drop (answer.count * (sizes_of f).k) costs
  pub witnesses_rest : drop (answer.count * width (graph_in f)) (front_call f costs witnesses).buffers.witnesses ≡ drop (answer.count * width (graph_in f)) witnesses

-- An office's call leaves the other's rows of both tables as they were.
pub record OtherKept (f rows : List ℕ) (h : ℕ) (counts : Counts) (lent : FrontTables) (x : Half) : Type 0 where
  pub costs : part_of (other x) (h * (sizes_of f).k) (office_call f rows (office_of x) h counts lent).buffers.costs ≡ part_of (other x) (h * (sizes_of f).k) lent.costs
  pub witnesses : part_of (other x) (h * width (graph_in f)) (office_call f rows (office_of x) h counts lent).buffers.witnesses ≡ part_of (other x) (h * width (graph_in f)) lent.witnesses

pub record Demand3 (f : List ℕ) : Type 0 where
  pub pages : (pages : List (List ℕ)) → Claim f pages
  -- once a call says that no tree is to come, what is written is every tree, each once
  pub complete : (pages : List (List ℕ)) (c : Call) (a : Paged) → c ∈ (run_of f pages).calls → c.outcome ≡ answered a → a.more ≡ false
      → EveryTree f (run_of f pages).written
  pub page_from : (page start : List ℕ) (a : Paged) → (page_call f page start).outcome ≡ answered a → PageFrom f page start a
  pub indexes : (s : ℕ) (index : List ℕ) (n : ℕ) → (index_call f s index).outcome ≡ answered n → IndexClaim f s index n
  pub fetches : (s : ℕ) (index : List ℕ) (t : ℕ) (buffer : List ℕ) (m : ℕ) → (fetch_call f s index t buffer).outcome ≡ answered m → FetchClaim f s index t buffer m
  pub is_front : FrontIs f
  pub fronts : (costs witnesses : List ℕ) → (sizes_of f).k ≤ length costs → width (graph_in f) ≤ length witnesses → FrontClaim f costs witnesses
  -- two offices in one table of 2 × h rows, for every sequence of entries from an empty table; and each call, whatever it is handed
  pub offices : (h : ℕ) (lent : FrontTables) → 0 < h → length lent.costs ≡ 2 * (h * (sizes_of f).k) → length lent.witnesses ≡ 2 * (h * width (graph_in f))
      → (es : List Entry) (x : Half) → OfficeClaim f h lent es x
  pub others_kept : (rows : List ℕ) (h : ℕ) (counts : Counts) (lent : FrontTables) (x : Half) → OtherKept f rows h counts lent x
