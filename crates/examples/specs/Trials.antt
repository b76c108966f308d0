-- Document 01's starred trials, as questions to the definitions of the operations, each with its answer, on network A's file; and trials
-- of document 02's row states (#102) and first witness (#101) on files with the same ends, of streets closed once (#103) on network C's, of
-- comparison by cases (#105), of the connection charge (#109), of two offices in one table (#111), of the count (#112), of shuffled rows (#113), of
-- trees by number (#114), of DIMACS edge files (#104), and of a newer survey over an older (#106).
use Rattle.std.specs.Prelude.{◌≡◌, Bool, false, true, List, [], ◌++◌, ◌∷◌, map, ◌-◌, suc, ℕ, drop, length, take}
use Rattle.std.proofs.Math.Option.{Option, none, some}
use Rattle.lists.specs.Lists.{range}
use Rattle.checks.specs.Checks.{Ended, Outcome, answered, refused}
use Rattle.costs.specs.Cases.{Case, case_after, so_far_better, so_far_equal, worse_somewhere}
use Rattle.costs.specs.Costs.{dominates, front}
use Rattle.costs.specs.Network.{Network}
use Rattle.network_file.specs.File.{Sizes, network_of, open_of}
use Rattle.operations.specs.Operations.{FrontTables, Fronted, Paged, Reached, cost_call, front_call, graph_in, layouts_in, order_call, page_call, reach_call}
use Rattle.charges.specs.Charges.{Charge, charge_call, charge_of, charges_by}
use Rattle.counts.specs.Count.{count_call}
use Rattle.indexes.specs.Index.{fetch_call, index_call}
use Rattle.edge_file.specs.Dimacs.{dimacs_call, text_call}
use Rattle.edge_file.specs.Text.{Edges, Ends, edges_of}
use Rattle.offices.specs.Offices.{Counts, Noted, office_call}
use Rattle.shuffles.specs.Shuffles.{part_parallel, renamed_path}
use Rattle.surveys.specs.Surveys.{survey_call}
use Rattle.examples.specs.Examples.{A, B, C}

-- the 59 bytes of network A's file: the sizes, the kinds, and a line for each row
abbrev pub file_a : List ℕ
file_a =
    1 ∷ 0 ∷ 0 ∷ 0 ∷ 54 ∷ 3 ∷ 0 ∷ 4 ∷ 2 ∷ 0 ∷ 1
    ∷ 1 ∷ 2 ∷ 0 ∷ 0 ∷ 0 ∷ 0 ∷ 0 ∷ 4 ∷ 0 ∷ 0 ∷ 0 ∷ 7
    ∷ 1 ∷ 2 ∷ 0 ∷ 0 ∷ 0 ∷ 0 ∷ 0 ∷ 6 ∷ 0 ∷ 0 ∷ 0 ∷ 2
    ∷ 1 ∷ 3 ∷ 0 ∷ 0 ∷ 0 ∷ 0 ∷ 0 ∷ 5 ∷ 0 ∷ 0 ∷ 0 ∷ 5
    ∷ 2 ∷ 3 ∷ 0 ∷ 0 ∷ 0 ∷ 0 ∷ 0 ∷ 3 ∷ 0 ∷ 0 ∷ 0 ∷ 6
    ∷ []

-- the same rows in another sequence: rows 3, 1, 0 and 2 of network A
abbrev pub shuffled_a : List ℕ
shuffled_a =
    1 ∷ 0 ∷ 0 ∷ 0 ∷ 54 ∷ 3 ∷ 0 ∷ 4 ∷ 2 ∷ 0 ∷ 1
    ∷ 2 ∷ 3 ∷ 0 ∷ 0 ∷ 0 ∷ 0 ∷ 0 ∷ 3 ∷ 0 ∷ 0 ∷ 0 ∷ 6
    ∷ 1 ∷ 2 ∷ 0 ∷ 0 ∷ 0 ∷ 0 ∷ 0 ∷ 6 ∷ 0 ∷ 0 ∷ 0 ∷ 2
    ∷ 1 ∷ 2 ∷ 0 ∷ 0 ∷ 0 ∷ 0 ∷ 0 ∷ 4 ∷ 0 ∷ 0 ∷ 0 ∷ 7
    ∷ 1 ∷ 3 ∷ 0 ∷ 0 ∷ 0 ∷ 0 ∷ 0 ∷ 5 ∷ 0 ∷ 0 ∷ 0 ∷ 5
    ∷ []

abbrev pub numbers_a : List ℕ
numbers_a = 3 ∷ 1 ∷ 0 ∷ 2 ∷ []

-- the same rows in version 2, with a state byte in each after the street
abbrev pub with_states : ℕ → ℕ → ℕ → ℕ → List ℕ
with_states s0 s1 s2 s3 =
    2 ∷ 0 ∷ 0 ∷ 0 ∷ 58 ∷ 3 ∷ 0 ∷ 4 ∷ 2 ∷ 0 ∷ 1
    ∷ 1 ∷ 2 ∷ 0 ∷ 0 ∷ s0 ∷ 0 ∷ 0 ∷ 0 ∷ 4 ∷ 0 ∷ 0 ∷ 0 ∷ 7
    ∷ 1 ∷ 2 ∷ 0 ∷ 0 ∷ s1 ∷ 0 ∷ 0 ∷ 0 ∷ 6 ∷ 0 ∷ 0 ∷ 0 ∷ 2
    ∷ 1 ∷ 3 ∷ 0 ∷ 0 ∷ s2 ∷ 0 ∷ 0 ∷ 0 ∷ 5 ∷ 0 ∷ 0 ∷ 0 ∷ 5
    ∷ 2 ∷ 3 ∷ 0 ∷ 0 ∷ s3 ∷ 0 ∷ 0 ∷ 0 ∷ 3 ∷ 0 ∷ 0 ∷ 0 ∷ 6
    ∷ []

-- network B's file: row 0 is barred, row 3 must be dug
abbrev pub file_b : List ℕ
file_b = with_states 2 0 0 1

-- network A with row 1 alike row 0 in its costs, and row 0 in this state
abbrev pub alike : ℕ → List ℕ
alike s0 =
    2 ∷ 0 ∷ 0 ∷ 0 ∷ 58 ∷ 3 ∷ 0 ∷ 4 ∷ 2 ∷ 0 ∷ 1
    ∷ 1 ∷ 2 ∷ 0 ∷ 0 ∷ s0 ∷ 0 ∷ 0 ∷ 0 ∷ 4 ∷ 0 ∷ 0 ∷ 0 ∷ 7
    ∷ 1 ∷ 2 ∷ 0 ∷ 0 ∷ 0 ∷ 0 ∷ 0 ∷ 0 ∷ 4 ∷ 0 ∷ 0 ∷ 0 ∷ 7
    ∷ 1 ∷ 3 ∷ 0 ∷ 0 ∷ 0 ∷ 0 ∷ 0 ∷ 0 ∷ 5 ∷ 0 ∷ 0 ∷ 0 ∷ 5
    ∷ 2 ∷ 3 ∷ 0 ∷ 0 ∷ 0 ∷ 0 ∷ 0 ∷ 0 ∷ 3 ∷ 0 ∷ 0 ∷ 0 ∷ 6
    ∷ []

-- network C's file: closing criteria, streets 7 and 65,535, and rows off the road
abbrev pub file_c : List ℕ
file_c =
    1 ∷ 0 ∷ 0 ∷ 0 ∷ 66 ∷ 3 ∷ 0 ∷ 5 ∷ 2 ∷ 2 ∷ 2
    ∷ 1 ∷ 2 ∷ 0 ∷ 7 ∷ 0 ∷ 0 ∷ 0 ∷ 3 ∷ 0 ∷ 0 ∷ 0 ∷ 6
    ∷ 2 ∷ 3 ∷ 0 ∷ 7 ∷ 0 ∷ 0 ∷ 0 ∷ 5 ∷ 0 ∷ 0 ∷ 0 ∷ 2
    ∷ 1 ∷ 3 ∷ 0 ∷ 0 ∷ 0 ∷ 0 ∷ 0 ∷ 4 ∷ 0 ∷ 0 ∷ 0 ∷ 1
    ∷ 2 ∷ 3 ∷ 255 ∷ 255 ∷ 0 ∷ 0 ∷ 0 ∷ 2 ∷ 0 ∷ 0 ∷ 0 ∷ 2
    ∷ 1 ∷ 2 ∷ 0 ∷ 0 ∷ 0 ∷ 0 ∷ 0 ∷ 4 ∷ 0 ∷ 0 ∷ 0 ∷ 4
    ∷ []

-- a newer survey of network A's nodes: one row of the pair 2 and 1, barred, in street 7
abbrev pub newer_a : List ℕ
newer_a =
    2 ∷ 0 ∷ 0 ∷ 0 ∷ 19 ∷ 3 ∷ 0 ∷ 1 ∷ 2 ∷ 0 ∷ 1
    ∷ 2 ∷ 1 ∷ 0 ∷ 7 ∷ 2 ∷ 0 ∷ 0 ∷ 0 ∷ 9 ∷ 0 ∷ 0 ∷ 0 ∷ 8
    ∷ []

-- and over network A: its rows 2 and 3 stand
abbrev pub surveyed_a : List ℕ
surveyed_a =
    2 ∷ 0 ∷ 0 ∷ 0 ∷ 45 ∷ 3 ∷ 0 ∷ 3 ∷ 2 ∷ 0 ∷ 1
    ∷ 1 ∷ 3 ∷ 0 ∷ 0 ∷ 0 ∷ 0 ∷ 0 ∷ 0 ∷ 5 ∷ 0 ∷ 0 ∷ 0 ∷ 5
    ∷ 2 ∷ 3 ∷ 0 ∷ 0 ∷ 0 ∷ 0 ∷ 0 ∷ 0 ∷ 3 ∷ 0 ∷ 0 ∷ 0 ∷ 6
    ∷ 2 ∷ 1 ∷ 0 ∷ 7 ∷ 2 ∷ 0 ∷ 0 ∷ 0 ∷ 9 ∷ 0 ∷ 0 ∷ 0 ∷ 8
    ∷ []

-- the same nodes and kinds without rows, in version 1
abbrev pub rowless : List ℕ
rowless = 1 ∷ 0 ∷ 0 ∷ 0 ∷ 6 ∷ 3 ∷ 0 ∷ 0 ∷ 2 ∷ 0 ∷ 1 ∷ []

-- each of a file
pub data Trial : Type 0 where
  opened : List ℕ → Outcome Sizes → Trial
  network : List ℕ → Network → Trial
  list : List ℕ → List (List ℕ) → Trial
  fronts : List ℕ → List (List ℕ) → Trial
  -- the list with its rows renamed by these numbers
  renamed_list : List ℕ → List ℕ → List (List ℕ) → Trial
  -- whether two paths part first at parallel rows
  parting : List ℕ → List ℕ → List ℕ → Bool → Trial
  reached : List ℕ → Outcome Reached → Trial
  counted : List ℕ → Outcome ℕ → Trial
  -- Order of these rows into a buffer of three places
  order : List ℕ → List ℕ → Ended (Unit {0}) (List ℕ) → Trial
  -- Cost of them, likewise
  cost : List ℕ → List ℕ → Ended (Unit {0}) (List ℕ) → Trial
  -- the connection charge of them in this criterion, into this buffer
  charge : List ℕ → List ℕ → ℕ → List ℕ → Ended Charge (List ℕ) → Trial
  -- an office's entry of them, with this h, these filled counts and these tables
  office : List ℕ → List ℕ → ℕ → ℕ → Counts → FrontTables → Ended Noted FrontTables → Trial
  -- Page after this path, with a page of three places
  page : List ℕ → List ℕ → Ended Paged (List ℕ) → Trial
  -- an index of this spacing, built in this buffer; and a tree fetched with one, by its number, into a buffer of three places
  index : List ℕ → ℕ → List ℕ → Ended ℕ (List ℕ) → Trial
  fetch : List ℕ → ℕ → List ℕ → ℕ → Ended ℕ (List ℕ) → Trial
  -- what a DIMACS text says, if it is one; a text read into this buffer; and a file written as text into it
  says : List ℕ → Option Edges → Trial
  reading : List ℕ → List ℕ → Ended ℕ (List ℕ) → Trial
  writing : List ℕ → List ℕ → Ended ℕ (List ℕ) → Trial
  -- a newer file over an older, into this buffer
  surveyed : List ℕ → List ℕ → List ℕ → Ended ℕ (List ℕ) → Trial
  -- Front with tables of three places each, which hold one row
  front_in : List ℕ → Ended Fronted FrontTables → Trial
  -- and of two vectors: dominance, and the cases after each number of components
  dominance : List ℕ → List ℕ → Bool → Trial
  cases : List ℕ → List ℕ → List Case → Trial
  -- and of a total and a number of nodes: what nodes 2 to n bear
  charges : ℕ → ℕ → List ℕ → Trial

abbrev pub buffer : List ℕ
buffer = 7 ∷ 8 ∷ 9 ∷ []

abbrev pub Right : Trial → Type 0
Right (opened f o) = open_of f ≡ o
Right (network f w) = network_of f ≡ w
Right (list f l) = layouts_in f ≡ l
Right (fronts f l) = front (network_of f) ≡ l
Right (renamed_list f numbers l) = map (renamed_path numbers) (layouts_in f) ≡ l
Right (parting f p q b) = part_parallel (graph_in f) p q ≡ b
Right (reached f o) = reach_call f ≡ o
Right (counted f o) = count_call f ≡ o
Right (order f rows e) = order_call f rows buffer ≡ e
Right (cost f rows e) = cost_call f rows buffer ≡ e
Right (charge f rows criterion buffer e) = charge_call f rows criterion buffer ≡ e
Right (office f rows number h counts lent e) = office_call f rows number h counts lent ≡ e
Right (page f start e) = page_call f buffer start ≡ e
Right (index f s places e) = index_call f s places ≡ e
Right (fetch f s places t e) = fetch_call f s places t buffer ≡ e
Right (says text o) = edges_of text ≡ o
Right (reading text buffer e) = dimacs_call text buffer ≡ e
Right (writing f buffer e) = text_call f buffer ≡ e
Right (surveyed older newer b e) = survey_call older newer b ≡ e
Right (front_in f e) = front_call f buffer buffer ≡ e
Right (dominance v w b) = dominates v w ≡ b
Right (cases v w l) = map (λ i. case_after i v w) (range 0 (suc (length v))) ≡ l
Right (charges total n l) = charges_by (charge_of total (n - 1)) (n - 1) ≡ l

abbrev pub AllRight : List Trial → Type 0
AllRight [] = Unit {0}
AllRight (t ∷ l) = Right t × AllRight l

-- Order and Cost answer by what they write
abbrev wrote : List ℕ → Ended (Unit {0}) (List ℕ)
wrote after = record { outcome = answered tt; buffers = after }

abbrev refused_by : {A : Type 0} → ℕ → Ended A (List ℕ)
refused_by e = record { outcome = refused e; buffers = buffer }

abbrev split : ℕ → ℕ → List ℕ → Ended Charge (List ℕ)
split quotient remainder after = record { outcome = answered (record { quotient = quotient; remainder = remainder }); buffers = after }

abbrev paged : ℕ → Bool → List ℕ → Ended Paged (List ℕ)
paged count more after = record { outcome = answered (record { count = count; more = more }); buffers = after }

abbrev fronted : ℕ → Bool → List ℕ → List ℕ → Ended Fronted FrontTables
fronted count whole costs witnesses = record { outcome = answered (record { count = count; whole = whole }); buffers = record { costs = costs; witnesses = witnesses } }

-- two offices' tables of 2 × h rows of two places each, h of them for each office
abbrev tables : List ℕ → List ℕ → FrontTables
tables costs witnesses = record { costs = costs; witnesses = witnesses }

abbrev filled : ℕ → ℕ → Counts
filled first second = record { first = first; second = second }

-- one row for each office, of which the second has the tree 0 2
abbrev lent : FrontTables
lent = tables (1 ∷ 2 ∷ 9 ∷ 7 ∷ []) (5 ∷ 6 ∷ 0 ∷ 2 ∷ [])

abbrev noted : Bool → ℕ → List ℕ → List ℕ → Ended Noted FrontTables
noted new count costs witnesses = record { outcome = answered (record { entered = new; count = count }); buffers = tables costs witnesses }

abbrev not_noted : ℕ → Ended Noted FrontTables
not_noted e = record { outcome = refused e; buffers = lent }

-- so many trees, or moves, with the buffer afterwards
abbrev tells : ℕ → List ℕ → Ended ℕ (List ℕ)
tells n after = record { outcome = answered n; buffers = after }

-- trees 0, 2 and 4 of network A
abbrev every_second : List ℕ
every_second = 0 ∷ 2 ∷ 1 ∷ 2 ∷ 2 ∷ 3 ∷ []

-- DIMACS lines of numbers with one digit
abbrev word : List ℕ
word = 112 ∷ 32 ∷ 101 ∷ 100 ∷ 103 ∷ 101 ∷ 32 ∷ []

abbrev problem : ℕ → ℕ → List ℕ
problem n m = word ++ (n ∷ 32 ∷ m ∷ 10 ∷ [])

abbrev edge : ℕ → ℕ → List ℕ
edge u v = 101 ∷ 32 ∷ u ∷ 32 ∷ v ∷ 10 ∷ []

-- 2 to the power 64, and 2 more
abbrev large : List ℕ
large = word ++ (49 ∷ 56 ∷ 52 ∷ 52 ∷ 54 ∷ 55 ∷ 52 ∷ 52 ∷ 48 ∷ 55 ∷ 51 ∷ 55 ∷ 48 ∷ 57 ∷ 53 ∷ 53 ∷ 49 ∷ 54 ∷ 49 ∷ 56 ∷ 32 ∷ 48 ∷ 10 ∷ [])

abbrev text_a : List ℕ
text_a = problem 51 52 ++ (edge 49 50 ++ (edge 49 50 ++ (edge 49 51 ++ edge 50 51)))

abbrev ends : ℕ → ℕ → Ends
ends u v = record { one = u; two = v }

abbrev edges : ℕ → ℕ → List Ends → Edges
edges n m l = record { nodes = n; count = m; edges = l }

abbrev pub table : List Trial
table =
    opened file_a (answered (record { n = 3; m = 4; k = 2 }))
    ∷ network file_a A
    ∷ list file_a ((0 ∷ 2 ∷ []) ∷ (0 ∷ 3 ∷ []) ∷ (1 ∷ 2 ∷ []) ∷ (1 ∷ 3 ∷ []) ∷ (2 ∷ 3 ∷ []) ∷ [])
    ∷ fronts file_a ((7 ∷ 7 ∷ []) ∷ (8 ∷ 6 ∷ []) ∷ (11 ∷ 5 ∷ []) ∷ [])
    ∷ order file_a (2 ∷ 0 ∷ []) (wrote (0 ∷ 2 ∷ 9 ∷ []))
    ∷ order file_a (3 ∷ 2 ∷ []) (wrote (2 ∷ 3 ∷ 9 ∷ []))
    ∷ order file_a (0 ∷ 1 ∷ []) (refused_by 10)
    ∷ order file_a (0 ∷ 0 ∷ []) (refused_by 10)
    ∷ order file_a (0 ∷ []) (refused_by 8)
    ∷ order file_a (0 ∷ 4 ∷ []) (refused_by 9)
    ∷ page file_a (3 ∷ 2 ∷ []) (refused_by 13)
    ∷ page file_a (2 ∷ 3 ∷ []) (paged 0 false buffer)
    ∷ dominance (7 ∷ 7 ∷ []) (9 ∷ 7 ∷ []) true
    ∷ dominance (7 ∷ 7 ∷ []) (7 ∷ 7 ∷ []) false
    ∷ dominance (7 ∷ 7 ∷ []) (8 ∷ 6 ∷ []) false
    ∷ dominance (8 ∷ 6 ∷ []) (7 ∷ 7 ∷ []) false
    -- document 02, #102: the states are read, and 3 names none
    ∷ opened file_b (answered (record { n = 3; m = 4; k = 2 }))
    ∷ opened (with_states 2 0 0 3) (refused 14)
    ∷ network file_b B
    -- the trees with row 3 and without row 0; 10 keeps its plain sense, then 15: row 0 drawn, row 3 left out
    ∷ list file_b ((1 ∷ 3 ∷ []) ∷ (2 ∷ 3 ∷ []) ∷ [])
    ∷ fronts file_b ((8 ∷ 6 ∷ []) ∷ [])
    ∷ order file_b (3 ∷ 1 ∷ []) (wrote (1 ∷ 3 ∷ 9 ∷ []))
    ∷ order file_b (0 ∷ 1 ∷ []) (refused_by 10)
    ∷ order file_b (0 ∷ 3 ∷ []) (refused_by 15)
    ∷ order file_b (2 ∷ 1 ∷ []) (refused_by 15)
    ∷ page file_b (3 ∷ 0 ∷ []) (refused_by 15)
    ∷ page file_b (3 ∷ 2 ∷ []) (refused_by 13)
    ∷ page file_b (1 ∷ 3 ∷ []) (paged 1 false (2 ∷ 3 ∷ 9 ∷ []))
    -- two parallel must rows are a cycle: all nodes are reached, and there is no tree
    ∷ reached (with_states 1 1 0 0) (answered (record { word = 7; size = 3 }))
    ∷ page (with_states 1 1 0 0) [] (refused_by 12)
    -- every row at node 2 is barred
    ∷ reached (with_states 2 2 0 2) (answered (record { word = 5; size = 2 }))
    ∷ page (with_states 2 2 0 2) [] (refused_by 12)
    -- document 02, #101: of the trees 0 3 and 1 3 of equal cost the first is the witness, where the network has it
    ∷ front_in file_a (fronted 1 false (7 ∷ 7 ∷ 9 ∷ []) (0 ∷ 3 ∷ 9 ∷ []))
    ∷ front_in (alike 0) (fronted 1 false (7 ∷ 7 ∷ 9 ∷ []) (0 ∷ 3 ∷ 9 ∷ []))
    ∷ front_in (alike 2) (fronted 1 false (7 ∷ 7 ∷ 9 ∷ []) (1 ∷ 3 ∷ 9 ∷ []))
    ∷ front_in (with_states 1 1 0 0) (record { outcome = refused 12; buffers = record { costs = buffer; witnesses = buffer } })
    -- document 02, #103: rows of 3 and 5 days in street 7 cost 5, where they cost 8 before, and rows off the road one by one
    ∷ network file_c C
    ∷ cost file_c (1 ∷ 0 ∷ []) (wrote (5 ∷ 6 ∷ 9 ∷ []))
    ∷ cost file_c (0 ∷ 3 ∷ []) (wrote (5 ∷ 8 ∷ 9 ∷ []))
    ∷ cost file_c (2 ∷ 4 ∷ []) (wrote (8 ∷ 5 ∷ 9 ∷ []))
    ∷ front_in file_c (fronted 1 false (5 ∷ 6 ∷ 9 ∷ []) (0 ∷ 1 ∷ 9 ∷ []))
    -- document 02, #105: the starred comparisons by cases; and what is worse somewhere stays so
    ∷ cases (7 ∷ 7 ∷ []) (9 ∷ 7 ∷ []) (so_far_equal ∷ so_far_better ∷ so_far_better ∷ [])
    ∷ cases (7 ∷ 7 ∷ []) (7 ∷ 7 ∷ []) (so_far_equal ∷ so_far_equal ∷ so_far_equal ∷ [])
    ∷ cases (7 ∷ 7 ∷ []) (8 ∷ 6 ∷ []) (so_far_equal ∷ so_far_better ∷ worse_somewhere ∷ [])
    ∷ cases (8 ∷ 6 ∷ []) (7 ∷ 7 ∷ []) (so_far_equal ∷ worse_somewhere ∷ worse_somewhere ∷ [])
    -- document 02, #109: the sum of 9 split among nodes 2 and 3, and 8 with no remainder; criterion 1 is of another kind, and there is no 2
    ∷ charge file_a (2 ∷ 0 ∷ []) 0 buffer (split 4 1 (5 ∷ 4 ∷ 9 ∷ []))
    ∷ charge file_a (2 ∷ 3 ∷ []) 0 buffer (split 4 0 (4 ∷ 4 ∷ 9 ∷ []))
    ∷ charge file_a (2 ∷ 3 ∷ []) 1 buffer (refused_by 22)
    ∷ charge file_a (2 ∷ 3 ∷ []) 2 buffer (refused_by 22)
    -- 11 is asked before it, and 10 and 15 before that
    ∷ charge file_a (2 ∷ 3 ∷ []) 2 (7 ∷ []) (record { outcome = refused 11; buffers = 7 ∷ [] })
    ∷ charge file_a (0 ∷ 1 ∷ []) 2 [] (record { outcome = refused 10; buffers = [] })
    ∷ charge file_b (2 ∷ 1 ∷ []) 2 [] (record { outcome = refused 15; buffers = [] })
    -- the first nodes bear one more
    ∷ charges 11 5 (3 ∷ 3 ∷ 3 ∷ 2 ∷ [])
    ∷ charges 12 5 (3 ∷ 3 ∷ 3 ∷ 3 ∷ [])
    ∷ charges 2 5 (1 ∷ 1 ∷ 0 ∷ 0 ∷ [])
    ∷ charges 7 2 (7 ∷ [])
    -- document 02, #111: 8 6 takes the row of 9 7 in the second half, and stands in the first, whose row is not filled; 9 7 is met, and 11 5 needs a row more
    ∷ office file_a (3 ∷ 2 ∷ []) 2 1 (filled 0 1) lent (noted true 1 (1 ∷ 2 ∷ 8 ∷ 6 ∷ []) (5 ∷ 6 ∷ 2 ∷ 3 ∷ []))
    ∷ office file_a (3 ∷ 2 ∷ []) 1 1 (filled 0 1) lent (noted true 1 (8 ∷ 6 ∷ 9 ∷ 7 ∷ []) (2 ∷ 3 ∷ 0 ∷ 2 ∷ []))
    ∷ office file_a (2 ∷ 0 ∷ []) 2 1 (filled 0 1) lent (noted false 1 (1 ∷ 2 ∷ 9 ∷ 7 ∷ []) (5 ∷ 6 ∷ 0 ∷ 2 ∷ []))
    ∷ office file_a (2 ∷ 1 ∷ []) 2 1 (filled 0 1) lent (not_noted 24)
    -- a filled row 1 2 meets every tree
    ∷ office file_a (3 ∷ 2 ∷ []) 1 1 (filled 1 1) lent (noted false 1 (1 ∷ 2 ∷ 9 ∷ 7 ∷ []) (5 ∷ 6 ∷ 0 ∷ 2 ∷ []))
    -- 11: the office, h, the tables' rows, a count; 10 and 15 before it
    ∷ office file_a (2 ∷ 0 ∷ []) 3 1 (filled 0 1) lent (not_noted 11)
    ∷ office file_a (2 ∷ 0 ∷ []) 2 0 (filled 0 0) lent (not_noted 11)
    ∷ office file_a (2 ∷ 0 ∷ []) 2 2 (filled 0 1) lent (not_noted 11)
    ∷ office file_a (2 ∷ 0 ∷ []) 2 9223372036854775809 (filled 0 1) lent (not_noted 11)
    ∷ office file_a (2 ∷ 0 ∷ []) 2 1 (filled 2 1) lent (not_noted 11)
    ∷ office file_a (0 ∷ 1 ∷ []) 3 0 (filled 9 9) lent (not_noted 10)
    ∷ office file_b (2 ∷ 1 ∷ []) 3 0 (filled 9 9) lent (not_noted 15)
    -- 7 7 stands before 8 6; 8 6 takes the rows of 9 6 and 9 7, and the second keeps its content
    ∷ office file_a (0 ∷ 3 ∷ []) 1 2 (filled 1 0) (tables (8 ∷ 6 ∷ 0 ∷ 0 ∷ 0 ∷ 0 ∷ 0 ∷ 0 ∷ []) (2 ∷ 3 ∷ 4 ∷ 4 ∷ 4 ∷ 4 ∷ 4 ∷ 4 ∷ []))
    (noted true 2 (7 ∷ 7 ∷ 8 ∷ 6 ∷ 0 ∷ 0 ∷ 0 ∷ 0 ∷ []) (0 ∷ 3 ∷ 2 ∷ 3 ∷ 4 ∷ 4 ∷ 4 ∷ 4 ∷ []))
    ∷ office file_a (2 ∷ 3 ∷ []) 1 2 (filled 2 0) (tables (9 ∷ 6 ∷ 9 ∷ 7 ∷ 0 ∷ 0 ∷ 0 ∷ 0 ∷ []) (1 ∷ 3 ∷ 0 ∷ 2 ∷ 4 ∷ 4 ∷ 4 ∷ 4 ∷ []))
    (noted true 1 (8 ∷ 6 ∷ 9 ∷ 7 ∷ 0 ∷ 0 ∷ 0 ∷ 0 ∷ []) (2 ∷ 3 ∷ 0 ∷ 2 ∷ 4 ∷ 4 ∷ 4 ∷ 4 ∷ []))
    -- document 02, #112: as many as the list has, with row 0 a must row, and with it barred
    ∷ counted file_a (answered 5)
    ∷ counted file_b (answered 2)
    ∷ counted (with_states 1 0 0 0) (answered 2)
    ∷ counted (with_states 2 0 0 0) (answered 3)
    -- a must row that has become a loop, and no tree
    ∷ counted (with_states 1 1 0 0) (answered 0)
    ∷ counted (with_states 2 2 0 2) (answered 0)
    ∷ counted [] (refused 1)
    -- document 02, #113: the trees of network A, those with row 1 before those with row 0, which part first there; the same front
    ∷ list shuffled_a ((1 ∷ 3 ∷ []) ∷ (1 ∷ 0 ∷ []) ∷ (2 ∷ 3 ∷ []) ∷ (2 ∷ 0 ∷ []) ∷ (3 ∷ 0 ∷ []) ∷ [])
    ∷ renamed_list shuffled_a numbers_a ((1 ∷ 2 ∷ []) ∷ (1 ∷ 3 ∷ []) ∷ (0 ∷ 2 ∷ []) ∷ (0 ∷ 3 ∷ []) ∷ (2 ∷ 3 ∷ []) ∷ [])
    ∷ parting file_a (0 ∷ 3 ∷ []) (1 ∷ 2 ∷ []) true
    ∷ parting file_a (0 ∷ 2 ∷ []) (0 ∷ 3 ∷ []) false
    ∷ parting file_a (0 ∷ 2 ∷ []) (2 ∷ 3 ∷ []) false
    ∷ fronts shuffled_a ((7 ∷ 7 ∷ []) ∷ (8 ∷ 6 ∷ []) ∷ (11 ∷ 5 ∷ []) ∷ [])
    ∷ front_in shuffled_a (fronted 1 false (7 ∷ 7 ∷ 9 ∷ []) (2 ∷ 0 ∷ 9 ∷ []))
    -- document 02, #114: trees 0, 2 and 4 of five, and what stood behind them; one of five where s is 5; all of them
    ∷ index file_a 2 (9 ∷ 9 ∷ 9 ∷ 9 ∷ 9 ∷ 9 ∷ 7 ∷ []) (tells 3 (0 ∷ 2 ∷ 1 ∷ 2 ∷ 2 ∷ 3 ∷ 7 ∷ []))
    ∷ index file_a 5 buffer (tells 1 (0 ∷ 2 ∷ 9 ∷ []))
    ∷ index file_b 1 (9 ∷ 9 ∷ 9 ∷ 9 ∷ []) (tells 2 (1 ∷ 3 ∷ 2 ∷ 3 ∷ []))
    -- 26, then 12, then 11
    ∷ index file_a 4 buffer (refused_by 11)
    ∷ index file_a 1001 [] (record { outcome = refused 26; buffers = [] })
    ∷ index (with_states 1 1 0 0) 0 buffer (refused_by 26)
    ∷ index (with_states 1 1 0 0) 2 [] (record { outcome = refused 12; buffers = [] })
    -- trees 3 and 4; the list ends before the move to tree 5, and there is no entry for tree 6, or where the last is not whole
    ∷ fetch file_a 2 every_second 3 (tells 1 (1 ∷ 3 ∷ 9 ∷ []))
    ∷ fetch file_a 2 every_second 4 (tells 0 (2 ∷ 3 ∷ 9 ∷ []))
    ∷ fetch file_a 2 every_second 5 (refused_by 26)
    ∷ fetch file_a 2 every_second 6 (refused_by 26)
    ∷ fetch file_a 2 (0 ∷ 2 ∷ 1 ∷ []) 2 (refused_by 26)
    ∷ fetch file_a 0 every_second 3 (refused_by 26)
    -- with another index, the tree behind the entry found there; 9, 10, 15 and 13 of it
    ∷ fetch file_a 1000 (0 ∷ 3 ∷ []) 3 (tells 3 (2 ∷ 3 ∷ 9 ∷ []))
    ∷ fetch file_a 1000 (0 ∷ 4 ∷ []) 3 (refused_by 9)
    ∷ fetch file_a 1000 (0 ∷ 1 ∷ []) 3 (refused_by 10)
    ∷ fetch file_b 1000 (0 ∷ 3 ∷ []) 3 (refused_by 15)
    ∷ fetch file_a 1000 (3 ∷ 0 ∷ []) 3 (refused_by 13)
    -- document 02, #104: comments anywhere, with any text; no edge; a number of any length keeps its value; 0 is a number
    ∷ says ((99 ∷ 32 ∷ 104 ∷ 13 ∷ 10 ∷ []) ++ (problem 51 50 ++ (edge 49 50 ++ ((99 ∷ 10 ∷ 99 ∷ 32 ∷ 10 ∷ []) ++ edge 50 51)))) (some (edges 3 2 (ends 1 2 ∷ ends 2 3 ∷ [])))
    ∷ says (problem 50 48) (some (edges 2 0 []))
    ∷ says large (some (edges 18446744073709551618 0 []))
    ∷ says (problem 50 49 ++ edge 48 49) (some (edges 2 1 (ends 0 1 ∷ [])))
    -- none: an empty text; no line feed at the end; a leading zero; a space at the end; two spaces; no comment; a carriage return behind `c`
    ∷ says [] none
    ∷ says (take 10 (problem 50 48)) none
    ∷ says (word ++ (48 ∷ 50 ∷ 32 ∷ 48 ∷ 10 ∷ [])) none
    ∷ says (word ++ (50 ∷ 32 ∷ 48 ∷ 32 ∷ 10 ∷ [])) none
    ∷ says (112 ∷ 32 ∷ drop 1 (problem 50 48)) none
    ∷ says ((99 ∷ 120 ∷ 10 ∷ []) ++ problem 50 48) none
    ∷ says ((99 ∷ 13 ∷ 10 ∷ []) ++ problem 50 48) none
    -- an edge line before the `p` line; a second `p` line; an empty line; another word
    ∷ says (edge 49 50 ++ problem 50 49) none
    ∷ says (problem 50 49 ++ (problem 50 49 ++ edge 49 50)) none
    ∷ says (problem 50 49 ++ ((10 ∷ []) ++ edge 49 50)) none
    ∷ says (112 ∷ 32 ∷ 99 ∷ 111 ∷ 108 ∷ 32 ∷ 50 ∷ 32 ∷ 48 ∷ 10 ∷ []) none
    -- 18 bytes, and what stood behind them; ten for no edge; a buffer one byte short
    ∷ reading (problem 50 49 ++ edge 49 50) (map (λ _. 9) (range 0 19)) (tells 18 (1 ∷ 0 ∷ 0 ∷ 0 ∷ 13 ∷ 2 ∷ 0 ∷ 1 ∷ 1 ∷ 0 ∷ 1 ∷ 2 ∷ 0 ∷ 0 ∷ 0 ∷ 0 ∷ 0 ∷ 1 ∷ 9 ∷ []))
    ∷ reading (problem 50 48) (map (λ _. 9) (range 0 10)) (tells 10 (1 ∷ 0 ∷ 0 ∷ 0 ∷ 5 ∷ 2 ∷ 0 ∷ 0 ∷ 1 ∷ 0 ∷ []))
    ∷ reading (problem 50 48) (map (λ _. 9) (range 0 9)) (record { outcome = refused 11; buffers = map (λ _. 9) (range 0 9) })
    -- 17 for fewer and for more edge lines; 16 before it; and it before 3
    ∷ reading (problem 50 50 ++ edge 49 50) buffer (refused_by 17)
    ∷ reading (problem 50 48 ++ edge 49 50) buffer (refused_by 17)
    ∷ reading (problem 50 50 ++ (edge 49 50 ++ (99 ∷ []))) buffer (refused_by 16)
    ∷ reading (problem 49 49) buffer (refused_by 17)
    -- 3 for a number above the limits, however long, and before 6; 6 before 11
    ∷ reading (problem 49 48) buffer (refused_by 3)
    ∷ reading large buffer (refused_by 3)
    ∷ reading (problem 49 49 ++ edge 48 48) buffer (refused_by 3)
    ∷ reading (problem 50 49 ++ edge 48 49) buffer (refused_by 6)
    ∷ reading (problem 50 49 ++ edge 49 49) buffer (refused_by 6)
    ∷ reading (problem 50 49 ++ edge 49 51) buffer (refused_by 6)
    -- the ends of all rows, barred ones too; one line where there is no row; 11, and the file's checks before it
    ∷ writing file_a (map (λ _. 9) (range 0 36)) (tells 35 (text_a ++ (9 ∷ [])))
    ∷ writing file_b (map (λ _. 9) (range 0 35)) (tells 35 text_a)
    ∷ writing (1 ∷ 0 ∷ 0 ∷ 0 ∷ 5 ∷ 2 ∷ 0 ∷ 0 ∷ 1 ∷ 1 ∷ []) (map (λ _. 9) (range 0 11)) (tells 11 (problem 50 48))
    ∷ writing file_a buffer (refused_by 11)
    ∷ writing (with_states 3 0 0 0) buffer (refused_by 14)
    -- our own text again
    ∷ says text_a (some (edges 3 4 (ends 1 2 ∷ ends 1 2 ∷ ends 1 3 ∷ ends 2 3 ∷ [])))
    -- document 02, #106: both rows of the pair 1 and 2 go, though the newer one is written the other way round and barred; exactly 50 bytes, and one short
    ∷ surveyed file_a newer_a (map (λ _. 9) (range 0 51)) (tells 50 (surveyed_a ++ (9 ∷ [])))
    ∷ surveyed file_a newer_a (map (λ _. 9) (range 0 50)) (tells 50 surveyed_a)
    ∷ surveyed file_a newer_a (map (λ _. 9) (range 0 49)) (record { outcome = refused 11; buffers = map (λ _. 9) (range 0 49) })
    -- the other way round, and over themselves: version 1 becomes version 2 with open rows, and states stay
    ∷ surveyed newer_a file_a (map (λ _. 9) (range 0 63)) (tells 63 (with_states 0 0 0 0))
    ∷ surveyed file_a file_a (map (λ _. 9) (range 0 63)) (tells 63 (with_states 0 0 0 0))
    ∷ surveyed file_b file_b (map (λ _. 9) (range 0 63)) (tells 63 file_b)
    -- without rows on either side
    ∷ surveyed rowless file_a (map (λ _. 9) (range 0 63)) (tells 63 (with_states 0 0 0 0))
    ∷ surveyed file_b rowless (map (λ _. 9) (range 0 63)) (tells 63 file_b)
    -- 18 for another n, k or sequence of kinds, before 11; the newer's checks before it, and the older's before them
    ∷ surveyed file_a (take 5 file_a ++ (4 ∷ drop 6 file_a)) buffer (refused_by 18)
    ∷ surveyed file_a (1 ∷ 0 ∷ 0 ∷ 0 ∷ 5 ∷ 3 ∷ 0 ∷ 0 ∷ 1 ∷ 0 ∷ []) buffer (refused_by 18)
    ∷ surveyed file_a (take 9 file_a ++ (1 ∷ 0 ∷ drop 11 file_a)) buffer (refused_by 18)
    ∷ surveyed file_c (with_states 3 0 0 0) buffer (refused_by 14)
    ∷ surveyed (with_states 3 0 0 0) [] buffer (refused_by 14)
    ∷ []
