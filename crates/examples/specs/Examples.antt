-- The worked examples: a table of questions to the definitions, each with its answer. `Right` is what an example claims.
use Rattle.std.specs.Prelude.{◌≡◌, Bool, false, true, List, [], ◌∷◌, ℕ}
use Rattle.std.proofs.Math.Option.{Option, none, some}
use Rattle.graph.specs.Graph.{is_tree}
use Rattle.graph.specs.Paths.{path_of, trees}
use Rattle.costs.specs.Costs.{cost_of, front, front_of}
use Rattle.costs.specs.Layouts.{layouts}
use Rattle.costs.specs.Network.{Network, Row, added, barred, closing, graph_of, must, «open», worst}
use Rattle.counts.specs.Trees.{tree_count}
use Rattle.pages.specs.Pages.{Outcome, run}
use Rattle.tables.specs.Tables.{Found, Plan, Table, pass, placed, plan}

pub data Example : Type 0 where
  -- all trees of a network, in their order
  trees_are : Network → List (List ℕ) → Example
  -- those that keep the rows' states
  layouts_are : Network → List (List ℕ) → Example
  -- how many, by dropping and by merging
  count_is : Network → ℕ → Example
  -- the front of a network, and of a list of vectors
  front_is : Network → List (List ℕ) → Example
  front_of_is : List (List ℕ) → List (List ℕ) → Example
  -- the cost vector of rows
  cost_is : Network → List ℕ → List ℕ → Example
  -- whether rows are a tree, and their path
  tree_is : Network → List ℕ → Bool → Example
  path_is : Network → List ℕ → Option (List ℕ) → Example
  -- a run of calls that write trees of so many rows, each with its page
  run_is : ℕ → List (List ℕ) → List (List ℕ) → Outcome → Example
  -- one pass, and the whole plan, over vectors with a table of so many rows; and over vectors with their places
  pass_is : ℕ → List (List ℕ) → Table (List ℕ) → Example
  plan_is : ℕ → List (List ℕ) → Plan (List ℕ) → Example
  placed_is : ℕ → List (List ℕ) → Plan Found → Example

abbrev pub Right : Example → Type 0
Right (trees_are g l) = trees (graph_of g) ≡ l
Right (layouts_are g l) = layouts g ≡ l
Right (count_is g n) = tree_count g ≡ n
Right (front_is g l) = front g ≡ l
Right (front_of_is vs l) = front_of vs ≡ l
Right (cost_is g rs v) = cost_of g rs ≡ v
Right (tree_is g rs b) = is_tree (graph_of g) rs ≡ b
Right (path_is g rs o) = path_of (graph_of g) rs ≡ o
Right (run_is w l pages o) = run w l [] pages ≡ o
Right (pass_is cap vs s) = pass (λ v. v) cap [] vs ≡ s
Right (plan_is cap vs p) = plan (λ v. v) cap vs ≡ p
Right (placed_is cap vs p) = plan (λ r. r.vector) cap (placed 0 vs) ≡ p

abbrev pub AllRight : List Example → Type 0
AllRight [] = Unit {0}
AllRight (t ∷ l) = Right t × AllRight l

-- Network A

abbrev pub A : Network
A = record {
  node_count = 3;
  kinds = added ∷ worst ∷ [];
  rows =
      record { first_end = 1; second_end = 2; street = 0; state = «open»; costs = 4 ∷ 7 ∷ [] } ∷
      record { first_end = 1; second_end = 2; street = 0; state = «open»; costs = 6 ∷ 2 ∷ [] } ∷
      record { first_end = 1; second_end = 3; street = 0; state = «open»; costs = 5 ∷ 5 ∷ [] } ∷
      record { first_end = 2; second_end = 3; street = 0; state = «open»; costs = 3 ∷ 6 ∷ [] } ∷ [];
}

-- network A with row 0 barred, and row 3 a must row
abbrev pub B : Network
B = record {
  node_count = 3;
  kinds = added ∷ worst ∷ [];
  rows =
      record { first_end = 1; second_end = 2; street = 0; state = barred; costs = 4 ∷ 7 ∷ [] } ∷
      record { first_end = 1; second_end = 2; street = 0; state = «open»; costs = 6 ∷ 2 ∷ [] } ∷
      record { first_end = 1; second_end = 3; street = 0; state = «open»; costs = 5 ∷ 5 ∷ [] } ∷
      record { first_end = 2; second_end = 3; street = 0; state = must; costs = 3 ∷ 6 ∷ [] } ∷ [];
}

-- Network C: two closing criteria, and rows in street 7, in street 65,535 and off the road.
abbrev pub C : Network
C = record {
  node_count = 3;
  kinds = closing ∷ closing ∷ [];
  rows =
      record { first_end = 1; second_end = 2; street = 7; state = «open»; costs = 3 ∷ 6 ∷ [] } ∷
      record { first_end = 2; second_end = 3; street = 7; state = «open»; costs = 5 ∷ 2 ∷ [] } ∷
      record { first_end = 1; second_end = 3; street = 0; state = «open»; costs = 4 ∷ 1 ∷ [] } ∷
      record { first_end = 2; second_end = 3; street = 65535; state = «open»; costs = 2 ∷ 2 ∷ [] } ∷
      record { first_end = 1; second_end = 2; street = 0; state = «open»; costs = 4 ∷ 4 ∷ [] } ∷ [];
}

abbrev edge : ℕ → ℕ → Row
edge a b = record { first_end = a; second_end = b; street = 0; state = «open»; costs = [] }

-- four nodes with all six pairs
abbrev pub K4 : Network
K4 = record {
  node_count = 4;
  kinds = [];
  rows = edge 1 2 ∷ edge 1 3 ∷ edge 1 4 ∷ edge 2 3 ∷ edge 2 4 ∷ edge 3 4 ∷ [];
}

-- The bound falls on a member of the front while the table is full of vectors that are no members: a second pass finds it.
abbrev late : List (List ℕ)
late = (1 ∷ 9 ∷ []) ∷ (2 ∷ 8 ∷ []) ∷ (5 ∷ 1 ∷ []) ∷ (0 ∷ 3 ∷ []) ∷ []

abbrev three : List (List ℕ)
three = (0 ∷ 2 ∷ []) ∷ (0 ∷ 3 ∷ []) ∷ (1 ∷ 2 ∷ []) ∷ []

abbrev pub table : List Example
table =
    trees_are A ((0 ∷ 2 ∷ []) ∷ (0 ∷ 3 ∷ []) ∷ (1 ∷ 2 ∷ []) ∷ (1 ∷ 3 ∷ []) ∷ (2 ∷ 3 ∷ []) ∷ [])
    ∷ layouts_are A ((0 ∷ 2 ∷ []) ∷ (0 ∷ 3 ∷ []) ∷ (1 ∷ 2 ∷ []) ∷ (1 ∷ 3 ∷ []) ∷ (2 ∷ 3 ∷ []) ∷ [])
    ∷ layouts_are B ((1 ∷ 3 ∷ []) ∷ (2 ∷ 3 ∷ []) ∷ [])
    ∷ count_is A 5
    ∷ count_is B 2
    ∷ count_is K4 16
    ∷ front_is B ((8 ∷ 6 ∷ []) ∷ [])
    ∷ front_is A ((7 ∷ 7 ∷ []) ∷ (8 ∷ 6 ∷ []) ∷ (11 ∷ 5 ∷ []) ∷ [])
    -- a named street is closed once, in each criterion for the largest days of its rows; rows of street 0 count one by one
    ∷ cost_is C (0 ∷ 1 ∷ []) (5 ∷ 6 ∷ [])
    ∷ cost_is C (0 ∷ 1 ∷ 2 ∷ 3 ∷ 4 ∷ []) (15 ∷ 13 ∷ [])
    ∷ front_is C ((5 ∷ 6 ∷ []) ∷ (6 ∷ 3 ∷ []) ∷ [])
    ∷ tree_is A (0 ∷ 1 ∷ []) false
    ∷ tree_is A (3 ∷ 2 ∷ []) true
    ∷ path_is A (3 ∷ 2 ∷ []) (some (2 ∷ 3 ∷ []))
    -- four pages: one tree, too short, two trees, none left
    ∷ run_is 2 three ((9 ∷ 9 ∷ 9 ∷ []) ∷ (8 ∷ []) ∷ (7 ∷ 7 ∷ 7 ∷ 7 ∷ 7 ∷ []) ∷ (6 ∷ 6 ∷ []) ∷ []) (record {
      written = three;
      marks = some (record { up_to = 1; more = true }) ∷ none ∷ some (record { up_to = 3; more = false }) ∷ some (record { up_to = 3; more = false }) ∷ [];
    })
    ∷ pass_is 2 late (record { rows = (0 ∷ 3 ∷ []) ∷ []; bound = some (5 ∷ 1 ∷ []) })
    ∷ plan_is 2 late (record { rows = (0 ∷ 3 ∷ []) ∷ (5 ∷ 1 ∷ []) ∷ []; whole = true })
    ∷ front_of_is late ((0 ∷ 3 ∷ []) ∷ (5 ∷ 1 ∷ []) ∷ [])
    -- more than fit
    ∷ plan_is 2 ((5 ∷ 1 ∷ []) ∷ (4 ∷ 2 ∷ []) ∷ (3 ∷ 3 ∷ []) ∷ (2 ∷ 4 ∷ []) ∷ []) (record { rows = (2 ∷ 4 ∷ []) ∷ (3 ∷ 3 ∷ []) ∷ []; whole = false })
    -- each row has the first place of its vector
    ∷ placed_is 2 ((5 ∷ 1 ∷ []) ∷ (0 ∷ 3 ∷ []) ∷ (5 ∷ 1 ∷ []) ∷ (0 ∷ 3 ∷ []) ∷ [])
    (record { rows = record { vector = 0 ∷ 3 ∷ []; place = 1 } ∷ record { vector = 5 ∷ 1 ∷ []; place = 0 } ∷ []; whole = true })
    ∷ []
