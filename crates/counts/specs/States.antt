-- The rows' states as the count reads them: a row is open, must be in the tree, or is barred.
use Rattle.std.specs.Prelude.{Bool, ◌&&◌, not, true, List, [], ◌∷◌, map, pred, suc, ℕ, get_or}
use Rattle.lists.specs.Lists.{member}
use Rattle.graph.specs.Graph.{Graph, first_end, second_end}
use Rattle.costs.specs.Network.{Network, State, barred, must, «open»}
use Rattle.counts.specs.Counting.{Link, Weight, count, link, weigh}
use Rattle.counts.specs.Matrix.{Matrix, absent, add, add_held}

-- open rows are dropped or merged, must rows only merged, barred rows only dropped
abbrev pub weight_of : State → Weight
weight_of «open» = weigh 1 1
weight_of must = weigh 0 1
weight_of barred = weigh 1 0

-- rows from r on, in these states: a tree keeps them if it has the must rows and no barred row
abbrev pub keeps_row : State → ℕ → List ℕ → Bool
keeps_row «open» r p = true
keeps_row must r p = member r p
keeps_row barred r p = not (member r p)

unfoldable pub keeps_from : ℕ → List State → List ℕ → Bool
keeps_from r [] p = true
keeps_from r (s ∷ ss) p = keeps_row s r p && keeps_from (suc r) ss p

abbrev pub state_at : List State → ℕ → State
state_at ss r = get_or ss r «open»

-- the states of a network's rows
abbrev pub states_of : Network → List State
states_of w = map (λ row. row.state) w.rows

-- the links of a graph's rows from r on, in these states
unfoldable pub links_from : Graph → ℕ → List State → List Link
links_from g r [] = []
links_from g r (s ∷ ss) = link (first_end g r) (second_end g r) (weight_of s) ∷ links_from g (suc r) ss

-- the count over the links of a graph's rows
unfoldable pub link_count : Graph → List State → ℕ
unfolding count links_from
link_count g ss = count g.nodes (λ v. v) (links_from g 0 ss)

-- The matrix of a graph with nodes 1 to n, node p at place p - 1: each row is added

abbrev pub empty : Matrix
empty a b = absent

unfoldable pub fill_from : Graph → ℕ → List State → Matrix → Matrix
fill_from g r [] w = w
fill_from g r (s ∷ ss) w = fill_from g (suc r) ss (add w (pred (first_end g r)) (pred (second_end g r)) (weight_of s))

abbrev pub fill : Graph → List State → Matrix
fill g ss = fill_from g 0 ss empty

-- the same with weights held at a limit
unfoldable pub fill_held : ℕ → Graph → ℕ → List State → Matrix → Matrix
fill_held L g r [] w = w
fill_held L g r (s ∷ ss) w = fill_held L g (suc r) ss (add_held L w (pred (first_end g r)) (pred (second_end g r)) (weight_of s))
