-- The count of a network's trees by its rows, in the words of document 02, #112: a row that is no loop is dropped or its ends are merged, and the counts are added.
-- A node's label says with which nodes it has been merged.
use Rattle.std.specs.Prelude.{Bool, List, [], ◌∷◌, ◌+◌, ℕ, eqb}
use Rattle.lists.specs.Lists.{all, pick}
use Rattle.forests.specs.Forests.{rename}
use Rattle.costs.specs.Network.{Network, Row, State, barred, graph_of, must, «open»}

-- the labels after nodes a and b are merged
abbrev pub unite : (ℕ → ℕ) → ℕ → ℕ → ℕ → ℕ
unite lab a b v = rename (lab a) (lab b) (lab v)

-- one tree, that of no rows, if all nodes are merged with the first
unfoldable pub whole : List ℕ → (ℕ → ℕ) → ℕ
unfolding all
whole [] lab = 0
whole (p ∷ ns) lab = pick (all (λ v. eqb (lab v) (lab p)) ns) 1 0

-- A row, where `dropped` and `merged` are the counts when it is dropped and when its ends are merged: an open row that is no loop adds both, and a loop is
-- dropped; a must row is only merged, and gives 0 once it has become a loop; a barred row is only dropped.
abbrev pub count_by : State → Bool → ℕ → ℕ → ℕ
count_by «open» loop dropped merged = pick loop dropped (dropped + merged)
count_by must loop dropped merged = pick loop 0 merged
count_by barred loop dropped merged = dropped

unfoldable pub count_rows : List ℕ → (ℕ → ℕ) → List Row → ℕ
unfolding whole
count_rows nodes lab [] = whole nodes lab
count_rows nodes lab (row ∷ rows) =
    count_by row.state (eqb (lab row.first_end) (lab row.second_end)) (count_rows nodes lab rows)
    (count_rows nodes (unite lab row.first_end row.second_end) rows)

-- THE COUNT: no nodes are merged at first
unfoldable pub tree_count : Network → ℕ
unfolding count_rows
tree_count w = count_rows (graph_of w).nodes (λ v. v) w.rows
