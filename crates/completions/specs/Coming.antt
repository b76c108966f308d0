-- The rows that may still COME behind a prefix.
-- The graph is given beside the network, so that it may lack rows that are barred.
use Rattle.std.specs.Prelude.{Bool, List, ℕ}
use Rattle.lists.specs.Lists.{any, both, member}
use Rattle.graph.specs.Graph.{Graph, first_end, second_end}
use Rattle.graph.specs.Paths.{steps}
use Rattle.bounds.specs.Bounds.{allowed, entered_by, keys_or, last_key, missing, no_key}

-- both ends of row r are nodes
abbrev pub lies : Graph → ℕ → Bool
lies g r = both (member (first_end g r) g.nodes) (member (second_end g r) g.nodes)

-- row r lies between nodes, and may enter a node that the prefix has not entered
unfoldable pub may_come : Graph → List ℕ → ℕ → Bool
may_come g prefix r =
    both (lies g r) (any (λ v. allowed g (entered_by g prefix) (last_key no_key (keys_or (steps g prefix))) v r) (missing g (entered_by g prefix)))
