-- The trees that have all of some rows, the must rows, as a list of row numbers.
use Rattle.std.specs.Prelude.{Bool, not, List, ℕ, eqb, get_or, length}
use Rattle.lists.specs.Lists.{filter_b, has_all, range}
use Rattle.graph.specs.Graph.{Graph}
use Rattle.graph.specs.Paths.{trees}

-- the trees with all of `musts`, in their order
abbrev pub trees_with : Graph → List ℕ → List (List ℕ)
trees_with g musts = filter_b (has_all musts) (trees g)

-- The must rows by their ends, with 0 for every other row: row r is one if it has an end there.
unfoldable pub must_row : List ℕ → ℕ → Bool
must_row must_firsts r = not (eqb (get_or must_firsts r 0) 0)

abbrev pub musts_of : List ℕ → List ℕ
musts_of must_firsts = filter_b (must_row must_firsts) (range 0 (length must_firsts))
