-- Costs of a tree, dominance and the front (document 01).
use Rattle.std.specs.Prelude.{Bool, ◌&&◌, ◌||◌, cond, false, not, true, List, [], ◌∷◌, map, ◌+◌, suc, ℕ, eqb, leb, ltb, get_or}
use Rattle.lists.specs.Lists.{any, filter_b, first_with, largest, member, same, sort, sum}
use Rattle.graph.specs.Paths.{path_in}
use Rattle.costs.specs.Network.{Kind, Network, added, closing, row_at, worst}
use Rattle.costs.specs.Layouts.{layouts}

-- cost of row r in criterion c
abbrev pub cost_at : Network → ℕ → ℕ → ℕ
cost_at g c r = get_or (row_at g r).costs c 0

abbrev pub in_street : Network → ℕ → List ℕ → List ℕ
in_street g s rs = filter_b (λ r. eqb (row_at g r).street s) rs

-- each named street of the rows, once
unfoldable pub streets_of : Network → List ℕ → List ℕ
streets_of g [] = []
streets_of g (r ∷ rs) =
    let s = (row_at g r).street in
    let rest = streets_of g rs in
    cond (eqb s 0 || member s rest) rest (s ∷ rest)

-- what one named street costs: it is closed once for all its rows, for the largest days among them
abbrev pub street_cost : Network → ℕ → List ℕ → ℕ → ℕ
street_cost g c rs s = largest (map (cost_at g c) (in_street g s rs))

-- Added: the sum over the rows.
abbrev pub added_cost : Network → ℕ → List ℕ → ℕ
added_cost g c rs = sum (map (cost_at g c) rs)

-- Worst: the largest cost among the rows.
abbrev pub worst_cost : Network → ℕ → List ℕ → ℕ
worst_cost g c rs = largest (map (cost_at g c) rs)

-- Closing: the named streets, street by street, and the days of the rows of street 0.
abbrev pub closing_cost : Network → ℕ → List ℕ → ℕ
closing_cost g c rs = sum (map (street_cost g c rs) (streets_of g rs)) + sum (map (cost_at g c) (in_street g 0 rs))

-- the cost in criterion c, by its kind
abbrev pub cost_by : Kind → Network → ℕ → List ℕ → ℕ
cost_by added = added_cost
cost_by worst = worst_cost
cost_by closing = closing_cost

-- for each criterion from c on, what f makes of its kind and number
unfoldable pub by_kinds : (Kind → ℕ → ℕ) → ℕ → List Kind → List ℕ
by_kinds f c [] = []
by_kinds f c (kind ∷ kinds) = f kind c ∷ by_kinds f (suc c) kinds

-- the cost vector of a tree
unfoldable pub cost_of : Network → List ℕ → List ℕ
unfolding by_kinds
cost_of g rs = by_kinds (λ kind c. cost_by kind g c rs) 0 g.kinds

unfoldable pub none_larger : List ℕ → List ℕ → Bool
none_larger [] [] = true
none_larger [] (y ∷ w) = false
none_larger (x ∷ v) [] = false
none_larger (x ∷ v) (y ∷ w) = leb x y && none_larger v w

unfoldable pub some_smaller : List ℕ → List ℕ → Bool
some_smaller [] w = false
some_smaller (x ∷ v) [] = false
some_smaller (x ∷ v) (y ∷ w) = ltb x y || some_smaller v w

abbrev pub dominates : List ℕ → List ℕ → Bool
dominates v w = none_larger v w && some_smaller v w

-- ascending by the first component that differs
unfoldable pub vector_less : List ℕ → List ℕ → Bool
vector_less [] [] = false
vector_less [] (y ∷ w) = true
vector_less (x ∷ v) [] = false
vector_less (x ∷ v) (y ∷ w) = ltb x y || (eqb x y && vector_less v w)

-- each vector once
unfoldable pub once : List (List ℕ) → List (List ℕ)
once [] = []
once (v ∷ vs) = let rest = once vs in cond (any (same v) rest) rest (v ∷ rest)

abbrev pub vectors : Network → List (List ℕ)
vectors g = map (cost_of g) (layouts g)

unfoldable pub front_of : List (List ℕ) → List (List ℕ)
front_of vs = sort vector_less (once (filter_b (λ v. not (any (λ w. dominates w v) vs)) vs))

-- The front of some trees, and beside each of its vectors the witness: the first of the trees that has it (document 02, #101).

abbrev pub front_vectors : Network → List (List ℕ) → List (List ℕ)
front_vectors g trees = front_of (map (cost_of g) trees)

-- asked only of a vector that one of the trees has
unfoldable pub tree_with : Network → List (List ℕ) → List ℕ → List ℕ
tree_with g trees v = path_in (first_with (cost_of g) v trees)

unfoldable pub front_trees : Network → List (List ℕ) → List (List ℕ)
front_trees g trees = map (tree_with g trees) (front_vectors g trees)

-- The network's front.
abbrev pub front : Network → List (List ℕ)
front g = front_vectors g (layouts g)
