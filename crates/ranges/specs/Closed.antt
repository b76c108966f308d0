-- The marks without the trees: which rows join a row's ends tells them (crate proofs, `ranges_closed`).
use Rattle.std.specs.Prelude.{Bool, ◌&&◌, ◌||◌, not, List, map, ℕ, eqb, leb, ltb, length}
use Rattle.lists.specs.Lists.{filter_b, pick}
use Rattle.graph.specs.Graph.{Graph, first_end, row_numbers, runs, second_end}
use Rattle.costs.specs.Costs.{cost_at}
use Rattle.costs.specs.Layouts.{barred_at, must_at}
use Rattle.costs.specs.Network.{Network, graph_of}

-- rows of the graph: those that must be there, and those that are not barred and pass a test
unfoldable pub must_or : Graph → (ℕ → Bool) → (ℕ → Bool) → (ℕ → Bool) → List ℕ
must_or g must barred test = filter_b (λ f. must f || (not (barred f) && test f)) (row_numbers g)

-- the rows join the ends of row e
abbrev pub joins_ends : Graph → List ℕ → ℕ → Bool
joins_ends g rows e = runs g rows (length g.nodes) (first_end g e) (second_end g e)

-- Not possible where rows whose high is below e's low join its ends; not necessary where others whose low is not above e's high do.
unfoldable pub closed_mark : Graph → (ℕ → Bool) → (ℕ → Bool) → (ℕ → ℕ) → (ℕ → ℕ) → ℕ → ℕ
unfolding must_or
closed_mark g must barred low high e =
    pick (must e) 2
    (pick (barred e) 0
    (pick (joins_ends g (must_or g must barred (λ f. ltb (high f) (low e))) e) 0
    (pick (joins_ends g (must_or g must barred (λ f. not (eqb f e) && leb (low f) (high e))) e) 1 2)))

-- of all rows of two networks that differ in costs only
unfoldable pub closed_marks : Network → Network → List ℕ
unfolding closed_mark
closed_marks low high = map (closed_mark (graph_of low) (must_at low) (barred_at low) (cost_at low 0) (cost_at high 0)) (row_numbers (graph_of low))
