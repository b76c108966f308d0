-- THE COUNT BY ROWS, in the request's words, is the count over their links (`count_rows_lem`).
use mathlib.Core.Path.{◌∙◌, ◌≡◌, ap₂, refl}
use mathlib.Core.Bool.{Bool, false, true}
use mathlib.Core.List.{List, [], ◌∷◌, map}
use Prim.Native.Nat.{◌*◌, ◌+◌, suc, ℕ}
use native.Mathlib.Omega.{arith}
use lib.Dec.{eqb}
use lib.ListN.{get_or}
use Rattle.lists.specs.Lists.{pick}
use Rattle.graph.specs.Graph.{Graph, first_end, second_end}
use Rattle.costs.specs.Network.{Network, Row, State, barred, graph_of, must, no_row, «open»}
use Rattle.costs.proofs.Layouts.{end_at}
use Rattle.counts.specs.Counting.{Link, count, link}
use Rattle.counts.specs.States.{link_count, links_from, states_of, weight_of}
use Rattle.counts.specs.Trees.{count_by, count_rows, tree_count, unite}

-- one row
count_row : (ns : List ℕ) (lab : ℕ → ℕ) (u v : ℕ) (s : State) (es : List Link)
    → count_by s (eqb (lab u) (lab v)) (count ns lab es) (count ns (unite lab u v) es) ≡ count ns lab (link u v (weight_of s) ∷ es)
unfolding count
count_row ns lab u v s es = by s (eqb (lab u) (lab v)) (count ns lab es) (count ns (unite lab u v) es)
  where
    by : (s : State) (loop : Bool) (x y : ℕ) → count_by s loop x y ≡ (weight_of s).dropped * x + (weight_of s).merged * pick loop 0 y
    by «open» true x y = omega arith
    by «open» false x y = omega arith
    by must true x y = omega arith
    by must false x y = omega arith
    by barred loop x y = omega arith

-- the rows of a graph from r on
rows_from : (g : Graph) (rows : List Row) (r : ℕ) → ((i : ℕ) → first_end g (r + i) ≡ (get_or rows i no_row).first_end) → ((i : ℕ) → second_end g (r + i) ≡ (get_or rows i no_row).second_end)
    → (lab : ℕ → ℕ) → count_rows g.nodes lab rows ≡ count g.nodes lab (links_from g r (map (λ (row : Row). row.state) rows))
unfolding count_rows count links_from
rows_from g [] r first second lab = refl
rows_from g (row ∷ rows) r first second lab =
    let here : r + 0 ≡ r = omega arith in
    let one : first_end g r ≡ row.first_end = rw here at (first 0) in
    let other : second_end g r ≡ row.second_end = rw here at (second 0) in
    let next = rows_from g rows (suc r) (λ i. let e : r + suc i ≡ suc r + i = omega arith in rw e at (first (suc i))) (λ i. let e : r + suc i ≡ suc r + i = omega arith in rw e at (second (suc i))) in
    rw (one, other) (ap₂ (count_by row.state (eqb (lab row.first_end) (lab row.second_end))) (next lab) (next (unite lab row.first_end row.second_end))
    ∙ count_row g.nodes lab row.first_end row.second_end row.state (links_from g (suc r) (map (λ (row : Row). row.state) rows)))

pub count_rows_lem : (w : Network) → tree_count w ≡ link_count (graph_of w) (states_of w)
unfolding tree_count link_count
count_rows_lem w = rows_from (graph_of w) w.rows 0 (λ i. let e : 0 + i ≡ i = omega arith in rw e (end_at w (λ row. row.first_end) refl i))
    (λ i. let e : 0 + i ≡ i = omega arith in rw e (end_at w (λ row. row.second_end) refl i)) (λ v. v)
