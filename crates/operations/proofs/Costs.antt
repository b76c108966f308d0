-- A tree's cost is over its rows, in whatever sequence they are drawn (`cost_same`); so its minimal path costs the same (`path_costs`).
use mathlib.Core.Path.{◌≡◌}
use mathlib.Core.Option.{some}
use mathlib.Core.List.{List}
use Prim.Native.Nat.{ℕ}
use native.Mathlib.Omega.{arith}
use lib.Dec.{T}
use Rattle.lists.proofs.Distinct.{Distinct}
use Rattle.lists.proofs.Members.{◌⊆◌}
use Rattle.lists.proofs.Sums.{largest_within, sum_within}
use Rattle.graph.specs.Graph.{is_tree}
use Rattle.graph.specs.Paths.{path_of}
use Rattle.graph.proofs.PathOf.{path_of_only}
use Rattle.graph.proofs.Tree.{minimal_tree, tree_out}
use Rattle.costs.specs.Costs.{cost_at, cost_by, cost_of}
use Rattle.costs.specs.Network.{Kind, Network, added, closing, worst}
use Rattle.costs.proofs.Criteria.{kinds_same}
use Rattle.bounds.proofs.Closing.{closing_same}
use Rattle.network_file.specs.File.{network_of}
use Rattle.network_file.proofs.Accepted.{Accepted}
use Rattle.operations.specs.Operations.{graph_in}
use Rattle.operations.proofs.Files.{formed}

module _ (w : Network) (rs qs : List ℕ) (once : Distinct rs) (other : Distinct qs) (in1 : rs ⊆ qs) (in2 : qs ⊆ rs) where
  kind_same : (kind : Kind) (c : ℕ) → cost_by kind w c rs ≡ cost_by kind w c qs
  kind_same added c = omega (arith, sum_within (cost_at w c) rs once in1, sum_within (cost_at w c) qs other in2)
  kind_same worst c = omega (arith, largest_within (cost_at w c) rs in1, largest_within (cost_at w c) qs in2)
  kind_same closing c = closing_same w c rs qs once other in1 in2

  pub cost_same : cost_of w rs ≡ cost_of w qs
  unfolding cost_of
  cost_same = kinds_same (λ kind c. cost_by kind w c rs) (λ kind c. cost_by kind w c qs) kind_same 0 w.kinds

-- the minimal path of a spanning tree costs what its rows do
module _ (f : List ℕ) (a : Accepted f) (rows path : List ℕ) (tree : T (is_tree (graph_in f) rows)) (found : path_of (graph_in f) rows ≡ some path) where
  alike : Distinct path × Distinct rows × (path ⊆ rows) × (rows ⊆ path)
  alike =
      let (minimal, within, around) = path_of_only (graph_in f) (formed f a) rows path found in (
        (tree_out (graph_in f) path (minimal_tree (graph_in f) (formed f a) path minimal)).once,
        (tree_out (graph_in f) rows tree).once,
        within,
        around,
      )

  pub path_cost : (kind : Kind) (c : ℕ) → cost_by kind (network_of f) c path ≡ cost_by kind (network_of f) c rows
  path_cost = let (once, other, within, around) = alike in kind_same (network_of f) path rows once other within around

  pub path_costs : cost_of (network_of f) path ≡ cost_of (network_of f) rows
  path_costs = let (once, other, within, around) = alike in cost_same (network_of f) path rows once other within around
