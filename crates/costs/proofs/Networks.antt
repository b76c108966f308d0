-- The graph of a network is well formed (`network_formed`), and all its cost vectors have as many parts as there are criteria (`cost_length`,
-- `vectors_sized`).
use mathlib.Core.Path.{◌∙◌, ◌≡◌, ap, sym}
use mathlib.Core.List.Memᴰ.{of_map as map_out}
use mathlib.Core.List.{List, map}
use Prim.Native.Nat.{◌<◌, ℕ}
use native.Mathlib.Omega.{arith}
use lib.ListN.{length}
use Rattle.lists.proofs.Distinct.{range_distinct}
use Rattle.lists.proofs.Members.{range_in, range_out}
use Rattle.graph.proofs.Minimal.{WellFormed}
use Rattle.costs.specs.Costs.{cost_by, cost_of}
use Rattle.costs.specs.Network.{Network, graph_of}
use Rattle.costs.proofs.Fronts.{Sized}
use Rattle.costs.proofs.Criteria.{kinds_length}

pub network_formed : (w : Network) → 0 < w.node_count → WellFormed (graph_of w)
network_formed w h = record {
  once = range_distinct 1 w.node_count;
  plant = range_in 1 w.node_count 1 (omega arith) (omega arith);
  no_zero = λ i. let b = (range_out 1 w.node_count i).0 in omega arith;
}

pub cost_length : (w : Network) (p : List ℕ) → length (cost_of w p) ≡ length w.kinds
unfolding cost_of
cost_length w p = kinds_length (λ kind c. cost_by kind w c p) 0 w.kinds

pub vectors_sized : (g : Network) (ts : List (List ℕ)) → Sized (length g.kinds) (map (cost_of g) ts)
vectors_sized g ts w m = let t = map_out (cost_of g) ts m in sym (ap length t.2) ∙ cost_length g t.0
