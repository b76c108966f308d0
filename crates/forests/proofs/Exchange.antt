-- Exchanges, `swap f e rs` for rs - f + e: a spanning tree stays one if the tree without f does not join e's ends (`exchange`).
use mathlib.Core.List.{List}
use Prim.Native.Nat.{ℕ}
use native.Mathlib.Omega.{arith}
use lib.Dec.{T}
use Rattle.lists.proofs.Members.{◌∈◌}
use Rattle.graph.specs.Graph.{Graph, first_end, is_tree, second_end}
use Rattle.graph.proofs.Minimal.{WellFormed}
use Rattle.graph.proofs.Tree.{tree_out}
use Rattle.forests.specs.Forests.{cut, swap}
use Rattle.forests.proofs.Cuts.{cut_distinct, cut_length, cut_old}
use Rattle.forests.proofs.Forest.{Forest, forest_add, forest_part}
use Rattle.forests.proofs.Joined.{Joined, Lies}
use Rattle.forests.proofs.Spanning.{full_tree, tree_forest}

module _ (g : Graph) (wf : WellFormed g) where
  pub cut_forest : (f : ℕ) (rs : List ℕ) → T (is_tree g rs) → Forest g (cut f rs)
  cut_forest f rs t = let h = tree_forest g wf rs t in forest_part (cut_distinct f rs h.once) (cut_old f rs) h

  -- EXCHANGE
  pub exchange : (rs : List ℕ) (f e : ℕ) → T (is_tree g rs) → f ∈ rs → Lies g e → ¬ Joined g (cut f rs) (first_end g e) (second_end g e) → T (is_tree g (swap f e rs))
  exchange rs f e t i l n = full_tree g wf (swap f e rs) (forest_add (cut_forest f rs t) l n)
      (omega (arith, (tree_out g rs t).size, cut_length f rs (tree_forest g wf rs t).once i))
