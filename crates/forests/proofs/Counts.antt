-- The list of paths and the trees: a listed path is a tree (`listed_tree`), a tree has a listed path with its rows (`tree_listed`), and only one (`listed_unique`).
use mathlib.Core.Path.{◌≡◌}
use mathlib.Core.List.{List}
use Prim.Native.Nat.{ℕ}
use lib.Dec.{T}
use Rattle.lists.proofs.Members.{◌∈◌, ◌⊆◌}
use Rattle.graph.specs.Graph.{Graph, is_tree}
use Rattle.graph.specs.Paths.{trees}
use Rattle.graph.proofs.Minimal.{WellFormed}
use Rattle.graph.proofs.Tree.{minimal_tree, minimal_unique, tree_minimal}
use Rattle.graph.proofs.Trees.{trees_minimal}

pub listed_tree : (g : Graph) → WellFormed g → {p : List ℕ} → p ∈ trees g → T (is_tree g p)
listed_tree g wf {p} i = minimal_tree g wf p ((trees_minimal g wf p).0 i)

pub tree_listed : (g : Graph) → WellFormed g → (rs : List ℕ) → T (is_tree g rs) → (p : List ℕ) × (p ∈ trees g) × ((p ⊆ rs) × (rs ⊆ p))
tree_listed g wf rs t = let (p, m, v, w) = tree_minimal g wf rs t in (p, (trees_minimal g wf p).1 m, (v, w))

pub listed_unique : (g : Graph) → WellFormed g → {p q : List ℕ} → p ∈ trees g → q ∈ trees g → p ⊆ q → q ⊆ p → p ≡ q
listed_unique g wf {p} {q} i j = minimal_unique g wf p q ((trees_minimal g wf p).0 i) ((trees_minimal g wf q).0 j)
