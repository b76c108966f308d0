-- When a network has a tree: exactly if Reach's size is n and the must rows have no cycle (`size_listed`).
use mathlib.Core.Path.{◌∙◌, ◌≡◌, ap, refl, sym}
use mathlib.Core.Logic.{◌↔◌}
use mathlib.Core.Bool.{Bool}
use mathlib.Core.List.Memᴰ.{head as here}
use mathlib.Core.List.Memᴰ.{tail as there}
use mathlib.Core.List.{List, [], ◌∷◌}
use Prim.Native.Nat.{ℕ}
use native.Mathlib.Decide.{ℕ_discrete}
use native.Mathlib.Omega.{arith}
use lib.Dec.{T}
use lib.ListN.{length}
use Rattle.lists.specs.Lists.{filter_b}
use Rattle.lists.proofs.Distinct.{filled, filter_distinct}
use Rattle.lists.proofs.Members.{◌∈◌, filter_out, filter_whole}
use Rattle.graph.specs.Graph.{Graph, is_tree, row_numbers, runs}
use Rattle.graph.proofs.Growth.{Live, start}
use Rattle.graph.proofs.Minimal.{WellFormed}
use Rattle.graph.proofs.Tree.{live_exists, tree_exists}
use Rattle.costs.specs.Layouts.{must_rows}
use Rattle.forests.proofs.Forest.{Forest}
use Rattle.states.proofs.Open.{layouts_exist}
use Rattle.network_file.specs.File.{network_of, sizes_of}
use Rattle.network_file.proofs.Accepted.{Accepted}
use Rattle.operations.specs.Operations.{graph_in, layouts_in, open_in, reached_nodes, some_tree}
use Rattle.operations.proofs.Files.{formed, node_count_lem, open_formed_in}

-- a list has a first member exactly if it has a member
pub some_out : (l : List (List ℕ)) → T (some_tree l) → (p : List ℕ) × (p ∈ l)
some_out [] t = absurd t
some_out (p ∷ l) t = (p, here refl)

pub some_in : {p : List ℕ} {l : List (List ℕ)} → p ∈ l → T (some_tree l)
some_in (here e) = tt
some_in (there m) = tt

module _ (g : Graph) (wf : WellFormed g) where
  abbrev led : ℕ → Bool
  led v = runs g (row_numbers g) (length g.nodes) g.plant v

  -- all nodes are reached exactly if as many are reached
  pub size_exists : ((rs : List ℕ) × T (is_tree g rs)) ↔ (length (reached_nodes g) ≡ length g.nodes)
  unfolding reached_nodes
  size_exists = (
    λ t. ap length (filter_whole led g.nodes ((tree_exists g wf).0 t)),
    λ e. (tree_exists g wf).1 (λ v m. (filter_out led g.nodes
        (filled ℕ_discrete (filter_b led g.nodes) g.nodes (filter_distinct led g.nodes wf.once) (λ u i. (filter_out led g.nodes i).0) (omega arith) v m)).1),
  )

  pub size_live : Live g (row_numbers g) (start g) ↔ (length (reached_nodes g) ≡ length g.nodes)
  size_live = (λ live. size_exists.0 ((live_exists g wf).1 live), λ e. (live_exists g wf).0 (size_exists.1 e))

-- Of an accepted file

module _ (f : List ℕ) (a : Accepted f) where
  -- Reach's size is n exactly if the start is live
  pub size_reached : Live (open_in f) (row_numbers (open_in f)) (start (open_in f)) ↔ (length (reached_nodes (open_in f)) ≡ (sizes_of f).n)
  size_reached = let i = size_live (open_in f) (open_formed_in f a) in (λ live. i.0 live ∙ node_count_lem f, λ e. i.1 (e ∙ sym (node_count_lem f)))

  -- A TREE EXISTS exactly if the size is n and the must rows have no cycle
  pub size_listed : T (some_tree (layouts_in f)) ↔ ((length (reached_nodes (open_in f)) ≡ (sizes_of f).n) × Forest (graph_in f) (must_rows (network_of f)))
  size_listed =
      let i = layouts_exist (network_of f) (formed f a) in (
        λ t. let (live, h) = i.0 (some_out (layouts_in f) t) in (size_reached.0 live, h),
        λ (e, h). let (p, m) = i.1 (size_reached.1 e, h) in some_in m,
      )
