-- The trees of any graph with the network's rows that keep the rows' states are the layouts with all must rows, of rows that are not barred (`kept_listed`).
use mathlib.Core.Path.{◌≡◌}
use mathlib.Core.Bool.{not}
use mathlib.Core.List.{List}
use Prim.Native.Nat.{◌<◌, ℕ}
use native.Mathlib.Omega.{arith}
use lib.Dec.{T, T_not, not_T}
use lib.ListN.{length}
use Rattle.lists.specs.Lists.{filter_b}
use Rattle.lists.proofs.Members.{◌∈◌, filter_in, filter_out, range_out}
use Rattle.graph.specs.Graph.{Graph, row_numbers}
use Rattle.graph.specs.Paths.{trees}
use Rattle.graph.proofs.Minimal.{WellFormed, row_numbers_in}
use Rattle.graph.proofs.Tree.{tree_out}
use Rattle.costs.specs.Layouts.{barred_at, keeps_states, must_rows}
use Rattle.costs.specs.Network.{Network, graph_of}
use Rattle.costs.proofs.Layouts.{keeps_in, keeps_out}
use Rattle.forests.proofs.Counts.{listed_tree, tree_listed}
use Rattle.musts.proofs.Layouts.{Listed}

module _ (w : Network) where
  -- the rows that are not barred, ascending
  abbrev pub free_rows : List ℕ
  free_rows = filter_b (λ r. not (barred_at w r)) (row_numbers (graph_of w))

  free_out : {r : ℕ} → r ∈ free_rows → (r < length (graph_of w).first_ends) × (¬ T (barred_at w r))
  free_out {r} i =
      let (j, t) = filter_out (λ r. not (barred_at w r)) (row_numbers (graph_of w)) i in
      (omega (arith, range_out 0 (length (graph_of w).first_ends) j), T_not (barred_at w r) t)

  free_in_lem : {r : ℕ} → r < length (graph_of w).first_ends → ¬ T (barred_at w r) → r ∈ free_rows
  free_in_lem {r} l n = filter_in (λ r. not (barred_at w r)) (row_numbers_in (graph_of w) r l) (not_T (barred_at w r) n)

  -- KEPT
  pub kept_listed : (h : Graph) → WellFormed h → length h.first_ends ≡ length (graph_of w).first_ends
      → Listed h (must_rows w) free_rows (filter_b (keeps_states w) (trees h))
  kept_listed h wf same = record {
    layout = λ p i.
        let (j, t) = filter_out (keeps_states w) (trees h) i in
        let (a, b) = keeps_out w p t in
        let tree = listed_tree h wf j in
        record { tree = tree; musts = a; allowed = λ r k. free_in_lem (omega (arith, (tree_out h p tree).rows r k)) (b r k) };
    path = λ ts l.
        let (p, i, (u, v)) = tree_listed h wf ts l.tree in
        (p, filter_in (keeps_states w) i (keeps_in w p (λ r k. v r (l.musts r k)) (λ r k. (free_out (l.allowed r (u r k))).1)), (u, v));
  }
