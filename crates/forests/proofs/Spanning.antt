-- Spanning trees are the forests that join all nodes (`forest_tree`, `tree_forest`), and the forests with one row fewer than nodes (`full_tree`).
-- EXTENSION: within rows that join all nodes every forest extends to a spanning tree (`extension`, `must_have`).
use mathlib.Core.Path.{◌≡◌}
use mathlib.Core.Logic.{◌↔◌, ⊎_elim}
use mathlib.Core.List.Memᴰ.{not-nil as mem_nil}
use mathlib.Core.List.{List, []}
use Prim.Native.Nat.{◌<◌, suc, ℕ}
use native.Mathlib.Decide.{ℕ_discrete}
use native.Mathlib.Omega.{arith}
use lib.Dec.{T}
use lib.ListN.{length}
use Rattle.lists.proofs.Distinct.{Distinct, filled, pigeonhole}
use Rattle.lists.proofs.Members.{◌∈◌, ◌⊆◌}
use Rattle.graph.specs.Graph.{Graph, is_tree, row_numbers}
use Rattle.graph.proofs.Minimal.{WellFormed, row_numbers_in}
use Rattle.graph.proofs.Tree.{tree_in, tree_out}
use Rattle.forests.proofs.Closure.{joined_run, run_joined}
use Rattle.forests.proofs.Forest.{Forest, Grown, forest_known, forest_nil, forest_part, grow}
use Rattle.forests.proofs.Joined.{joined_by_lem, joined_more}
use Rattle.forests.proofs.Parts.{Spans, full_spans, spans_full}

module _ (g : Graph) (wf : WellFormed g) where
  pub tree_spans : (rs : List ℕ) → T (is_tree g rs) → Spans g rs
  tree_spans rs t v m = run_joined g rs (length g.nodes) g.plant v wf.plant ((tree_out g rs t).joined v m)

  -- distinct rows, one fewer than nodes, that join all nodes, in terms of `Joined`
  pub spans_tree : (rs : List ℕ) → suc (length rs) ≡ length g.nodes → ((r : ℕ) → r ∈ rs → r < length g.first_ends) → Distinct rs → Spans g rs
      → T (is_tree g rs)
  spans_tree rs e k d s = tree_in g rs (record { size = e; rows = k; once = d; joined = λ v m. joined_run g rs (s v m) })

  -- a forest that joins all nodes is a spanning tree
  pub forest_tree : (rs : List ℕ) → Forest g rs → Spans g rs → T (is_tree g rs)
  forest_tree rs h s = spans_tree rs (spans_full g wf rs h s) (forest_known g wf rs h) h.once s

  -- and so is one with one row fewer than nodes
  pub full_tree : (rs : List ℕ) → Forest g rs → suc (length rs) ≡ length g.nodes → T (is_tree g rs)
  full_tree rs h e = forest_tree rs h (full_spans g wf rs h e)

  grown_spans : (fs ps ts : List ℕ) → Grown g fs ps ts → Spans g ps → Spans g ts
  grown_spans fs ps ts t s v m = joined_by_lem t.ends (s v m)

  pub tree_forest : (rs : List ℕ) → T (is_tree g rs) → Forest g rs
  tree_forest rs t =
      let tree = tree_out g rs t in
      let (ts, k) = grow g rs [] (forest_nil g) in
      let e = spans_full g wf ts k.forest (grown_spans [] rs ts k (tree_spans rs t)) in
      let s : ts ⊆ rs = λ r i. ⊎_elim (λ m. absurd (mem_nil m)) (λ m. m) (k.within r i) in
      forest_part tree.once (filled ℕ_discrete ts rs k.forest.once s (omega (arith, tree.size))) k.forest

  -- distinct rows of a spanning tree that are as many are one, too
  pub tree_part : (rs qs : List ℕ) → T (is_tree g rs) → Distinct qs → qs ⊆ rs → length rs ≡ length qs → T (is_tree g qs)
  tree_part rs qs t d s e = full_tree qs (forest_part d s (tree_forest rs t)) (omega (arith, (tree_out g rs t).size))

  -- also in another sequence
  pub tree_same : (rs qs : List ℕ) → T (is_tree g rs) → Distinct qs → qs ⊆ rs → rs ⊆ qs → T (is_tree g qs)
  tree_same rs qs t d s z = tree_part rs qs t d s (omega (arith, pigeonhole rs {m = qs} (tree_out g rs t).once z, pigeonhole qs {m = rs} d s))

  -- EXTENSION
  pub extension : (fs ps : List ℕ) → Forest g fs → fs ⊆ ps → Spans g ps → (ts : List ℕ) × T (is_tree g ts) × (fs ⊆ ts) × (ts ⊆ ps)
  extension fs ps h w s =
      let (ts, k) = grow g ps fs h in
      (ts, forest_tree ts k.forest (grown_spans fs ps ts k s), k.around, λ r i. ⊎_elim (λ m. w r m) (λ m. m) (k.within r i))

  -- a spanning tree with all the rows ms exists exactly if the graph is joined and ms is a forest
  pub must_have : (ms : List ℕ) → Distinct ms → ((ts : List ℕ) × T (is_tree g ts) × (ms ⊆ ts)) ↔ (Spans g (row_numbers g) × Forest g ms)
  must_have ms d = (
    λ (ts, t, s). (λ v m. joined_more (λ r i. row_numbers_in g r ((tree_out g ts t).rows r i)) (tree_spans ts t v m), forest_part d s (tree_forest ts t)),
    λ (s, h). let (ts, t, w, z) = extension ms (row_numbers g) h (λ r i. row_numbers_in g r (forest_known g wf ms h r i)) s in (ts, t, w),
  )
