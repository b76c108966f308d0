-- Spanning trees and minimal paths. Each minimal path is a spanning tree (`minimal_tree`), each spanning tree is that of exactly one
-- minimal path (`tree_minimal`, `minimal_unique`), and there is one exactly if rows lead from the plant to every node
-- (`tree_exists`), which is that the start is live (`live_exists`). `Tree` is what the test `is_tree` says.
use mathlib.Core.Path.{◌∙◌, ◌≡◌, ap, sym}
use mathlib.Core.Logic.{◌↔◌}
use mathlib.Core.Bool.{Bool}
use mathlib.Core.List.{List}
use Prim.Native.Nat.{◌<◌, suc, ℕ}
use native.Mathlib.Decide.{ℕ_discrete}
use native.Mathlib.Omega.{arith}
use lib.Dec.{T, eqb, eqb→eq, ltb, ltb→lt, lt→ltb}
use lib.ListN.{length}
use Rattle.lists.specs.Lists.{all, both, distinct}
use Rattle.lists.proofs.Distinct.{Distinct, distinct_in, distinct_out, filled}
use Rattle.lists.proofs.Members.{◌∈◌, ◌⊆◌, all_in, all_out}
use Rattle.lists.proofs.Tests.{T-both, eq→eqb}
use Rattle.graph.specs.Graph.{Graph, is_tree, row_numbers, runs}
use Rattle.graph.specs.Paths.{Key, is_minimal}
use Rattle.graph.proofs.Growth.{Completion, Live, rows_of, rows_of_length, start}
use Rattle.graph.proofs.Least.{sufficient}
use Rattle.graph.proofs.Minimal.{WellFormed, completion_rows, minimal_in, on_wholes, row_numbers_in, sound_start, whole_of}
use Rattle.graph.proofs.Runs.{Run, completion_runs, run_in, run_out, run_rows, runs_live}
use Rattle.graph.proofs.Unique.{completion_length, completion_unique, rows_distinct, rows_usable}

pub record Tree (g : Graph) (rs : List ℕ) : Type 0 where
  pub size : suc (length rs) ≡ length g.nodes
  pub rows : (r : ℕ) → r ∈ rs → r < length g.first_ends
  pub once : Distinct rs
  pub joined : (v : ℕ) → v ∈ g.nodes → Run g rs (length g.nodes) g.plant v

module _ (g : Graph) (rs : List ℕ) where
  abbrev known : Bool
  known = all (λ r. ltb r (length g.first_ends)) rs

  abbrev spans : Bool
  spans = all (λ v. runs g rs (length g.nodes) g.plant v) g.nodes

  pub tree_out : T (is_tree g rs) → Tree g rs
  unfolding is_tree
  tree_out t =
      let (a, t) = (T-both (eqb (suc (length rs)) (length g.nodes)) (both known (both (distinct rs) spans))).0 t in
      let (b, t) = (T-both known (both (distinct rs) spans)).0 t in
      let (c, d) = (T-both (distinct rs) spans).0 t in
      record {
        size = eqb→eq _ _ a;
        rows = λ r i. ltb→lt r (length g.first_ends) (all_out (λ r. ltb r (length g.first_ends)) b i);
        once = distinct_out rs c;
        joined = λ v m. run_out g rs (length g.nodes) g.plant v (all_out (λ v. runs g rs (length g.nodes) g.plant v) d m);
      }

  pub tree_in : Tree g rs → T (is_tree g rs)
  unfolding is_tree
  tree_in t =
      (T-both (eqb (suc (length rs)) (length g.nodes)) (both known (both (distinct rs) spans))).1 (
        eq→eqb _ _ t.size,
        (T-both known (both (distinct rs) spans)).1 (
          all_in (λ r. ltb r (length g.first_ends)) rs (λ r i. lt→ltb r (length g.first_ends) (t.rows r i)),
          (T-both (distinct rs) spans).1 (
            distinct_in rs t.once,
            all_in (λ v. runs g rs (length g.nodes) g.plant v) g.nodes (λ v m. run_in g rs (length g.nodes) g.plant v (t.joined v m)),
          ),
        ),
      )

module _ (g : Graph) (wf : WellFormed g) where
  -- the rows of a completion are a tree
  pub completion_tree : (qs : List ℕ) (ks : List Key) → Completion g qs (start g) ks → Tree g (rows_of ks)
  completion_tree qs ks c = record {
    size = ap suc (rows_of_length ks) ∙ omega (arith, completion_length g qs (start g) ks wf.once (sound_start g wf) c);
    rows = completion_rows g wf qs ks c;
    once = rows_distinct g qs (start g) ks c;
    joined = completion_runs g wf qs ks c;
  }

  -- a tree is n - 1 distinct rows with which the start is live
  pub live_tree : (rs : List ℕ) → suc (length rs) ≡ length g.nodes → ((r : ℕ) → r ∈ rs → r < length g.first_ends) → Distinct rs → Live g rs (start g)
      → Tree g rs
  live_tree rs n k d live =
      let (ks, c) = sufficient g rs (start g) (sound_start g wf) live in
      record {
        size = n;
        rows = k;
        once = d;
        joined = λ v m. run_rows g (rows_of ks) rs (length g.nodes) g.plant v
            (rows_usable g rs (start g) ks c.completes) (completion_runs g wf rs ks c.completes v m);
      }

  pub tree_live : (rs : List ℕ) → Tree g rs → Live g rs (start g)
  tree_live rs t = runs_live g wf rs (length g.nodes) t.joined

  -- a completion over the rows of a tree has them all
  pub tree_rows : (rs : List ℕ) (ks : List Key) → Tree g rs → Completion g rs (start g) ks → rs ⊆ rows_of ks
  tree_rows rs ks t c = filled ℕ_discrete (rows_of ks) rs (rows_distinct g rs (start g) ks c) (rows_usable g rs (start g) ks c)
      (omega (arith, rows_of_length ks, completion_length g rs (start g) ks wf.once (sound_start g wf) c, t.size))

  -- PATH IS TREE
  pub minimal_tree : (ps : List ℕ) → T (is_minimal g ps) → T (is_tree g ps)
  minimal_tree = on_wholes g wf (λ ps. T (is_tree g ps)) (λ ks c. tree_in g (rows_of ks) (completion_tree (row_numbers g) ks c))

  -- TREE HAS A PATH with exactly its rows
  pub tree_minimal : (rs : List ℕ) → T (is_tree g rs) → (ps : List ℕ) × T (is_minimal g ps) × (ps ⊆ rs) × (rs ⊆ ps)
  tree_minimal rs t =
      let tree = tree_out g rs t in
      let (ks, c) = sufficient g rs (start g) (sound_start g wf) (tree_live rs tree) in
      (rows_of ks, minimal_in g wf rs ks c.completes, rows_usable g rs (start g) ks c.completes, tree_rows rs ks tree c.completes)

  -- AND ONLY ONE
  pub minimal_unique : (ps qs : List ℕ) → T (is_minimal g ps) → T (is_minimal g qs) → ps ⊆ qs → qs ⊆ ps → ps ≡ qs
  minimal_unique ps qs a b v w =
      let (ks, c, e) = whole_of g wf ps a in
      let (ls, d, f) = whole_of g wf qs b in
      sym e ∙ ap rows_of (completion_unique g (row_numbers g) (start g) ks ls c d (rw (e, f) v) (rw (e, f) w)) ∙ f

  -- EXISTENCE: there is a spanning tree exactly if the start is live with all rows
  pub live_exists : ((rs : List ℕ) × T (is_tree g rs)) ↔ Live g (row_numbers g) (start g)
  live_exists = (
    λ (rs, t). let tree =
        tree_out g rs t in runs_live g wf (row_numbers g) (length g.nodes)
        (λ v m. run_rows g rs (row_numbers g) (length g.nodes) g.plant v (λ r i. row_numbers_in g r (tree.rows r i)) (tree.joined v m)),
    λ live. let (ks, c) =
        sufficient g (row_numbers g) (start g) (sound_start g wf) live in
        (rows_of ks, tree_in g (rows_of ks) (completion_tree (row_numbers g) ks c.completes)),
  )

  -- or if rows lead from the plant to every node
  pub tree_exists : ((rs : List ℕ) × T (is_tree g rs)) ↔ ((v : ℕ) → v ∈ g.nodes → T (runs g (row_numbers g) (length g.nodes) g.plant v))
  tree_exists = (
    λ (rs, t) v m. let tree = tree_out g rs t in
        run_in g (row_numbers g) (length g.nodes) g.plant v
        (run_rows g rs (row_numbers g) (length g.nodes) g.plant v (λ r i. row_numbers_in g r (tree.rows r i)) (tree.joined v m)),
    λ f. live_exists.1 (runs_live g wf (row_numbers g) (length g.nodes) (λ v m. run_out g (row_numbers g) (length g.nodes) g.plant v (f v m))),
  )
