-- The list of all minimal paths: it ascends by `path_less` (`trees_ascending`), and it has exactly the minimal paths of the graph's rows
-- (`trees_mem`), each once (`trees_distinct`). Of a well-formed graph these are all minimal paths (`trees_minimal`).
use mathlib.Core.Path.{◌∙◌, ◌≡◌, ap, sym}
use mathlib.Core.Logic.{◌↔◌}
use mathlib.Core.Option.{Option, none, some}
use mathlib.Core.List.{List, [], ◌∷◌}
use Prim.Native.Nat.{◌<◌, pred, ℕ}
use native.Mathlib.Omega.{arith}
use lib.Dec.{T}
use lib.ListN.{length}
use Rattle.lists.specs.Lists.{filter_b, sequences, sort}
use Rattle.lists.proofs.Distinct.{Distinct, filter_distinct, range_distinct}
use Rattle.lists.proofs.Members.{◌∈◌, filter_in, filter_out, range_out}
use Rattle.lists.proofs.Orders.{Ascending, StrictTotal, ascending_distinct, sort_ascending, sort_in, sort_out}
use Rattle.lists.proofs.Sequences.{sequences_distinct, sequences_in, sequences_out}
use Rattle.graph.specs.Graph.{Graph, row_numbers}
use Rattle.graph.specs.Paths.{Key, is_minimal, opt_less, path_less, steps, trees}
use Rattle.graph.proofs.Growth.{rows_of}
use Rattle.graph.proofs.Keys.{keys_order}
use Rattle.graph.proofs.Minimal.{WellFormed, minimal_parts, minimal_rows, row_numbers_in}
use Rattle.graph.proofs.Steps.{steps_rows}

-- a path that makes steps
abbrev pub Stepping : Graph → List ℕ → Type 0
Stepping g p = (ks : List Key) × (steps g p ≡ some ks)

pub minimal_stepping : (g : Graph) (p : List ℕ) → T (is_minimal g p) → Stepping g p
minimal_stepping g p t = let made = (minimal_parts g p t).1 in (made.0, made.1)

opt_less_irrefl : (o : Option (List Key)) → ¬ T (opt_less o o)
opt_less_irrefl none t = t
opt_less_irrefl (some ks) t = keys_order.irrefl ks t

opt_less_trans : (o o' o'' : Option (List Key)) → T (opt_less o o') → T (opt_less o' o'') → T (opt_less o o'')
opt_less_trans none o' o'' s t = s
opt_less_trans (some ks) none o'' s t = absurd t
opt_less_trans (some ks) (some ls) none s t = tt
opt_less_trans (some ks) (some ls) (some ms) s t = keys_order.trans ks ls ms s t

-- `path_less` is a strict order, and total on the paths that make steps.
pub path_order : (g : Graph) → StrictTotal (Stepping g) (path_less g)
path_order g = record {
  irrefl = λ p t. opt_less_irrefl (steps g p) t;
  trans = λ p q r s t. opt_less_trans (steps g p) (steps g q) (steps g r) s t;
  total = λ p q sp sq n n'. sym (steps_rows g (g.plant ∷ []) p sp.0 sp.1) ∙ ap rows_of (same p q sp sq n n') ∙ steps_rows g (g.plant ∷ []) q sq.0 sq.1;
}
  where
    same : (p q : List ℕ) (sp : Stepping g p) (sq : Stepping g q) → ¬ T (path_less g p q) → ¬ T (path_less g q p) → sp.0 ≡ sq.0
    same p q sp sq n n' = keys_order.total sp.0 sq.0 tt tt (λ t. n (rw (sp.1, sq.1) t)) (λ t. n' (rw (sq.1, sp.1) t))

-- the minimal paths, before they are sorted
abbrev unsorted : Graph → List (List ℕ)
unsorted g = filter_b (is_minimal g) (sequences (pred (length g.nodes)) (row_numbers g))

-- The list's members are the minimal paths whose rows are rows of the graph.
pub trees_mem : (g : Graph) (p : List ℕ) → (p ∈ trees g) ↔ (T (is_minimal g p) × ((r : ℕ) → r ∈ p → r < length g.first_ends))
unfolding trees
trees_mem g p = (out, into)
  where
    out : p ∈ sort (path_less g) (unsorted g) → T (is_minimal g p) × ((r : ℕ) → r ∈ p → r < length g.first_ends)
    out m =
        let (m, t) = filter_out (is_minimal g) _ (sort_out (path_less g) (unsorted g) m) in
        let each = (sequences_out (pred (length g.nodes)) (row_numbers g) p m).1 in
        (t, λ r m. let h = range_out 0 (length g.first_ends) (each r m) in omega arith)

    into : T (is_minimal g p) × ((r : ℕ) → r ∈ p → r < length g.first_ends) → p ∈ sort (path_less g) (unsorted g)
    into h =
        let long = (minimal_parts g p h.0).0 in
        sort_in (path_less g) (filter_in (is_minimal g) (sequences_in (pred (length g.nodes)) (row_numbers g) p (omega arith) (λ r m. row_numbers_in g r (h.1 r m))) h.0)

-- The list ascends by `path_less`.
pub trees_ascending : (g : Graph) → Ascending (path_less g) (trees g)
unfolding trees
trees_ascending g =
    sort_ascending (path_order g) (unsorted g) (λ p m. minimal_stepping g p (filter_out (is_minimal g) _ m).1)
    (filter_distinct (is_minimal g) _ (sequences_distinct _ _ (range_distinct 0 (length g.first_ends))))

-- no path stands there twice
pub trees_distinct : (g : Graph) → Distinct (trees g)
trees_distinct g = ascending_distinct (path_order g) (trees g) (trees_ascending g)

-- each has a row for each node but the plant
pub trees_length : (g : Graph) (p : List ℕ) → p ∈ trees g → length p ≡ pred (length g.nodes)
trees_length g p m = let long = (minimal_parts g p ((trees_mem g p).0 m).0).0 in omega arith

-- of a well-formed graph: all minimal paths
pub trees_minimal : (g : Graph) → WellFormed g → (p : List ℕ) → (p ∈ trees g) ↔ T (is_minimal g p)
trees_minimal g wf p = (λ m. ((trees_mem g p).0 m).0, λ t. (trees_mem g p).1 (t, minimal_rows g wf p t))
