-- The trees of a network with row states are those of the graph without the barred rows that have all must rows (`layouts_open`): a part of the list, in its order
-- (`layouts_part`). What they are: `layouts_mem`. The must rows are distinct rows (`must_distinct`, `must_out`), and none is barred.
use mathlib.Core.Path.{◌∙◌, ◌≡◌, ap, refl, subst, sym}
use mathlib.Core.Logic.{◌↔◌}
use mathlib.Core.Bool.{Bool, not}
use mathlib.Core.List.{List, map}
use Prim.Native.Nat.{◌<◌, ℕ}
use native.Mathlib.Decide.{dec_lt}
use native.Mathlib.Omega.{arith}
use lib.Dec.{T, T_not, not_T}
use lib.ListN.{get_or-eq_default, get_or-map, get_or, length, length-map}
use Rattle.lists.specs.Lists.{all, filter_b, has_all, pick}
use Rattle.lists.proofs.Distinct.{Distinct, filter_distinct, range_distinct}
use Rattle.lists.proofs.Members.{◌∈◌, ◌⊆◌, all_in, all_out, filter_both, filter_in, filter_out, has_all_in, has_all_out}
use Rattle.lists.proofs.Tests.{T-both, T_false, T_true}
use Rattle.graph.specs.Graph.{first_end, row_numbers, second_end}
use Rattle.graph.specs.Paths.{is_minimal, trees}
use Rattle.graph.proofs.Masked.{Masked, masked_trees}
use Rattle.graph.proofs.Minimal.{WellFormed, row_numbers_in}
use Rattle.graph.proofs.Parts.{Part, filter_part, trees_part}
use Rattle.graph.proofs.Trees.{trees_minimal}
use Rattle.costs.specs.Layouts.{barred_at, is_barred, is_must, keeps_states, layouts, must_at, must_end, must_firsts, must_rows, open_end, open_graph}
use Rattle.costs.specs.Network.{Network, Row, State, barred, graph_of, must, no_row, «open», row_at}

-- The must rows

pub must_distinct : (w : Network) → Distinct (must_rows w)
must_distinct w = filter_distinct (must_at w) (row_numbers (graph_of w)) (range_distinct 0 _)

pub must_out : (w : Network) (r : ℕ) → r ∈ must_rows w → (r ∈ row_numbers (graph_of w)) × T (must_at w r)
must_out w r i = filter_out (must_at w) (row_numbers (graph_of w)) i

not_both : (s : State) → T (is_must s) → ¬ T (is_barred s)
not_both «open» m b = m
not_both must m b = b
not_both barred m b = m

pub must_free : (w : Network) (r : ℕ) → r ∈ must_rows w → ¬ T (barred_at w r)
must_free w r i = not_both (row_at w r).state (must_out w r i).1

-- What keeps the states

pub keeps_out : (w : Network) (rows : List ℕ) → T (keeps_states w rows) → (must_rows w ⊆ rows) × ((r : ℕ) → r ∈ rows → ¬ T (barred_at w r))
keeps_out w rows t =
    let (a, b) = (T-both (has_all (must_rows w) rows) (all (λ r. not (barred_at w r)) rows)).0 t in
    (has_all_out (must_rows w) rows a, λ r i. T_not (barred_at w r) (all_out (λ r. not (barred_at w r)) b i))

pub keeps_in : (w : Network) (rows : List ℕ) → must_rows w ⊆ rows → ((r : ℕ) → r ∈ rows → ¬ T (barred_at w r)) → T (keeps_states w rows)
keeps_in w rows a b =
    (T-both (has_all (must_rows w) rows) (all (λ r. not (barred_at w r)) rows)).1
    (has_all_in (must_rows w) rows a, all_in (λ r. not (barred_at w r)) rows (λ r i. not_T (barred_at w r) (b r i)))

-- it does not depend on the sequence
pub keeps_same : (w : Network) (rows other : List ℕ) → rows ⊆ other → other ⊆ rows → T (keeps_states w rows) → T (keeps_states w other)
keeps_same w rows other a b t = let (m, n) = keeps_out w rows t in keeps_in w other (λ r i. a r (m r i)) (λ r i. n r (b r i))

-- The graph without the barred rows

pub row_count : (w : Network) → length (graph_of w).first_ends ≡ length w.rows
row_count w = length-map w.rows (λ r. r.first_end)

-- an end of each row, at every place, past the last row too
pub end_at : (w : Network) (end : Row → ℕ) → end no_row ≡ 0 → (r : ℕ) → get_or (map end w.rows) r 0 ≡ end (row_at w r)
end_at w end e r = subst (λ (x : ℕ). get_or (map end w.rows) r x ≡ end (row_at w r)) e (get_or-map end w.rows r no_row)

module _ (w : Network) (end : Row → ℕ) (none : end no_row ≡ 0) (r : ℕ) where
  pub barred_end : T (barred_at w r) → get_or (map (λ row. open_end row (end row)) w.rows) r 0 ≡ 0
  barred_end t = end_at w (λ row. open_end row (end row)) none r ∙ ap (λ (b : Bool). pick b 0 (end (row_at w r))) ((T_true (barred_at w r)).0 t)

  open_end_lem : ¬ T (barred_at w r) → get_or (map (λ row. open_end row (end row)) w.rows) r 0 ≡ get_or (map end w.rows) r 0
  open_end_lem n =
      end_at w (λ row. open_end row (end row)) none r ∙ ap (λ (b : Bool). pick b 0 (end (row_at w r))) ((T_false (barred_at w r)).0 n) ∙ sym (end_at w end none r)

  other_end : ¬ T (must_at w r) → get_or (map (λ row. must_end row (end row)) w.rows) r 0 ≡ 0
  other_end n = end_at w (λ row. must_end row (end row)) refl r ∙ ap (λ (b : Bool). pick b (end (row_at w r)) 0) ((T_false (must_at w r)).0 n)

masked : (w : Network) → Masked (graph_of w) (barred_at w) (open_graph w).first_ends (open_graph w).second_ends
masked w = record {
  absent = λ r t. barred_end w (λ row. row.first_end) refl r t;
  first = λ r n. open_end_lem w (λ row. row.first_end) refl r n;
  second = λ r n. open_end_lem w (λ row. row.second_end) refl r n;
}

-- the first end of a row among the must rows' ends
pub must_none : (w : Network) (r : ℕ) → ¬ T (must_at w r) → get_or (must_firsts w) r 0 ≡ 0
must_none w r n = other_end w (λ row. row.first_end) refl r n

pub must_some : (w : Network) (r : ℕ) → T (must_at w r) → get_or (must_firsts w) r 0 ≡ (row_at w r).first_end
must_some w r t = end_at w (λ row. must_end row row.first_end) refl r ∙ ap (λ (b : Bool). pick b (row_at w r).first_end 0) ((T_true (must_at w r)).0 t)

-- a row past the last is no must row
must_known : (w : Network) (r : ℕ) → T (must_at w r) → r < length w.rows
must_known w r t = elim (dec_lt r (length w.rows)) [
  | yes h ↦ h
  | no n ↦ absurd (subst (λ (row : Row). T (is_must row.state)) (get_or-eq_default w.rows no_row {n = r} (omega arith)) t)
]

pub must_in : (w : Network) (r : ℕ) → T (must_at w r) → r ∈ must_rows w
must_in w r t = filter_in (must_at w) (row_numbers_in (graph_of w) r (rw length-map (must_known w r t))) t

-- the ends of a row that is not barred
pub open_ends : (w : Network) (r : ℕ) → ¬ T (barred_at w r) → (first_end (open_graph w) r ≡ first_end (graph_of w) r) × (second_end (open_graph w) r ≡ second_end (graph_of w) r)
open_ends w r n = ((masked w).first r n, (masked w).second r n)

pub open_formed : (w : Network) → WellFormed (graph_of w) → WellFormed (open_graph w)
open_formed w wf = record { once = wf.once; plant = wf.plant; no_zero = wf.no_zero }

-- OPEN: its list is that of the trees without a barred row
pub open_trees : (w : Network) → WellFormed (graph_of w) → trees (open_graph w) ≡ filter_b (λ p. all (λ r. not (barred_at w r)) p) (trees (graph_of w))
open_trees w wf = masked_trees (graph_of w) wf (barred_at w) (open_graph w).first_ends (open_graph w).second_ends (masked w)

pub layouts_open : (w : Network) → WellFormed (graph_of w) → layouts w ≡ filter_b (has_all (must_rows w)) (trees (open_graph w))
layouts_open w wf =
    filter_both (has_all (must_rows w)) (λ p. all (λ r. not (barred_at w r)) p) (trees (graph_of w)) ∙ ap (filter_b (has_all (must_rows w))) (sym (open_trees w wf))

-- The list of layouts

pub layouts_part : (w : Network) → Part (graph_of w) (layouts w)
layouts_part w = filter_part (keeps_states w) (trees_part (graph_of w))

pub layouts_mem : (w : Network) → WellFormed (graph_of w) → (p : List ℕ) → (p ∈ layouts w) ↔ (T (is_minimal (graph_of w) p) × T (keeps_states w p))
layouts_mem w wf p = (
  λ i. let (j, t) = filter_out (keeps_states w) (trees (graph_of w)) i in ((trees_minimal (graph_of w) wf p).0 j, t),
  λ (m, t). filter_in (keeps_states w) ((trees_minimal (graph_of w) wf p).1 m) t,
)
