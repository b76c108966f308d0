-- Whether all must rows of a chart are among some rows: as the code asks it, of each row of the chart, whether it is no must row or among them (`musts_start`), and that
-- nothing need be asked where the word of 0 is empty (`musts_met_lem`). For that a must row has to lead to a node (`MustsLead`), as it does where there is a tree (`tree_leads`)
-- and in the chart of an accepted file (`file_leads`); that a chart is right says nothing of must rows between numbers that are no nodes.
use mathlib.Core.Path.{◌∙◌, ◌≡◌, ap, refl, subst, sym}
use mathlib.Core.Bool.{Bool, true}
use mathlib.Core.List.{List, [], ◌∷◌}
use Prim.Native.Nat.{◌<◌, suc, zero, ℕ}
use native.Mathlib.Numerals.{add-one}
use native.Mathlib.Omega.{arith}
use lib.Dec.{T, T_not, eqb, eqb→eq}
use lib.ListN.{get_or, length}
use borrow.Author.Tests.{eq-eqb, ne_eqb}
use Rattle.std.specs.List.{list_all, range_with_len}
use Rattle.lists.specs.Lists.{all, filter_b, has_all, member, pick, range}
use Rattle.lists.proofs.Library.{all_is}
use Rattle.lists.proofs.Members.{◌∈◌, all_in, all_out, filter_in, filter_out, has_all_in, has_all_out, member_in, range_in, range_out}
use Rattle.lists.proofs.Tests.{T-same, T_true, pick_elim, pick_true}
use Rattle.graph.specs.Graph.{Graph, first_end}
use Rattle.graph.specs.Paths.{trees}
use Rattle.graph.proofs.Growth.{back}
use Rattle.graph.proofs.Masked.{minimal_join}
use Rattle.graph.proofs.Trees.{trees_minimal}
use Rattle.costs.specs.Layouts.{must_rows, open_graph}
use Rattle.costs.specs.Network.{Network, Row, graph_of}
use Rattle.costs.proofs.Layouts.{end_at, must_free, must_out, open_ends, row_count}
use Rattle.states.specs.States.{must_row}
use Rattle.network_file.specs.File.{network_of, sizes_of}
use Rattle.network_file.proofs.Accepted.{Accepted, row_in_lem, rows_length}
use Rattle.words.proofs.Words.{has_zero}
use Rattle.chart.specs.Chart.{Blank, count_in, file_chart_on, firsts_in, graph_in, list_in, musts_in, near_in, seconds_in}
use Rattle.chart.proofs.Charts.{Charts, masked, musts_known, musts_long}
use Rattle.chart.proofs.Files.{file_charts, file_graph, file_musts}
use Rattle.chart.proofs.Laws.{firsts_length}
use Rattle.grow.specs.Musts.{musts_met}

-- AS THE CODE ASKS

-- an iterator's numbers
listed_range : (from n : ℕ) → range_with_len from n ≡ range from n
unfolding range
listed_range from zero = refl
listed_range from (suc n) = rw (add-one, listed_range (suc from) n)

-- a test of the members that pass another
all_filter : (p q : ℕ → Bool) (l : List ℕ) → all q (filter_b p l) ≡ all (λ a. pick (p a) (q a) true) l
all_filter p q l = T-same (all q (filter_b p l)) (all (λ a. pick (p a) (q a) true) l)
    (λ t. all_in (λ a. pick (p a) (q a) true) l (λ a i. pick_elim (λ (b : Bool). T b) (p a) (λ s. all_out q t (filter_in p i s)) (λ n. tt)))
    (λ t. all_in q (filter_b p l) (λ a i.
    let (j, s) = filter_out p l i in
    subst (λ (b : Bool). T b) (pick_true (p a) (q a) true s) (all_out (λ a. pick (p a) (q a) true) t j)))

-- row r is no must row, or among the rows
abbrev pub dug_at : List ℕ → List ℕ → ℕ → Bool
dug_at c rows r = pick (must_row (firsts_in true c) r) (member r rows) true

pub musts_start : (c rows : List ℕ) (count : ℕ) → count ≡ count_in c → list_all (dug_at c rows) (range_with_len 0 count) ≡ has_all (musts_in c) rows
musts_start c rows count e =
    sym (all_is (dug_at c rows) (range_with_len 0 count))
    ∙ ap (all (dug_at c rows)) (listed_range 0 count ∙ ap (range 0) (e ∙ sym (firsts_length true c)))
    ∙ sym (all_filter (must_row (firsts_in true c)) (λ x. member x rows) (range 0 (length (firsts_in true c))))

-- with no end of a must row, and with some
module _ (c rows : List ℕ) {ends : ℕ} (read : ends ≡ get_or (near_in true c) 0 0) where
  pub met_none : ends ≡ 0 → true ≡ musts_met c rows
  unfolding musts_met
  met_none e = rw (← read, eq-eqb ends 0 e)

  pub met_asked : {b : Bool} → ¬ (ends ≡ 0) → b ≡ has_all (musts_in c) rows → b ≡ musts_met c rows
  unfolding musts_met
  met_asked n d = rw (← read, ne_eqb ends 0 n) d

-- WHERE MUST ROWS LEAD TO NODES

-- where there is a must row, the word of 0 has a node
pub record MustsLead (c : List ℕ) : Type 0 where
  pub leads : (r : ℕ) → r ∈ musts_in c → ¬ (get_or (near_in true c) 0 0 ≡ 0)

pub musts_met_lem : {c : List ℕ} → MustsLead c → (rows : List ℕ) → musts_met c rows ≡ has_all (musts_in c) rows
unfolding musts_met
musts_met_lem {c} lead rows = pick_elim (λ (b : Bool). b ≡ has_all (musts_in c) rows) (eqb (get_or (near_in true c) 0 0) 0)
    (λ t. sym ((T_true _).0 (has_all_in (musts_in c) rows (λ r i. absurd (lead.leads r i (eqb→eq _ _ t))))))
    (λ n. refl)

module _ {c : List ℕ} (right : Charts c) where
  -- a must row has its own first end, to which it leads
  pub rows_lead : ((r : ℕ) → r ∈ musts_in c → first_end (graph_in c) r ∈ (graph_in c).nodes) → MustsLead c
  rows_lead ends = record {
    leads = λ r i e.
        let own : get_or (firsts_in true c) r 0 ≡ first_end (graph_in c) r = (masked c).first r (λ t. T_not (member r (musts_in c)) t (member_in i)) in
        let known : r < length (firsts_in true c) = omega (arith, musts_long c, musts_known c r i) in
        let t = right.must_ends (get_or (seconds_in true c) r 0) (first_end (graph_in c) r) r (ends r i) known (back own refl) in
        absurd (rw (e, has_zero) at t);
  }

  pub tree_leads : (p : List ℕ) → p ∈ list_in c → MustsLead c
  tree_leads p m =
      let (i, t) = filter_out (has_all (musts_in c)) (trees (graph_in c)) m in
      rows_lead (λ r j. (minimal_join (graph_in c) right.charted.formed p ((trees_minimal (graph_in c) right.charted.formed p).0 i) r (has_all_out (musts_in c) p t r j)).0)

module _ (f : List ℕ) (a : Accepted f) where
  abbrev w : Network
  w = network_of f

  -- in the network's graph a must row has its own ends, which are nodes
  must_end_lem : (r : ℕ) → r ∈ must_rows w → first_end (open_graph w) r ∈ range 1 (sizes_of f).n
  must_end_lem r i =
      let known : r < (sizes_of f).m = omega (arith, range_out 0 (length (graph_of w).first_ends) (must_out w r i).0, row_count w, rows_length f) in
      let own = (open_ends w r (must_free w r i)).0 ∙ end_at w (λ (row : Row). row.first_end) refl r ∙ ap (λ (row : Row). row.first_end) (row_in_lem f r known) in
      let ends = a.ends r known in
      rw own (range_in 1 (sizes_of f).n _ ends.first_low (omega (arith, ends.first_high)))

  pub file_leads : (c : List ℕ) → Blank c → MustsLead (file_chart_on f c)
  unfolding network_of
  file_leads c empty = rows_lead (file_charts f a c empty) (λ r i.
      subst (λ (g : Graph). first_end g r ∈ g.nodes) (sym (file_graph f a c empty)) (must_end_lem r (subst (λ (l : List ℕ). r ∈ l) (file_musts f a c empty) i)))
