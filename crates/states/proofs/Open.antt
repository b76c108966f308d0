-- A network with row states: its trees are those of the graph without the barred rows that have all must rows (`layouts_with`), and there is one exactly if that graph
-- is joined and the must rows have no cycle (`layouts_exist`), in that graph or in the network's own (`forest_open`). The must rows by their ends: `musts_of_lem`.
use mathlib.Core.Path.{◌∙◌, ◌≡◌, ap, subst, sym}
use mathlib.Core.Logic.{◌↔◌, ⊎_elim}
use mathlib.Core.List.{List}
use Prim.Native.Nat.{◌<◌, ℕ}
use native.Mathlib.Omega.{arith}
use lib.Dec.{T, T_not, eqb, eqb→eq, not_T}
use lib.ListN.{get_or, length, length-map}
use Rattle.lists.specs.Lists.{filter_b, range}
use Rattle.lists.proofs.Members.{◌∈◌, filter_same, range_out}
use Rattle.lists.proofs.Tests.{T-same, decide, eq→eqb}
use Rattle.graph.specs.Graph.{Graph, first_end, row_numbers, second_end}
use Rattle.graph.proofs.Growth.{Joins, Live, back, forth, start}
use Rattle.graph.proofs.Masked.{ends_as}
use Rattle.graph.proofs.Minimal.{WellFormed}
use Rattle.costs.specs.Layouts.{layouts, must_at, must_end, must_firsts, must_rows, open_graph}
use Rattle.costs.specs.Network.{Network, Row, graph_of, row_at}
use Rattle.costs.proofs.Layouts.{layouts_open, must_distinct, must_free, must_none, must_some, open_ends, open_formed}
use Rattle.forests.specs.Forests.{cut}
use Rattle.forests.proofs.Cuts.{cut_old}
use Rattle.forests.proofs.Forest.{Forest}
use Rattle.forests.proofs.Joined.{joined_map, joined_row}
use Rattle.states.specs.States.{must_row, musts_of, trees_with}
use Rattle.states.proofs.With.{with_exists}

-- Rows with the same ends in two graphs of the same nodes

record Same (g h : Graph) (rs : List ℕ) : Type 0 where
  first : (r : ℕ) → r ∈ rs → first_end g r ≡ first_end h r
  second : (r : ℕ) → r ∈ rs → second_end g r ≡ second_end h r

module _ (g : Graph) (ones twos : List ℕ) (rs : List ℕ) where
  abbrev h : Graph
  h = ends_as g ones twos

  module _ (same : Same g h rs) where
    joins_there : {r u v : ℕ} → r ∈ rs → Joins g r u v → Joins h r u v
    joins_there {r} i (forth a b) = forth (rw (same.first r i) at a) (rw (same.second r i) at b)
    joins_there {r} i (back a b) = back (rw (same.first r i) at a) (rw (same.second r i) at b)

    joins_here : {r u v : ℕ} → r ∈ rs → Joins h r u v → Joins g r u v
    joins_here {r} i (forth a b) = forth (rw (same.first r i) a) (rw (same.second r i) b)
    joins_here {r} i (back a b) = back (rw (same.first r i) a) (rw (same.second r i) b)

    forest_there : Forest g rs → Forest h rs
    forest_there f = record {
      once = f.once;
      lies = λ r i. record { first = rw (same.first r i) at (f.lies r i).first; second = rw (same.second r i) at (f.lies r i).second };
      apart = λ r i j. f.apart r i (rw (same.first r i, same.second r i)
          (joined_map h g (cut r rs) (cut r rs) (λ x. x) (λ v m. m) (λ q u v k o m n. joined_row k (joins_here (cut_old r rs q k) o) m n) j));
    }

    forest_here : Forest h rs → Forest g rs
    forest_here f = record {
      once = f.once;
      lies = λ r i. record { first = rw (same.first r i) (f.lies r i).first; second = rw (same.second r i) (f.lies r i).second };
      apart = λ r i j. f.apart r i (rw (same.first r i, same.second r i) at
          (joined_map g h (cut r rs) (cut r rs) (λ x. x) (λ v m. m) (λ q u v k o m n. joined_row k (joins_there (cut_old r rs q k) o) m n) j));
    }

module _ (w : Network) where
  -- the must rows have their own ends in the graph without the barred rows
  pub forest_open : Forest (graph_of w) (must_rows w) ↔ Forest (open_graph w) (must_rows w)
  forest_open =
      let same : Same (graph_of w) (open_graph w) (must_rows w) =
      record { first = λ r i. sym (open_ends w r (must_free w r i)).0; second = λ r i. sym (open_ends w r (must_free w r i)).1 } in
      (forest_there (graph_of w) _ _ (must_rows w) same, forest_here (graph_of w) _ _ (must_rows w) same)

  module _ (wf : WellFormed (graph_of w)) where
    pub layouts_with : layouts w ≡ trees_with (open_graph w) (must_rows w)
    layouts_with = layouts_open w wf

    -- EXISTENCE
    pub layouts_exist : ((p : List ℕ) × (p ∈ layouts w)) ↔ (Live (open_graph w) (row_numbers (open_graph w)) (start (open_graph w)) × Forest (graph_of w) (must_rows w))
    layouts_exist =
        let i = with_exists (open_graph w) (open_formed w wf) (must_rows w) (must_distinct w) in (
          λ (p, m). let (live, f) = i.0 (p, subst (λ (l : List (List ℕ)). p ∈ l) layouts_with m) in (live, forest_open.1 f),
          λ (live, f). let (p, m) = i.1 (live, forest_open.0 f) in (p, subst (λ (l : List (List ℕ)). p ∈ l) (sym layouts_with) m),
        )

  -- the must rows are those with ends, where no row has the end 0
  pub musts_of_lem : ((r : ℕ) → r < length w.rows → ¬ ((row_at w r).first_end ≡ 0)) → musts_of (must_firsts w) ≡ must_rows w
  unfolding must_row
  musts_of_lem sound = ap (λ (n : ℕ). filter_b (must_row (must_firsts w)) (range 0 n)) (length-map w.rows (λ row. must_end row row.first_end) ∙ sym (length-map w.rows (λ row. row.first_end)))
      ∙ filter_same (must_row (must_firsts w)) (must_at w) (row_numbers (graph_of w)) (λ r i.
      let h : r < length w.rows = omega (arith, range_out 0 (length (graph_of w).first_ends) i, length-map w.rows (λ (row : Row). row.first_end)) in
      T-same (must_row (must_firsts w) r) (must_at w r) (out r h) (into r h))
    where
      out : (r : ℕ) → r < length w.rows → T (must_row (must_firsts w) r) → T (must_at w r)
      out r h t = ⊎_elim (λ m. m) (λ n. absurd (T_not (eqb (get_or (must_firsts w) r 0) 0) t (eq→eqb _ _ (must_none w r n)))) (decide (must_at w r))

      into : (r : ℕ) → r < length w.rows → T (must_at w r) → T (must_row (must_firsts w) r)
      into r h t = not_T (eqb (get_or (must_firsts w) r 0) 0) (λ e. sound r h (sym (must_some w r t) ∙ eqb→eq _ _ e))
