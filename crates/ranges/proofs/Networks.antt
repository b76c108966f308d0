-- A network's layouts as those of its graph (`layouts_listed`), and the marks of its rows (`marks_closed`).
use mathlib.Core.Path.{◌∙◌, ◌≡◌, ap, ap₂, fun_ext, refl, sym}
use mathlib.Core.List.{List}
use Prim.Native.Nat.{◌<◌, ◌≤◌, ℕ}
use native.Mathlib.Decide.{dec_lt}
use native.Mathlib.Omega.{arith}
use lib.Dec.{T}
use lib.ListN.{get_or-eq_default, get_or, length, length-map}
use Rattle.lists.proofs.Maps.{map_same}
use Rattle.lists.proofs.Members.{range_out}
use Rattle.lists.proofs.Ranges.{get_or_map_past, get_or_map_range, range_length}
use Rattle.graph.specs.Graph.{row_numbers}
use Rattle.graph.proofs.Minimal.{WellFormed}
use Rattle.costs.specs.Costs.{cost_at}
use Rattle.costs.specs.Layouts.{barred_at, must_at, layouts}
use Rattle.costs.specs.Network.{Network, Row, graph_of, no_row, row_at}
use Rattle.costs.proofs.Layouts.{row_count}
use Rattle.forests.proofs.Joined.{Lies}
use Rattle.musts.proofs.Layouts.{Layout, Listed}
use Rattle.musts.proofs.States.{kept_listed}
use Rattle.operations.specs.Operations.{some_tree}
use Rattle.operations.proofs.Exists.{some_out}
use Rattle.ranges.specs.Calls.{first_costs, range_marks}
use Rattle.ranges.specs.Closed.{closed_mark, closed_marks}
use Rattle.ranges.proofs.Choices.{at}
use Rattle.ranges.proofs.Marks.{allowed_by, mark_closed, musts_by}

module _ (w : Network) where
  -- LISTED
  pub layouts_listed : WellFormed (graph_of w) → Listed (graph_of w) (musts_by (graph_of w) (must_at w)) (allowed_by (graph_of w) (barred_at w)) (layouts w)
  layouts_listed wf = kept_listed w (graph_of w) wf refl

  pub some_layout : WellFormed (graph_of w) → T (some_tree (layouts w))
      → (ts : List ℕ) × Layout (graph_of w) (musts_by (graph_of w) (must_at w)) (allowed_by (graph_of w) (barred_at w)) ts
  some_layout wf some = let (p, i) = some_out (layouts w) some in (p, (layouts_listed wf).layout p i)

  -- the first costs, row by row, past the last row too
  pub first_at : (r : ℕ) → at (first_costs w) r ≡ cost_at w 0 r
  first_at r = elim (dec_lt r (length (graph_of w).first_ends)) [
    | yes h ↦ get_or_map_range (cost_at w 0) (length (graph_of w).first_ends) r 0 h
    | no n ↦
        let past : row_at w r ≡ no_row = get_or-eq_default w.rows no_row {n = r} (omega (arith, row_count w)) in
        get_or_map_past (cost_at w 0) (length (graph_of w).first_ends) r 0 (omega arith) ∙ sym (ap (λ (x : Row). get_or x.costs 0 0) past)
  ]

  pub first_length : length (first_costs w) ≡ length w.rows
  first_length = length-map (row_numbers (graph_of w)) (cost_at w 0) ∙ range_length 0 (length (graph_of w).first_ends) ∙ row_count w

-- MARKS of a network's rows, with the low and the high costs of two networks
pub marks_closed : (low high : Network) → WellFormed (graph_of low) → T (some_tree (layouts low)) → length low.rows ≡ length high.rows
    → ((r : ℕ) → cost_at low 0 r ≤ cost_at high 0 r) → ((r : ℕ) → r < length (graph_of low).first_ends → Lies (graph_of low) r) → range_marks low high ≡ closed_marks low high
unfolding range_marks closed_marks
marks_closed low high wf some same order lies = map_same _ _ (row_numbers (graph_of low)) (λ r i.
    mark_closed (graph_of low) wf (must_at low) (barred_at low) (layouts low) (layouts_listed low wf) (some_layout low wf some) (first_costs low) (first_costs high)
    (omega (arith, first_length low, first_length high)) (λ r. omega (arith, order r, first_at low r, first_at high r))
    r i (lies r (omega (arith, range_out 0 (length (graph_of low).first_ends) i)))
    ∙ ap₂ (λ (a b : ℕ → ℕ). closed_mark (graph_of low) (must_at low) (barred_at low) a b r) (fun_ext (first_at low)) (fun_ext (first_at high)))
