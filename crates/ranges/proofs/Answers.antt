-- THE ANSWERS over two files that meet the checks up to 12: the marks are the closed ones (`ranges_closed`), and a drawn tree's sums are those of its lows and
-- of its highs (`sums_closed`).
use mathlib.Core.Path.{◌∙◌, ◌≡◌, ap, refl}
use mathlib.Core.Option.{none}
use mathlib.Core.Bool.{Bool}
use mathlib.Core.List.Memᴰ.{head as here}
use mathlib.Core.List.Memᴰ.{tail as there}
use mathlib.Core.List.{List, [], ◌++◌, ◌∷◌}
use Prim.Native.Nat.{◌≤◌, suc, ℕ}
use native.Mathlib.Decide.{dec_lt}
use native.Mathlib.Omega.{arith}
use lib.Dec.{T, leb, leb→le}
use lib.ListN.{get_or-eq_default, get_or, length}
use Rattle.lists.specs.Lists.{all}
use Rattle.lists.proofs.Members.{all_out}
use Rattle.lists.proofs.Tests.{T-both, T_true}
use Rattle.graph.specs.Graph.{row_numbers}
use Rattle.graph.proofs.Minimal.{row_numbers_in}
use Rattle.checks.specs.Checks.{Check, first_unmet}
use Rattle.checks.proofs.Checks.{met_all}
use Rattle.checks.proofs.Ended.{unmet_parts}
use Rattle.costs.specs.Costs.{added_cost, cost_at}
use Rattle.costs.specs.Layouts.{layouts}
use Rattle.costs.specs.Network.{Network, Row, graph_of, no_row}
use Rattle.costs.proofs.Layouts.{row_count}
use Rattle.network_file.specs.File.{file_checks, network_of}
use Rattle.network_file.specs.Frames.{same_frame}
use Rattle.network_file.proofs.Accepted.{Accepted, accepted}
use Rattle.operations.specs.Operations.{check, some_tree}
use Rattle.operations.proofs.Files.{formed}
use Rattle.charges.specs.Charges.{added_at}
use Rattle.ranges.specs.Calls.{first_costs, range_checks, range_marks, same_but_costs, same_rows, same_shape}
use Rattle.ranges.specs.Closed.{closed_marks}
use Rattle.ranges.specs.Ranges.{greatest_sum, least_sum}
use Rattle.ranges.proofs.Choices.{at, weight_same}
use Rattle.ranges.proofs.Ends.{rows_lie}
use Rattle.ranges.proofs.Networks.{first_at, first_length, marks_closed}
use Rattle.ranges.proofs.Sums.{greatest_highs, least_lows}

-- What 18 and 23 say

rows_shape : (k l : List Row) → T (same_rows k l) → length k ≡ length l
unfolding same_rows
rows_shape [] [] t = refl
rows_shape [] (y ∷ l) t = absurd t
rows_shape (x ∷ k) [] t = absurd t
rows_shape (x ∷ k) (y ∷ l) t = ap suc (rows_shape k l ((T-both (same_but_costs x y) (same_rows k l)).0 t).1)

shape_rows : (v w : Network) → T (same_shape v w) → length v.rows ≡ length w.rows
unfolding same_shape
shape_rows v w t =
    rows_shape v.rows w.rows ((T-both (same_frame v w) (same_rows v.rows w.rows)).0 t).1

past_cost : (w : Network) (r : ℕ) → length w.rows ≤ r → cost_at w 0 r ≡ 0
past_cost w r h = ap (λ (x : Row). get_or x.costs 0 0) (get_or-eq_default w.rows no_row {n = r} h)

module _ (low high : List ℕ) (ok : first_unmet (range_checks low high) ≡ none) where
  abbrev v : Network
  v = network_of low

  abbrev w : Network
  w = network_of high

  -- the file's checks, and those behind both files'
  record Met : Type 0 where
    file : Accepted low
    shape : length v.rows ≡ length w.rows
    order : (r : ℕ) → cost_at v 0 r ≤ cost_at w 0 r
    some : T (some_tree (layouts v))

  abbrev ordered : Bool
  ordered = all (λ r. leb (cost_at v 0 r) (cost_at w 0 r)) (row_numbers (graph_of v))

  abbrev behind : List Check
  behind = check 18 (same_shape v w) ∷ check 22 (added_at v 0) ∷ check 23 ordered ∷ check 12 (some_tree (layouts v)) ∷ []

  met : Met
  unfolding range_checks
  met =
      let (files, rest) = unmet_parts (file_checks low ++ file_checks high) behind ok in
      let a = (unmet_parts (file_checks low) (file_checks high) files).0 in
      let each = (met_all behind).0 rest in
      let t18 : T (same_shape v w) = (T_true _).1 (each (check 18 (same_shape v w)) (here refl)) in
      let t23 : T ordered = (T_true _).1 (each (check 23 ordered) (there (there (here refl)))) in
      record {
        file = accepted low a;
        shape = shape_rows v w t18;
        order = λ r. elim (dec_lt r (length v.rows)) [
          | yes h ↦ leb→le (cost_at v 0 r) (cost_at w 0 r)
              (all_out (λ r. leb (cost_at v 0 r) (cost_at w 0 r)) t23 (row_numbers_in (graph_of v) r (omega (arith, row_count v))))
          | no n ↦ omega (arith, past_cost v r (omega arith))
        ];
        some = (T_true _).1 (each (check 12 (some_tree (layouts v))) (there (there (there (here refl)))));
      }

  -- THE MARKS
  pub ranges_closed : range_marks (network_of low) (network_of high) ≡ closed_marks (network_of low) (network_of high)
  ranges_closed = marks_closed v w (formed low met.file) met.some met.shape met.order (rows_lie low met.file)

  -- THE SUMS
  pub sums_closed : (rows : List ℕ) → (least_sum (first_costs (network_of low)) (first_costs (network_of high)) rows ≡ added_cost (network_of low) 0 rows)
      × (greatest_sum (first_costs (network_of low)) (first_costs (network_of high)) rows ≡ added_cost (network_of high) 0 rows)
  sums_closed rows =
      let long : length (first_costs v) ≡ length (first_costs w) = omega (arith, first_length v, first_length w, met.shape) in
      let order : (r : ℕ) → at (first_costs v) r ≤ at (first_costs w) r = λ r. omega (arith, met.order r, first_at v r, first_at w r) in (
        least_lows (first_costs v) (first_costs w) long order rows ∙ weight_same (at (first_costs v)) (cost_at v 0) (first_at v) rows,
        greatest_highs (first_costs v) (first_costs w) long order rows ∙ weight_same (at (first_costs w)) (cost_at w 0) (first_at w) rows,
      )
