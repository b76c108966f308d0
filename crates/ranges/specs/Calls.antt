-- The marks of the rows, and a drawn tree's least and greatest sum, over a low and a high file (document 02, #110).
use Rattle.std.specs.Prelude.{Bool, ◌&&◌, false, true, List, [], ◌++◌, ◌∷◌, map, ℕ, eqb, leb, length}
use Rattle.lists.specs.Lists.{all}
use Rattle.graph.specs.Graph.{row_numbers}
use Rattle.checks.specs.Checks.{Check, Ended, Outcome, checked, ended}
use Rattle.costs.specs.Costs.{cost_at}
use Rattle.costs.specs.Layouts.{layouts}
use Rattle.costs.specs.Network.{Network, Row, graph_of}
use Rattle.network_file.specs.Bytes.{state_number}
use Rattle.network_file.specs.File.{file_checks, network_of}
use Rattle.network_file.specs.Frames.{same_frame}
use Rattle.operations.specs.Operations.{check, drawn_checks, over, some_tree}
use Rattle.charges.specs.Charges.{added_at}
use Rattle.ranges.specs.Ranges.{greatest_sum, least_sum, row_mark, unbeaten}

-- the first criterion's costs, row by row
abbrev pub first_costs : Network → List ℕ
first_costs w = map (cost_at w 0) (row_numbers (graph_of w))

-- 18: the same n, k and kinds, and m, ends as written, streets and states

abbrev pub same_but_costs : Row → Row → Bool
same_but_costs x y =
    eqb x.first_end y.first_end
    && (eqb x.second_end y.second_end && (eqb x.street y.street && eqb (state_number x.state) (state_number y.state)))

unfoldable pub same_rows : List Row → List Row → Bool
same_rows [] [] = true
same_rows [] (y ∷ l) = false
same_rows (x ∷ k) [] = false
same_rows (x ∷ k) (y ∷ l) = same_but_costs x y && same_rows k l

unfoldable pub same_shape : Network → Network → Bool
unfolding same_frame same_rows
same_shape v w = same_frame v w && same_rows v.rows w.rows

-- 23: no low cost is above its high in criterion 0
unfoldable pub ascends : Network → Network → Bool
unfolding all
ascends v w = all (λ r. leb (cost_at v 0 r) (cost_at w 0 r)) (row_numbers (graph_of v))

-- both files' checks, 18, 22, 23 and 12; the network's trees are those of either file
unfoldable pub range_checks : List ℕ → List ℕ → List Check
unfolding same_shape ascends
range_checks low high =
    file_checks low
    ++ file_checks high
    ++ (check 18 (same_shape (network_of low) (network_of high))
    ∷ check 22 (added_at (network_of low) 0)
    ∷ check 23 (ascends (network_of low) (network_of high))
    ∷ check 12 (some_tree (layouts (network_of low)))
    ∷ [])

-- The marks of all rows

unfoldable pub range_marks : Network → Network → List ℕ
unfolding unbeaten row_mark
range_marks low high = map (row_mark (unbeaten (first_costs low) (first_costs high) (layouts low))) (row_numbers (graph_of low))

unfoldable pub ranges_checks : List ℕ → List ℕ → List ℕ → List Check
unfolding range_checks
ranges_checks low high buffer = range_checks low high ++ (check 11 (leb (length (network_of low).rows) (length buffer)) ∷ [])

unfoldable pub ranges_call : List ℕ → List ℕ → List ℕ → Ended (Unit {0}) (List ℕ)
unfolding ranges_checks range_marks
ranges_call low high buffer = ended (ranges_checks low high buffer) tt buffer (over (range_marks (network_of low) (network_of high)) buffer)

-- A drawn tree's sums

pub record Sums : Type 0 where
  pub least : ℕ
  pub greatest : ℕ

-- 8, 9, 10 and 15 last
unfoldable pub range_sums_checks : List ℕ → List ℕ → List ℕ → List Check
unfolding range_checks drawn_checks
range_sums_checks low high rows = range_checks low high ++ drawn_checks (network_of low) rows

unfoldable pub range_sums_call : List ℕ → List ℕ → List ℕ → Outcome Sums
unfolding range_sums_checks least_sum greatest_sum
range_sums_call low high rows =
    let lows = first_costs (network_of low) in
    let highs = first_costs (network_of high) in
    checked (range_sums_checks low high rows) (record { least = least_sum lows highs rows; greatest = greatest_sum lows highs rows })
