-- Laws of Count: a turn of the loop that makes links of the rows (`filling_start`, `filling_next`, `filling_end`), and what was counted (`trees_counted`).
use mathlib.Core.Path.{◌∙◌, ◌≡◌, ap, refl, sym}
use mathlib.Core.List.{List, []}
use Prim.Native.Nat.{◌+◌, ◌-◌, ◌<◌, ◌≤◌, min, pred, ℕ}
use native.Mathlib.Omega.{arith}
use lib.ListN.{drop, drop_of_length-le, length, length-drop, length-map}
use Rattle.graph.specs.Graph.{first_end, second_end}
use Rattle.costs.specs.Network.{Network, Row, State, graph_of, row_at}
use Rattle.costs.proofs.Layouts.{end_at, row_count}
use Rattle.fields.specs.Fields.{row_with, state_in}
use Rattle.fields.specs.declared.Row as code
use Rattle.network_file.specs.File.{network_of, row_in, sizes_of}
use Rattle.network_file.proofs.Accepted.{Accepted, row_in_lem}
use Rattle.operations.specs.Operations.{graph_in}
use Rattle.counts.specs.Counting.{Weight}
use Rattle.counts.specs.Matrix.{Agree, Matrix, add_held, held_total, limit}
use Rattle.counts.specs.States.{empty, fill_held, states_of, weight_of}
use Rattle.counts.specs.Trees.{tree_count}
use Rattle.counts.proofs.Agreement.{agree_trans, fill_agree, fill_turn, held_agree}
use Rattle.counts.proofs.Count.{counted_is, file_between}
use Rattle.counts.proofs.States.{state_of_lem}

-- the ends of a row as places of two nodes of 32
pub record Sound (first second : ℕ) : Type 0 where
  pub first_some : 1 ≤ first
  pub second_some : 1 ≤ second
  pub first_low : first - 1 < 32
  pub second_low : second - 1 < 32
  pub differ : ¬ (first - 1 ≡ second - 1)

-- the links of the rows before r are added, and those of the others are left to add
pub record Filling (f : List ℕ) (z : Matrix) (r : ℕ) : Type 0 where
  pub left : Agree (fill_held limit (graph_in f) r (drop r (states_of (network_of f))) z) (fill_held limit (graph_in f) 0 (states_of (network_of f)) empty) 32

module _ (f : List ℕ) (a : Accepted f) where
  abbrev w : Network
  w = network_of f

  rows_long : length (states_of w) ≡ (sizes_of f).m
  rows_long = length-map w.rows (λ (row : Row). row.state) ∙ a.rows

  -- rows left to add, to matrices that agree
  rest_agree : (r : ℕ) → r ≤ (sizes_of f).m → (u z : Matrix) → Agree u z 32
      → Agree (fill_held limit (graph_in f) r (drop r (states_of w)) u) (fill_held limit (graph_in f) r (drop r (states_of w)) z) 32
  rest_agree r l u z h = fill_agree limit (graph_in f) (sizes_of f).n (file_between f a) 32 a.nodes_high (drop r (states_of w)) r
      (omega (arith, length-drop r (states_of w), rows_long, row_count w, a.rows)) u z h

  pub filling_start : (z : Matrix) → Agree z empty 32 → Filling f z 0
  filling_start z h = record { left = rest_agree 0 (omega arith) z empty h }

  -- row r, as it was read
  module _ (r : ℕ) (row : code.Row) (l : r < (sizes_of f).m) (read : row_with row (row_at w r).costs ≡ row_at w r) where
    first : row.first ≡ (row_at w r).first_end
    first = ap (λ (x : Row). x.first_end) read

    second : row.second ≡ (row_at w r).second_end
    second = ap (λ (x : Row). x.second_end) read

    pub ends_sound_lem : Sound row.first row.second
    ends_sound_lem =
        let e = a.ends r l in
        let p : row.first ≡ (row_in f r).first_end = first ∙ ap (λ (x : Row). x.first_end) (row_in_lem f r l) in
        let q : row.second ≡ (row_in f r).second_end = second ∙ ap (λ (x : Row). x.second_end) (row_in_lem f r l) in
        record {
          first_some = omega (arith, e.first_low);
          second_some = omega (arith, e.second_low);
          first_low = omega (arith, e.first_low, e.first_high, a.nodes_high);
          second_low = omega (arith, e.second_low, e.second_high, a.nodes_high);
          differ = λ d. e.differ (omega (arith, e.first_low, e.second_low));
        }

    pub filling_next : (p : Weight) (z u : Matrix) → p ≡ weight_of (state_in row.state) → Filling f z r → Agree u (add_held limit z (row.first - 1) (row.second - 1) p) 32 → Filling f u (r + 1)
    filling_next p z u e so added = record {
      left = agree_trans (rest_agree (r + 1) (omega arith) u (add_held limit z (row.first - 1) (row.second - 1) p) added) (rw (sym turn) so.left);
    }
      where
        turn : fill_held limit (graph_in f) r (drop r (states_of w)) z
            ≡ fill_held limit (graph_in f) (r + 1) (drop (r + 1) (states_of w)) (add_held limit z (row.first - 1) (row.second - 1) p)
        turn =
            let i : pred (first_end (graph_of w) r) ≡ row.first - 1 = omega (arith, end_at w (λ x. x.first_end) refl r, first) in
            let j : pred (second_end (graph_of w) r) ≡ row.second - 1 = omega (arith, end_at w (λ x. x.second_end) refl r, second) in
            fill_turn limit (graph_in f) (states_of w) r z (omega (arith, rows_long)) ∙ rw (i, j, state_of_lem w [] r, sym (ap (λ (x : Row). x.state) read), sym e) refl

  pub filling_end : (r : ℕ) (z : Matrix) → (sizes_of f).m ≤ r → Filling f z r → Agree z (fill_held limit (graph_in f) 0 (states_of w) empty) 32
  unfolding fill_held
  filling_end r z l so =
      let e : drop r (states_of w) ≡ [] = drop_of_length-le {A = State} (states_of w) {i = r} (omega (arith, rows_long)) in
      rw e at so.left

  pub trees_counted : (n r : ℕ) (z : Matrix) → n ≡ (sizes_of f).n → Agree z (fill_held limit (graph_in f) 0 (states_of w) empty) 32
      → r ≡ held_total limit 0 1 z (min n 32) → r ≡ min limit (tree_count w)
  trees_counted n r z e h c =
      let k : min n 32 ≡ (sizes_of f).n = omega (arith, a.nodes_high) in
      c ∙ ap (held_total limit 0 1 z) k
      ∙ held_agree limit 0 1 z _ (sizes_of f).n (λ i j l b. h i j l (omega (arith, a.nodes_high))) ∙ counted_is f a
