-- What check 18 says: two networks have one shape exactly if they have the same nodes and kinds, and the same rows but for their costs (`shape_exactly`).
use mathlib.Core.Path.{◌≡◌, ap, ap₂, refl}
use mathlib.Core.Logic.{◌↔◌}
use mathlib.Core.List.{List, [], ◌∷◌, map}
use native.Mathlib.Omega.{arith}
use lib.Dec.{T, eqb, eqb→eq}
use lib.ListN.{drop, get_or, length}
use Rattle.lists.proofs.Tests.{T-both, eq→eqb}
use Rattle.costs.specs.Network.{Network, Row, State, barred, must, «open»}
use Rattle.network_file.specs.Bytes.{state_number}
use Rattle.network_file.specs.Frames.{same_frame}
use Rattle.network_file.proofs.Frames.{frame_exactly}
use Rattle.ranges.specs.Calls.{same_but_costs, same_rows, same_shape}

-- a row without its costs
abbrev pub uncosted : Row → Row
uncosted r = record { first_end = r.first_end; second_end = r.second_end; street = r.street; state = r.state; costs = [] }

-- a state has a number of its own
state_back : (s t : State) → state_number s ≡ state_number t → s ≡ t
state_back «open» «open» e = refl
state_back «open» must e = absurd (omega arith)
state_back «open» barred e = absurd (omega arith)
state_back must «open» e = absurd (omega arith)
state_back must must e = refl
state_back must barred e = absurd (omega arith)
state_back barred «open» e = absurd (omega arith)
state_back barred must e = absurd (omega arith)
state_back barred barred e = refl

row_exactly : (x y : Row) → T (same_but_costs x y) ↔ (uncosted x ≡ uncosted y)
row_exactly x y = (
  λ t.
      let (a, t) = (T-both (eqb x.first_end y.first_end) _).0 t in
      let (b, t) = (T-both (eqb x.second_end y.second_end) _).0 t in
      let (c, d) = (T-both (eqb x.street y.street) (eqb (state_number x.state) (state_number y.state))).0 t in
      rw (eqb→eq _ _ a, eqb→eq _ _ b, eqb→eq _ _ c, state_back x.state y.state (eqb→eq _ _ d)) refl,
  λ e. (T-both (eqb x.first_end y.first_end) _).1 (
    eq→eqb _ _ (ap (λ (r : Row). r.first_end) e),
    (T-both (eqb x.second_end y.second_end) _).1 (
      eq→eqb _ _ (ap (λ (r : Row). r.second_end) e),
      (T-both (eqb x.street y.street) (eqb (state_number x.state) (state_number y.state))).1
          (eq→eqb _ _ (ap (λ (r : Row). r.street) e), eq→eqb _ _ (ap (λ (r : Row). state_number r.state) e)),
    ),
  ),
)

pub rows_exactly : (k l : List Row) → T (same_rows k l) ↔ (map uncosted k ≡ map uncosted l)
unfolding same_rows
rows_exactly [] [] = (λ t. refl, λ e. tt)
rows_exactly [] (y ∷ l) = (λ t. absurd t, λ e. absurd (omega (arith, ap length e)))
rows_exactly (x ∷ k) [] = (λ t. absurd t, λ e. absurd (omega (arith, ap length e)))
rows_exactly (x ∷ k) (y ∷ l) = (
  λ t.
      let (a, b) = (T-both (same_but_costs x y) (same_rows k l)).0 t in
      ap₂ ◌∷◌ ((row_exactly x y).0 a) ((rows_exactly k l).0 b),
  λ e. (T-both (same_but_costs x y) (same_rows k l)).1 (
    (row_exactly x y).1 (ap (λ (m : List Row). get_or m 0 (uncosted x)) e),
    (rows_exactly k l).1 (ap (λ (m : List Row). drop 1 m) e),
  ),
)

-- SHAPE
pub shape_exactly : (v w : Network) → T (same_shape v w)
    ↔ ((v.node_count ≡ w.node_count) × (v.kinds ≡ w.kinds) × (map uncosted v.rows ≡ map uncosted w.rows))
unfolding same_shape
shape_exactly v w = (
  λ t.
      let (a, b) = (T-both (same_frame v w) (same_rows v.rows w.rows)).0 t in
      let (nodes, kinds) = (frame_exactly v w).0 a in
      (nodes, kinds, (rows_exactly v.rows w.rows).0 b),
  λ (nodes, kinds, rows). (T-both (same_frame v w) (same_rows v.rows w.rows)).1
      ((frame_exactly v w).1 (nodes, kinds), (rows_exactly v.rows w.rows).1 rows),
)
