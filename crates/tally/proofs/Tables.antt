-- The tables and the network that they make, `table_of`, agree: on the cost and the street of a row (`cost_table`, `street_table`), on the days of a street
-- (`day_table`), on the cost of rows by each kind (`closing_table`, `kind_table`), and on cost vectors and boxes (`vector_table`, `inside_table`).
-- The tables have 256 rows, and the network reads at most 256 criteria.
use mathlib.Core.Path.{◌∙◌, ◌≡◌, ap, ap₂, refl, sym}
use mathlib.Core.Bool.{Bool, false, true}
use mathlib.Core.Option.{some}
use mathlib.Core.List.Memᴰ.{head as here}
use mathlib.Core.List.Memᴰ.{tail as there}
use mathlib.Core.List.{List, [], ◌∷◌, map}
use Prim.Native.Nat.{◌+◌, ◌-◌, ◌<◌, ◌≤◌, suc, zero, ℕ}
use native.Mathlib.Nat.{zero-add}
use native.Mathlib.Omega.{arith}
use lib.Dec.{eqb, eqb-suc-suc, eqb-suc-zero, ltb}
use lib.ListN.{get_or, get_elem?, length, length-map, take}
use lib.Seq.{ext_get_or, get_or-take, length-take-le}
use borrow.Author.Tests.{le-ltb, lt-ltb}
use Rattle.lists.specs.Lists.{both, filter_b, largest, pick, sum}
use Rattle.lists.proofs.Ascending.{at_get_or}
use Rattle.lists.proofs.Maps.{map_at, map_same}
use Rattle.lists.proofs.Members.{◌∈◌, filter_out, filter_same}
use Rattle.lists.proofs.Ranges.{get_or_map_range}
use Rattle.costs.specs.Costs.{closing_cost, cost_at, cost_by, cost_of, street_cost, streets_of}
use Rattle.costs.specs.Network.{Network, Row, added, closing, no_row, row_at, worst}
use Rattle.costs.proofs.Criteria.{kinds_at}
use Rattle.costs.proofs.Networks.{cost_length}
use Rattle.bounds.specs.Bounds.{excess_at}
use Rattle.completions.specs.Boxes.{inside}
use Rattle.completions.proofs.Beside.{closing_beside}
use Rattle.tally.specs.Tally.{added_in, closing_in, component_in, cost_in, day_in, days_in, kind_cost, kind_of, lead_in, table_of, table_row, vector_in, worst_in}

-- every component is below its limit
inside_all : (limits v : List ℕ) → length limits ≡ length v → ((c : ℕ) → c < length v → get_or v c 0 < get_or limits c 0) → inside limits v ≡ true
unfolding inside
inside_all [] [] e h = refl
inside_all [] (y ∷ v) e h = absurd (omega arith)
inside_all (x ∷ limits) [] e h = absurd (omega arith)
inside_all (x ∷ limits) (y ∷ v) e h = rw (lt-ltb y x (h 0 (omega arith))) (inside_all limits v (omega arith) (λ c l. h (suc c) (omega arith)))

-- where those from place k on are, the first k tell
pub inside_take : (k : ℕ) (limits v : List ℕ) → length limits ≡ length v → ((c : ℕ) → k ≤ c → c < length v → get_or v c 0 < get_or limits c 0)
    → inside limits v ≡ inside (take k limits) (take k v)
unfolding inside
inside_take zero limits v e h = inside_all limits v e (λ c l. h c (omega arith) l)
inside_take (suc k) [] [] e h = refl
inside_take (suc k) [] (y ∷ v) e h = absurd (omega arith)
inside_take (suc k) (x ∷ limits) [] e h = absurd (omega arith)
inside_take (suc k) (x ∷ limits) (y ∷ v) e h =
    ap (both (ltb y x)) (inside_take k limits v (omega arith) (λ c l m. h (suc c) (omega arith) (omega arith)))

-- the days of a street, in the table of all
pub days_at : (costs leads : List ℕ) (c : ℕ) (rows : List ℕ) (l : ℕ) → l < 256 → get_or (days_in costs leads c rows) l 0 ≡ day_in costs leads c rows l
days_at costs leads c rows l h = get_or_map_range (day_in costs leads c rows) 256 l 0 h

-- rows that the tables have
abbrev pub Rows : List ℕ → Type 0
Rows rows = (r : ℕ) → r ∈ rows → r < 256

module _ (kinds : List ℕ) (k : ℕ) (costs leads : List ℕ) where
  abbrev w : Network
  w = table_of kinds k costs leads

  row_table : (r : ℕ) → r < 256 → row_at w r ≡ table_row costs leads r
  unfolding table_of
  row_table r h = get_or_map_range (table_row costs leads) 256 r no_row h

  pub cost_table : (c r : ℕ) → r < 256 → c < 256 → cost_at w c r ≡ cost_in costs c r
  cost_table c r h l = ap (λ (row : Row). get_or row.costs c 0) (row_table r h) ∙ get_or_map_range (λ (c : ℕ). cost_in costs c r) 256 c 0 l

  pub street_table : (r : ℕ) → r < 256 → (row_at w r).street ≡ suc (lead_in leads r)
  street_table r h = ap (λ (row : Row). row.street) (row_table r h)

  module _ (c : ℕ) (low : c < 256) where
    costs_table : (rows : List ℕ) → Rows rows → map (cost_at w c) rows ≡ map (cost_in costs c) rows
    costs_table rows h = map_same (cost_at w c) (cost_in costs c) rows (λ r m. cost_table c r (h r m) low)

    -- what a street pays
    pub day_table : (rows : List ℕ) → Rows rows → (l : ℕ) → street_cost w c rows (suc l) ≡ day_in costs leads c rows l
    day_table rows h l =
        ap (λ (x : List ℕ). largest (map (cost_at w c) x)) (filter_same (λ r. eqb (row_at w r).street (suc l)) (λ r. eqb (lead_in leads r) l) rows
        (λ r m. ap (λ (s : ℕ). eqb s (suc l)) (street_table r (h r m)) ∙ eqb-suc-suc (lead_in leads r) l))
        ∙ ap largest (costs_table (filter_b (λ r. eqb (lead_in leads r) l) rows) (λ r m. h r (filter_out (λ r. eqb (lead_in leads r) l) rows m).0))

    -- what a row more adds
    more_table : (rows : List ℕ) → Rows rows → (r : ℕ) → r < 256 → excess_at w c rows r ≡ cost_in costs c r - day_in costs leads c rows (lead_in leads r)
    more_table rows h r b = rw (street_table r b, eqb-suc-zero (lead_in leads r))
        (ap₂ (λ (x y : ℕ). x - y) (cost_table c r b low) (day_table rows h (lead_in leads r)))

    pub closing_table : (rows : List ℕ) → Rows rows → closing_cost w c rows ≡ closing_in costs leads c rows
    unfolding closing_in streets_of filter_b sum
    closing_table [] h = refl
    closing_table (r ∷ rows) h =
        closing_beside w c rows r
        ∙ ap₂ (λ (x y : ℕ). x + y) (closing_table rows (λ q m. h q (there m))) (more_table rows (λ q m. h q (there m)) r (h r (here refl)))

    pub kind_table : (rows : List ℕ) → Rows rows → (b : ℕ) → cost_by (kind_of b) w c rows ≡ kind_cost b costs leads c rows
    kind_table rows h b = by (eqb b 0) (eqb b 1)
      where
        by : (x y : Bool)
            → cost_by (pick x added (pick y worst closing)) w c rows ≡ pick x (added_in costs c rows) (pick y (worst_in costs c rows) (closing_in costs leads c rows))
        by true y = ap sum (costs_table rows h)
        by false true = ap largest (costs_table rows h)
        by false false = closing_table rows h

  -- Cost vectors

  module _ (rows : List ℕ) where
    abbrev vec : List ℕ
    vec = vector_in kinds k costs leads rows

    pub vector_length : length vec ≡ 4
    unfolding vector_in
    vector_length = refl

    pub vector_at : (c : ℕ) → c < 4 → get_or vec c 0 ≡ component_in kinds k costs leads rows c
    unfolding vector_in
    vector_at zero b = refl
    vector_at (suc zero) b = refl
    vector_at (suc (suc zero)) b = refl
    vector_at (suc (suc (suc zero))) b = refl
    vector_at (suc (suc (suc (suc c)))) b = absurd (omega arith)

    module _ (h : Rows rows) (few : k ≤ 4) (four : length kinds ≡ 4) where
      kinds_long : length (map kind_of (take k kinds)) ≡ k
      kinds_long = length-map (take k kinds) kind_of ∙ length-take-le k kinds (omega arith)

      -- the byte of a criterion names its kind
      pub kind_at_lem : (c : ℕ) → c < k → get_elem? (map kind_of (take k kinds)) c ≡ some (kind_of (get_or kinds c 0))
      kind_at_lem c b =
          at_get_or (map kind_of (take k kinds)) c added (omega (arith, kinds_long))
          ∙ ap {B = _} some (map_at kind_of (take k kinds) c 0 added (omega (arith, length-take-le k kinds (omega arith))) ∙ ap kind_of (get_or-take k kinds c 0 b))

      component_table : (c : ℕ) → c < k → component_in kinds k costs leads rows c ≡ get_or (cost_of w rows) c 0
      unfolding cost_of table_of
      component_table c b =
          rw (lt-ltb c k b) (sym (kinds_at (λ kind c. cost_by kind w c rows) 0 (map kind_of (take k kinds)) c (kind_of (get_or kinds c 0)) (kind_at_lem c b)
          ∙ ap (λ (i : ℕ). cost_by (kind_of (get_or kinds c 0)) w i rows) (zero-add c) ∙ kind_table c (omega arith) rows h (get_or kinds c 0)))

      costs_long : length (cost_of w rows) ≡ k
      unfolding table_of
      costs_long = cost_length w rows ∙ kinds_long

      pub vector_table : take k vec ≡ cost_of w rows
      vector_table =
          let long : length (take k vec) ≡ k = length-take-le k vec (omega (arith, vector_length)) in
          ext_get_or 0 (take k vec) (cost_of w rows) (long ∙ sym costs_long)
          (λ c b. get_or-take k vec c 0 (omega arith) ∙ vector_at c (omega arith) ∙ component_table c (omega arith))

      -- the limits past the last criterion hold nothing back
      pub inside_table : (limits : List ℕ) → length limits ≡ 4 → ((c : ℕ) → k ≤ c → c < 4 → 0 < get_or limits c 0)
          → inside limits vec ≡ inside (take k limits) (cost_of w rows)
      inside_table limits long past =
          inside_take k limits vec (long ∙ sym vector_length) (λ c b l. below c b (omega (arith, vector_length)))
          ∙ ap (inside (take k limits)) vector_table
        where
          below : (c : ℕ) → k ≤ c → c < 4 → get_or vec c 0 < get_or limits c 0
          below c b l = rw (vector_at c l, le-ltb c k b) (past c b l)
