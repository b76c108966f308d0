-- Costs of rows by tables, and the network that the tables make (`table_of`). Each row is in a street: one more than the number of the street's first row, so that a row
-- of no street has a street of its own.
use Rattle.std.specs.Prelude.{List, [], ◌∷◌, map, ◌*◌, ◌+◌, ◌-◌, suc, ℕ, eqb, ltb, get_or, take}
use Rattle.lists.specs.Lists.{filter_b, largest, pick, range, sum}
use Rattle.costs.specs.Network.{Kind, Network, Row, added, closing, «open», worst}

abbrev pub cost_in : List ℕ → ℕ → ℕ → ℕ
cost_in costs c r = get_or costs (c * 256 + r) 0

abbrev pub lead_in : List ℕ → ℕ → ℕ
lead_in leads r = get_or leads r 0

abbrev pub added_in : List ℕ → ℕ → List ℕ → ℕ
added_in costs c rows = sum (map (cost_in costs c) rows)

abbrev pub worst_in : List ℕ → ℕ → List ℕ → ℕ
worst_in costs c rows = largest (map (cost_in costs c) rows)

-- the days that the rows of one street pay
abbrev pub day_in : List ℕ → List ℕ → ℕ → List ℕ → ℕ → ℕ
day_in costs leads c rows lead = largest (map (cost_in costs c) (filter_b (λ r. eqb (lead_in leads r) lead) rows))

-- of each street, at the place of its first row
abbrev pub days_in : List ℕ → List ℕ → ℕ → List ℕ → List ℕ
days_in costs leads c rows = map (day_in costs leads c rows) (range 0 256)

-- each row pays what it costs above the rows behind it in its street
unfoldable pub closing_in : List ℕ → List ℕ → ℕ → List ℕ → ℕ
closing_in costs leads c [] = 0
closing_in costs leads c (r ∷ rows) = closing_in costs leads c rows + (cost_in costs c r - day_in costs leads c rows (lead_in leads r))

-- the kind that a byte names: 0 added, 1 the worst, any other closing
abbrev pub kind_of : ℕ → Kind
kind_of b = pick (eqb b 0) added (pick (eqb b 1) worst closing)

abbrev pub kind_cost : ℕ → List ℕ → List ℕ → ℕ → List ℕ → ℕ
kind_cost kind costs leads c rows = pick (eqb kind 0) (added_in costs c rows) (pick (eqb kind 1) (worst_in costs c rows) (closing_in costs leads c rows))

abbrev pub component_in : List ℕ → ℕ → List ℕ → List ℕ → List ℕ → ℕ → ℕ
component_in kinds k costs leads rows c = pick (ltb c k) (kind_cost (get_or kinds c 0) costs leads c rows) 0

-- the cost vector with four places; those past the last criterion are 0
unfoldable pub vector_in : List ℕ → ℕ → List ℕ → List ℕ → List ℕ → List ℕ
vector_in kinds k costs leads rows = map (component_in kinds k costs leads rows) (0 ∷ 1 ∷ 2 ∷ 3 ∷ [])

-- The network of the tables

abbrev pub table_row : List ℕ → List ℕ → ℕ → Row
table_row costs leads r =
    record { first_end = 0; second_end = 0; street = suc (lead_in leads r); state = «open»; costs = map (λ c. cost_in costs c r) (range 0 256) }

unfoldable pub table_of : List ℕ → ℕ → List ℕ → List ℕ → Network
table_of kinds k costs leads = record { node_count = 0; kinds = map kind_of (take k kinds); rows = map (table_row costs leads) (range 0 256) }
