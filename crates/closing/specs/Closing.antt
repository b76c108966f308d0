-- The closing cost of a path's rows as the code counts it, row by row.
use Rattle.std.specs.Prelude.{Bool, List, ℕ, eqb}
use Rattle.lists.specs.Lists.{any, pick}
use Rattle.costs.specs.Costs.{cost_at, street_cost}
use Rattle.costs.specs.Network.{Network, row_at}

-- whether a row lies in the street s
abbrev pub lies_in : Network → ℕ → ℕ → Bool
lies_in g s r = eqb (row_at g r).street s

-- what row r adds to the closing cost of all rows, with the rows behind it: a row of street 0 its cost, the last row of a named street what that street costs,
-- any other row nothing
unfoldable pub closing_step : Network → ℕ → List ℕ → ℕ → List ℕ → ℕ
unfolding any
closing_step g c rows r behind =
    let s = (row_at g r).street in
    pick (eqb s 0) (cost_at g c r) (pick (any (lies_in g s) behind) 0 (street_cost g c rows s))
