-- The chart of the drawn rows alone, made from a chart c of all rows: `drawn` says of each row whether it is drawn, and every other row is entered as a barred one.
use Rattle.std.specs.Prelude.{Bool, false, List, [], map, ℕ, get_or}
use Rattle.lists.specs.Lists.{member, pick, range}
use Rattle.costs.specs.Network.{Row, barred, no_row, «open»}
use Rattle.chart.specs.Chart.{begun_by, count_in, entered_down, limit_in, nodes_in, plant_in, rows_in, width_in}

-- which of the rows that a chart has a place for are drawn
unfoldable pub marks_of : List ℕ → List Bool
marks_of rows = map (λ r. member r rows) (range 0 256)

abbrev pub only_row : Row → Bool → Row
only_row row drawn = record { first_end = row.first_end; second_end = row.second_end; street = 0; state = pick drawn «open» barred; costs = [] }

unfoldable pub only_rows : List ℕ → List Bool → List Row
only_rows c drawn = map (λ r. only_row (get_or (rows_in c) r no_row) (get_or drawn r false)) (range 0 (count_in c))

-- what is made of a chart d that is empty
unfoldable pub only_on : List ℕ → List Bool → List ℕ → List ℕ
unfolding only_rows
only_on c drawn d = entered_down (only_rows c drawn) (count_in c) (begun_by d (limit_in c) (plant_in c) (nodes_in c) (width_in c) (count_in c))
