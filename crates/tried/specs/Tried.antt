-- Checks 8, 9, 10 and 15 as a computation over a chart c: first steps grow a path over the drawn rows alone, which decides check 10, and every row keeps its state,
-- which is check 15. `drawn` says of each row whether it is drawn.
use Rattle.std.specs.Prelude.{Bool, false, not, List, [], ◌∷◌, ℕ, eqb, ltb, get_or, length, replicate}
use Rattle.lists.specs.Lists.{all, pick, range}
use Rattle.graph.specs.Paths.{Key}
use Rattle.checks.specs.Checks.{Check, Outcome, checked}
use Rattle.costs.specs.Layouts.{is_barred, is_must}
use Rattle.costs.specs.Network.{State, no_row}
use Rattle.paths.specs.Path.{entered_by}
use Rattle.chart.specs.Chart.{count_in, nodes_in, plant_in, rows_in, width_in}
use Rattle.grow.specs.Grow.{fresh_after}
use Rattle.grow.specs.Musts.{grow_with}
use Rattle.operations.specs.Operations.{check}
use Rattle.tried.specs.Answers.{PathSteps}
use Rattle.tried.specs.Only.{marks_of, only_on}

-- the steps of the path that first steps grow over the drawn rows alone, from the plant on
unfoldable pub drawn_keys : List ℕ → List Bool → List Key
drawn_keys c drawn = grow_with (only_on c drawn (replicate 1416 0)) (plant_in c) (width_in c) (fresh_after (nodes_in c) (entered_by (plant_in c) [])) [] 0 0

-- a row of this state keeps it: no barred row is drawn, and a must row is
abbrev pub keeps : State → Bool → Bool
keeps state drawn = pick drawn (not (is_barred state)) (not (is_must state))

unfoldable pub kept_by : List ℕ → List Bool → Bool
kept_by c drawn = all (λ r. keeps (get_or (rows_in c) r no_row).state (get_or drawn r false)) (range 0 (count_in c))

unfoldable pub tried_checks : List ℕ → List ℕ → List Check
tried_checks c rows =
    check 8 (eqb (length rows) (width_in c))
    ∷ check 9 (all (λ r. ltb r (count_in c)) rows)
    ∷ check 10 (eqb (length (drawn_keys c (marks_of rows))) (width_in c))
    ∷ check 15 (kept_by c (marks_of rows))
    ∷ []

unfoldable pub tried_of : List ℕ → List ℕ → Outcome PathSteps
tried_of c rows = checked (tried_checks c rows) (record { plant = plant_in c; keys = drawn_keys c (marks_of rows) })
