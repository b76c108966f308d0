-- The path that a sequence of rows makes, as a computation: each row is a step from its entered end to its other end.
use Rattle.std.specs.Prelude.{false, List, [], ◌∷◌, ◌+◌, ◌-◌, ℕ, ltb, get_or}
use Rattle.lists.specs.Lists.{member, pick}
use Rattle.graph.specs.Paths.{Key, place_of}
use Rattle.paths.specs.Path.{entered_by, extended_by}
use Rattle.chart.specs.Chart.{firsts_in, plant_in, seconds_in}

-- the step of a row; asked only of rows with one end entered
unfoldable pub key_by : List ℕ → List ℕ → List ℕ → ℕ → Key
key_by firsts seconds entered r =
    let a = get_or firsts r 0 in
    let b = get_or seconds r 0 in
    pick (member a entered)
    (record { place = place_of entered a; node = b; row = r })
    (record { place = place_of entered b; node = a; row = r })

unfoldable pub trace_from : List ℕ → List ℕ → ℕ → List Key → List ℕ → List Key
trace_from firsts seconds plant keys [] = keys
trace_from firsts seconds plant keys (r ∷ rows) =
    trace_from firsts seconds plant (extended_by keys (key_by firsts seconds (entered_by plant keys) r)) rows

abbrev pub trace_of : List ℕ → List ℕ → ℕ → List ℕ → List Key
trace_of firsts seconds plant rows = trace_from firsts seconds plant [] rows

-- over the rows and the plant of a chart
abbrev pub traced_in : List ℕ → List ℕ → List Key
traced_in c rows = trace_of (firsts_in false c) (seconds_in false c) (plant_in c) rows

-- The same by a table: the entry of a node is the place at which it is first entered, plus 1, and 0 where it is not entered.
-- `first` and `second` are the entries of the row's ends a and b, and i rows come before it.

unfoldable pub end_by : ℕ → ℕ → ℕ → ℕ
end_by first a b = pick (ltb 0 first) b a

unfoldable pub place_by : ℕ → ℕ → ℕ → ℕ
place_by first second i = pick (ltb 0 first) (first - 1) (pick (ltb 0 second) (second - 1) (i + 1))

-- the entry of the node that the row enters, from its entry so far
unfoldable pub entry_after : ℕ → ℕ → ℕ
entry_after entry i = pick (ltb 0 entry) entry (i + 2)
