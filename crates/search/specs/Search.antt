-- The nested search for the first legal step of a growing path, over places, nodes and rows, resumed at a bound.
-- `nb` are the neighbours of each node and `fresh` the nodes not yet entered, as words, `heads` says from which row on the rows of two nodes are tried, and `firsts` and
-- `seconds` are the ends of the rows. `step_in` is the search over a chart.
use Rattle.std.specs.Prelude.{None, Some, Bool, ◌&&◌, ◌||◌, List, ◌-◌, suc, zero, ℕ, eqb, ltb, get_or, length}
use Rattle.std.specs.declared.option.Option as code
use Rattle.std.proofs.Math.Option.{Option, none, some}
use Rattle.lists.specs.Lists.{pick}
use Rattle.graph.specs.Paths.{Key}
use Rattle.words.specs.Words.{has}
use Rattle.chart.specs.Chart.{firsts_in, head_in, limit_in, near_in, seconds_in}
use Rattle.spread.specs.Spread.{open_at}
use Rattle.search.specs.declared.Step.{Step}

-- the key of a step in the code, and what it found
abbrev pub key_of : Step → Key
key_of s = record { place = s.place; node = s.node; row = s.row }

abbrev pub found_of : code.Option Step → Option Key
found_of (Some s) = some (key_of s)
found_of None = none

abbrev pub or_else : {A : Type 0} → Option A → Option A → Option A
or_else none b = b
or_else (some a) b = some a

-- the first answer of f at i, i + 1, .., k numbers in all
unfoldable pub first_from : {A : Type 0} → (ℕ → Option A) → ℕ → ℕ → Option A
first_from f zero i = none
first_from f (suc k) i = or_else (f i) (first_from f k (suc i))

-- row r joins u and v
unfoldable pub joins_at : List ℕ → List ℕ → ℕ → ℕ → ℕ → Bool
joins_at firsts seconds r u v = (eqb (get_or firsts r 0) u && eqb (get_or seconds r 0) v) || (eqb (get_or firsts r 0) v && eqb (get_or seconds r 0) u)

unfoldable pub row_try : List ℕ → List ℕ → ℕ → ℕ → ℕ → ℕ → Option Key
unfolding joins_at
row_try firsts seconds i pivot node r = pick (joins_at firsts seconds r pivot node) (some (record { place = i; node = node; row = r })) none

-- the step to node j + 1, if that is open
unfoldable pub node_try : List ℕ → (ℕ → ℕ → ℕ) → List ℕ → List ℕ → ℕ → ℕ → ℕ → ℕ → Option Key
unfolding has open_at first_from row_try
node_try nb heads firsts seconds fresh i pivot j =
    let head = heads pivot (suc j) in
    pick (has (open_at nb fresh pivot) (suc j)) (first_from (row_try firsts seconds i pivot (suc j)) (length firsts - head) head) none

-- the step from place i to a node above j, at most the limit
unfoldable pub place_try : List ℕ → (ℕ → ℕ → ℕ) → List ℕ → List ℕ → ℕ → ℕ → List ℕ → ℕ → ℕ → Option Key
unfolding first_from node_try
place_try nb heads firsts seconds limit fresh entered i j = first_from (node_try nb heads firsts seconds fresh i (get_or entered i 0)) (limit - j) j

-- at the bound's place from the bound's node on, then at the later places
unfoldable pub first_step_of : List ℕ → (ℕ → ℕ → ℕ) → List ℕ → List ℕ → ℕ → ℕ → List ℕ → ℕ → ℕ → Option Key
unfolding first_from place_try
first_step_of nb heads firsts seconds limit fresh entered place node = pick (ltb place (length entered))
    (or_else (place_try nb heads firsts seconds limit fresh entered place node)
    (first_from (λ i. place_try nb heads firsts seconds limit fresh entered i 0) (length entered - suc place) (suc place)))
    none

-- over a chart, by any row or by must rows
abbrev pub step_in : List ℕ → Bool → ℕ → List ℕ → ℕ → ℕ → Option Key
step_in c must = first_step_of (near_in must c) (head_in c) (firsts_in must c) (seconds_in must c) (limit_in c)
