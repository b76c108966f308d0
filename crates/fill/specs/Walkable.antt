-- What filling a page is given: a chart that is right, of a graph with a node besides the plant, and with a tree in its list (`Walkable`), and what comes first
-- behind a start (`Comes`, `Begins`); what the code answers (`filled_of`), and what filling comes to: a page filled with the trees that are left (`filled_by`).
use Rattle.std.specs.Prelude.{IfSome, ◌≡◌, List, ◌<◌, ℕ}
use Rattle.std.specs.declared.option.Option as code
use Rattle.std.proofs.Math.Option.{Option, none, some}
use Rattle.std.proofs.Math.ListN.{get_elem?}
use Rattle.lists.proofs.Members.{◌∈◌}
use Rattle.checks.specs.Checks.{Ended, answered}
use Rattle.chart.proofs.Charts.{Charts}
use Rattle.chart.specs.Chart.{graph_in, list_in, musts_in, plant_in, width_in}
use Rattle.graph.proofs.Growth.{rows_of, start}
use Rattle.graph.specs.Paths.{Key}
use Rattle.operations.specs.Operations.{Paged}
use Rattle.pages.specs.Pages.{more_after, page_after, page_count, rest_after}
use Rattle.paths.specs.Path.{plant_of}
use Rattle.paths.specs.declared.Path.{Path}
use Rattle.states.proofs.Full.{Full}
use Rattle.walk.specs.Walk.{next_of}
use Rattle.fill.specs.declared.Filled.{Filled}

-- the chart of a graph whose trees can be listed
pub record Walkable (c : List ℕ) : Type 0 where
  pub right : Charts c
  pub several : 0 < width_in c
  pub tree : List ℕ
  pub listed : tree ∈ list_in c

-- a path with all must rows and these rows, or there is none
abbrev pub Comes : List ℕ → Option (List Key) → Option (List ℕ) → Type 0
Comes c none rows = rows ≡ none
Comes c (some keys) rows = (rows ≡ some (rows_of keys)) × Full (graph_in c) (start (graph_in c)) (musts_in c) keys

-- what comes first behind a start
pub record Begins (c begin : List ℕ) (next : code.Option Path) : Type 0 where
  pub plant : IfSome next (λ path. plant_of path ≡ plant_in c)
  pub comes : Comes c (next_of next) (get_elem? (rest_after (list_in c) begin) 0)

-- the code's answer in document 01's terms
abbrev pub filled_of : Filled → Paged
filled_of r = record { count = r.count; more = r.more }

-- a page of w places a tree, filled with the trees that are left
abbrev pub filled_by : ℕ → List ℕ → List (List ℕ) → Ended Paged (List ℕ)
filled_by w page rest = record { outcome = answered (record { count = page_count w page rest; more = more_after w page rest }); buffers = page_after w page rest }
