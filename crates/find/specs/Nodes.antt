-- What the functions below `find` answer with: flags of which some are cleared (`Sifted`), and what a choice says of a node (`Judges`).
use Rattle.std.specs.Prelude.{◌≡◌, ◌⊎◌, List, ◌++◌, ◌+◌, ◌<◌, ◌≤◌, suc, ℕ, T, get_or, length, take}
use Rattle.std.proofs.Math.Option.{none}
use Rattle.lists.specs.Lists.{filter_b, range, sort}
use Rattle.lists.proofs.Members.{◌∈◌, ◌⊆◌}
use Rattle.graph.specs.Graph.{Graph}
use Rattle.costs.specs.Costs.{cost_of}
use Rattle.costs.specs.Network.{Network}
use Rattle.completions.specs.Boxes.{inside}
use Rattle.completions.specs.Greedy.{greedy}
use Rattle.completions.specs.Labels.{labels_of}
use Rattle.completions.proofs.Find.{Answers, Inside}
use Rattle.chosen.specs.Chosen.{is_on, rows_of, rows_on}
use Rattle.tally.specs.Tally.{kind_cost, vector_in}
use Rattle.orders.specs.Orders.{key_less}
use Rattle.find.specs.declared.Judged.{Judged}
use Rattle.find.specs.declared.Judged.TheVariants.{Closed, Open, Tree}
use Rattle.find.specs.Find.{Node, Tables, graph_in}

-- flags of which those of some bad rows are cleared
pub record Sifted (Bad : ℕ → Type 0) (flags next : List ℕ) : Type 0 where
  pub size : length next ≡ length flags
  pub each : (r : ℕ) → (get_or next r 0 ≡ get_or flags r 0) ⊎ ((get_or next r 0 ≡ 0) × Bad r)

-- the rows reach the limit of a criterion
abbrev pub Reached : List ℕ → ℕ → List ℕ → List ℕ → List ℕ → List ℕ → Type 0
Reached kinds k costs leads limits rows = (c : ℕ) × (c < k) × (c < 4) × (get_or limits c 0 ≤ kind_cost (get_or kinds c 0) costs leads c rows)

-- the usable rows, sorted by weights
abbrev pub rows_by : List ℕ → List ℕ → List ℕ
rows_by weights flags = filter_b (is_on flags) (sort (key_less weights) (rows_on flags))

-- a node with the labels of its parts, and how many rows it lacks
pub record Given (firsts seconds : List ℕ) (limit k : ℕ) (limits inc flags : List ℕ) (need : ℕ) (labels : List ℕ) : Type 0 where
  pub tables : Tables firsts seconds limit k
  pub node : Node (graph_in firsts seconds limit) k limits inc flags
  pub labelled : labels ≡ labels_of firsts seconds (range 0 33) inc
  pub lacks : suc (length inc + need) ≡ limit

-- What the lightest choice says of a node: no tree of it is inside, this one is, or neither; then the rows are a whole choice among the usable rows, which is not inside.
abbrev pub Judges : Graph → Network → List ℕ → List ℕ → List ℕ → Judged → Type 0
Judges g w limits inc us Closed = Answers g w limits inc us none
Judges g w limits inc us (Tree rows) = Inside g w limits inc us (rows_of rows)
Judges g w limits inc us (Open rows factors) = (seq : List ℕ) × (seq ⊆ us) × (rows_of rows ≡ greedy g inc seq) × (¬ T (inside limits (cost_of w (inc ++ rows_of rows))))

-- on every input: rows that settle nothing are as many as are needed, and their flags are set
abbrev pub Usable : List ℕ → ℕ → Judged → Type 0
Usable flags need Closed = Unit {0}
Usable flags need (Tree rows) = Unit {0}
Usable flags need (Open rows factors) = (length (rows_of rows) ≡ need) × ((r : ℕ) → r ∈ rows_of rows → r ∈ rows_on flags)

-- what a whole choice says: with the rows that are in it is inside the limits, or it is not
abbrev pub Settles : List ℕ → ℕ → List ℕ → List ℕ → List ℕ → List ℕ → List ℕ → Judged → Type 0
Settles kinds k costs leads limits inc chosen Closed = ⊥
Settles kinds k costs leads limits inc chosen (Tree rows) =
    T (inside limits (vector_in kinds k costs leads (take 31 (inc ++ chosen)))) × (rows_of rows ≡ take 31 (inc ++ chosen))
Settles kinds k costs leads limits inc chosen (Open rows factors) =
    (¬ T (inside limits (vector_in kinds k costs leads (take 31 (inc ++ chosen))))) × (rows_of rows ≡ chosen)
