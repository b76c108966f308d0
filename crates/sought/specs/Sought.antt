-- What the search for the front works on: a chart and the tables of its graph (`Ready`), and the trees of the chart's list, whose front is sought. The search takes the chart's ends
-- as arrays (`Copied`). A witness is the first path inside limits (`First`).
use Rattle.std.specs.Prelude.{◌≡◌, false, true, List, [], ◌∷◌, map, ◌%◌, ◌*◌, min, suc, ℕ, T, Option as Maybe, ltb, get_or, take}
use Rattle.std.proofs.Math.Option.{none}
use Rattle.lists.specs.Lists.{pick, range}
use Rattle.costs.specs.Costs.{cost_of, front_trees, front_vectors}
use Rattle.costs.specs.Network.{Network}
use Rattle.network_file.specs.File.{Sizes}
use Rattle.listed.proofs.Answers.{Listing}
use Rattle.lists.proofs.Members.{◌∈◌}
use Rattle.completions.specs.Boxes.{inside}
use Rattle.completions.proofs.Least.{Lowered, Open, Region}
use Rattle.completions.proofs.Witness.{Fine, NoneBefore}
use Rattle.chart.specs.Chart.{firsts_in, graph_in, limit_in, list_in, musts_in, seconds_in}
use Rattle.chart.proofs.Charts.{Charts}
use Rattle.chosen.specs.Chosen.{rows_on}
use Rattle.tally.specs.Tally.{table_of}
use Rattle.find.specs.Find.{Tables}
use Rattle.find.specs.Find as find
use Rattle.costing.specs.Costing.{free_in, tops}
use Rattle.least.specs.Least.{Ground, OnGround, known_rows, least_of}
use Rattle.paths.specs.Path.{rows_in}
use Rattle.paths.specs.declared.Path.{Path}

-- a list of bytes in an array of 256 places; 0 past its end
unfoldable pub padded : List ℕ → List ℕ
padded l = map (λ r. get_or l r 0) (range 0 256)

-- the ends of a chart's rows, and the first ends of its must rows, in arrays
pub record Copied (c firsts seconds heads : List ℕ) : Type 0 where
  pub first_ends_lem : firsts ≡ padded (firsts_in false c)
  pub second_ends_lem : seconds ≡ padded (seconds_in false c)
  pub must_firsts_lem : heads ≡ padded (firsts_in true c)

-- one above component c of k; past them 1
abbrev pub step_up : ℕ → ℕ → ℕ → ℕ
step_up k c x = pick (ltb c k) (min (suc x) 33554432) 1

-- the limits one above a vector
unfoldable pub up_from : ℕ → List ℕ → List ℕ
up_from k v = step_up k 0 (get_or v 0 0) ∷ step_up k 1 (get_or v 1 0) ∷ step_up k 2 (get_or v 2 0) ∷ step_up k 3 (get_or v 3 0) ∷ []

-- a vector in words of 32 bits
abbrev pub word : ℕ → ℕ
word x = x % 4294967296

unfoldable pub row_of : List ℕ → List ℕ
row_of v = word (get_or v 0 0) ∷ word (get_or v 1 0) ∷ word (get_or v 2 0) ∷ word (get_or v 3 0) ∷ []

-- a chart that is right, and tables of the search that are of its graph and its must rows
pub record Ready (c firsts seconds heads : List ℕ) (k : ℕ) : Type 0 where
  pub right : Charts c
  pub tables : Tables firsts seconds (limit_in c) k
  pub graph_is : find.graph_in firsts seconds (limit_in c) ≡ graph_in c
  pub musts_are : rows_on heads ≡ musts_in c

module _ (c kinds : List ℕ) (k : ℕ) (prices leads : List ℕ) where
  abbrev pub sought_network : Network
  sought_network = table_of kinds k prices leads

  abbrev pub FineIn : List ℕ → List ℕ → Type 0
  FineIn limits p = Fine (graph_in c) sought_network (musts_in c) (take k limits) p

  -- some path is inside the limits
  abbrev pub Wanted : List ℕ → Type 0
  Wanted limits = (q : List ℕ) × FineIn limits q

  -- the first path inside the limits
  pub record First (limits : List ℕ) (path : Path) : Type 0 where
    pub fine : FineIn limits (rows_in path)
    pub none_before : NoneBefore (graph_in c) sought_network (musts_in c) (take k limits) (rows_in path)

  -- the front of the list, and beside each of its vectors the first tree that has it
  abbrev pub sought_front : List (List ℕ)
  sought_front = front_vectors sought_network (list_in c)

  abbrev pub sought_witnesses : List (List ℕ)
  sought_witnesses = front_trees sought_network (list_in c)

-- what no vector is below
abbrev pub lowest : List ℕ
lowest = 0 ∷ 0 ∷ 0 ∷ 0 ∷ []

-- what is sought: with the chart and the tables, rows to search over, all must rows in a sequence of at most 31, and that no vector reaches the limits
pub record Searched (c firsts seconds heads kinds : List ℕ) (k : ℕ) (prices leads : List ℕ) : Type 0 where
  pub ready : Ready c firsts seconds heads k
  pub all_musts : take 31 (rows_on heads) ≡ musts_in c
  pub footing : Ground firsts seconds (limit_in c) k (musts_in c) (free_in firsts seconds heads (limit_in c))
  pub under : (p : List ℕ) → p ∈ list_in c → T (inside (take k tops) (cost_of (table_of kinds k prices leads) p))

-- what the search for the next row answers, where `count` rows of k places are known
abbrev pub NextOf : List ℕ → List ℕ → ℕ → List ℕ → ℕ → List ℕ → List ℕ → List ℕ → List ℕ → List ℕ → ℕ → Maybe (List ℕ) → Type 0
NextOf firsts seconds limit kinds k prices leads musts free costs count r =
    OnGround firsts seconds limit kinds k prices leads musts free tops
    (λ Of. Lowered Of (Open (known_rows k (take (count * k) costs)) (take k tops)) (Region (known_rows k (take (count * k) costs)) lowest (take k tops)) none (least_of k r))

-- what is handed on of a file that has a tree: its chart, and how many criteria it has
pub record Laid (f c : List ℕ) (k : ℕ) : Type 0 where
  pub sizes : Sizes
  pub listing : Listing f sizes c
  pub criteria : k ≡ sizes.k
