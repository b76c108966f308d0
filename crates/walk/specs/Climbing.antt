-- Whether the steps of a path are legal, each behind the one before it, as a computation over a chart.
use Rattle.std.specs.Prelude.{Bool, false, true, List, [], ◌++◌, ◌∷◌, ℕ, ltb, get_or, length}
use Rattle.lists.specs.Lists.{both}
use Rattle.graph.specs.Paths.{Key, follows}
use Rattle.words.specs.Words.{bit, has, minus}
use Rattle.chart.specs.Chart.{firsts_in, nodes_in, seconds_in}
use Rattle.search.specs.Search.{joins_at}

-- a step by its place and node alone
abbrev pub key_at : ℕ → ℕ → Key
key_at place node = record { place = place; node = node; row = 0 }

module _ (c : List ℕ) where
  -- the row of the step k leads from the pivot to a fresh node, and it comes behind this place and node
  unfoldable pub legal_by : ℕ → ℕ → ℕ → ℕ → Key → Bool
  legal_by fresh place node pivot k =
      both (has fresh k.node) (both (joins_at (firsts_in false c) (seconds_in false c) k.row pivot k.node) (follows (key_at place node) k))

  -- each step is such a one, from a pivot that is entered; `entered` are the nodes entered, by place, `fresh` the others, and the last step is at this place and node
  unfoldable pub climbs_from : ℕ → List ℕ → ℕ → ℕ → List Key → Bool
  climbs_from fresh entered place node [] = true
  climbs_from fresh entered place node (k ∷ keys) =
      both (ltb k.place (length entered))
      (both (legal_by fresh place node (get_or entered k.place 0) k)
      (climbs_from (minus fresh (bit k.node)) (entered ++ (k.node ∷ [])) k.place k.node keys))

  -- from the plant on
  unfoldable pub climbs_in : ℕ → List Key → Bool
  climbs_in plant keys = climbs_from (minus (nodes_in c) (bit plant)) (plant ∷ []) 0 0 keys
