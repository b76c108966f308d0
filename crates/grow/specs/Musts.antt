-- Growing a path that must have the must rows of a chart, as a computation, and whether rows have them. A node is claimed if must rows lead to it: only a must row
-- may enter it.
use Rattle.std.specs.Prelude.{Bool, List, [], suc, zero, ℕ, eqb, get_or}
use Rattle.std.proofs.Math.Bool.{false, true}
use Rattle.std.proofs.Math.Option.{Option, none, some}
use Rattle.lists.specs.Lists.{has_all, pick}
use Rattle.graph.specs.Paths.{Key, follows}
use Rattle.words.specs.Words.{bit, minus}
use Rattle.chart.specs.Chart.{limit_in, musts_in, near_in, nodes_in, plant_in, width_in}
use Rattle.spread.specs.Spread.{open_at, seeds_of, spread_of}
use Rattle.search.specs.Search.{step_in}
use Rattle.paths.specs.Path.{entered_by, extended_by}
use Rattle.grow.specs.Grow.{fresh_after, kept}

-- of two steps that may be missing, the one that comes first
abbrev pub earlier_of : Option Key → Option Key → Option Key
earlier_of none b = b
earlier_of (some a) none = some a
earlier_of (some a) (some b) = pick (follows b a) (some b) (some a)

module _ (c : List ℕ) where
  -- the nodes that must rows lead to
  unfoldable pub claimed_of : ℕ → List ℕ → ℕ → ℕ → ℕ
  claimed_of fresh entered place node = spread_of (near_in true c) (limit_in c) fresh (seeds_of (near_in true c) fresh entered place node)

  -- the first step by any row to a node that is not claimed, or by a must row
  unfoldable pub claiming_of : ℕ → List ℕ → ℕ → ℕ → Option Key
  unfolding claimed_of
  claiming_of fresh entered place node =
      earlier_of (step_in c false (minus fresh (claimed_of fresh entered place node)) entered place node) (step_in c true fresh entered place node)

  -- where no must row leads to a fresh node (the word of 0 has all ends of must rows), none is claimed
  unfoldable pub accepted_of : ℕ → List ℕ → ℕ → ℕ → Option Key
  unfolding claiming_of open_at
  accepted_of fresh entered place node = pick (eqb (open_at (near_in true c) fresh 0) 0) (step_in c false fresh entered place node) (claiming_of fresh entered place node)

  -- at most `steps` such steps, one after the other, from the bound (place, node) on
  unfoldable pub grow_with : ℕ → ℕ → ℕ → List Key → ℕ → ℕ → List Key
  grow_with plant zero fresh keys place node = keys
  grow_with plant (suc steps) fresh keys place node = elim (accepted_of fresh (entered_by plant keys) place node) [
    | none ↦ keys
    | some k ↦ grow_with plant steps (minus fresh (bit k.node)) (extended_by keys (kept k)) k.place k.node
  ]

  -- the first path of all: such steps from the plant on
  abbrev pub first_of : List Key
  first_of = grow_with (plant_in c) (width_in c) (fresh_after (nodes_in c) (entered_by (plant_in c) [])) [] 0 0

  -- whether all must rows are among the rows; where the word of 0 is empty there is none
  unfoldable pub musts_met : List ℕ → Bool
  musts_met rows = pick (eqb (get_or (near_in true c) 0 0) 0) true (has_all (musts_in c) rows)
