-- What growing a path by first steps is said with, and whether a step can be skipped, as a computation.
-- `c` is a chart; `nodes` and `fresh` are words: all nodes, and those not entered.
use Rattle.std.specs.Prelude.{Bool, false, List, [], ◌∷◌, ◌%◌, ℕ}
use Rattle.graph.specs.Paths.{Key}
use Rattle.words.specs.Words.{bit, has, minus}
use Rattle.chart.specs.Chart.{limit_in, near_in}
use Rattle.spread.specs.Spread.{seeds_of, spread_of}
use Rattle.paths.specs.Path.{entered_by}

-- a step as a path keeps it: its place in a byte and its row in two
abbrev pub kept : Key → Key
kept k = record { place = k.place % 256; node = k.node; row = k.row % 65536 }

-- the nodes but these
unfoldable pub fresh_after : ℕ → List ℕ → ℕ
fresh_after nodes [] = nodes
fresh_after nodes (v ∷ vs) = fresh_after (minus nodes (bit v)) vs

module _ (c : List ℕ) (plant : ℕ) where
  -- whether a node is still reached once the bound is moved up to a step to it from this place
  unfoldable pub open_past : ℕ → List Key → ℕ → ℕ → Bool
  open_past fresh keys place node = has (spread_of (near_in false c) (limit_in c) fresh (seeds_of (near_in false c) fresh (entered_by plant keys) place node)) node
