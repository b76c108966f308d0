-- The walk over the paths that have all must rows, as a computation: the first such path, and the next behind all that begin alike. A step by a must row is not skipped.
-- `c` is a chart, `plant` the plant of the path that is given.
use Rattle.std.specs.Prelude.{None, Some, List, map, ◌-◌, ◌%◌, min, suc, zero, ℕ, eqb, get_or, length, take}
use Rattle.std.specs.declared.option.Option as code
use Rattle.std.proofs.Math.Option.{Option, none, some}
use Rattle.std.proofs.Math.Bool.{true}
use Rattle.std.specs.Int.Bits.{bit_or}
use Rattle.lists.specs.Lists.{both, pick}
use Rattle.graph.specs.Paths.{Key}
use Rattle.states.specs.States.{must_row}
use Rattle.chart.specs.Chart.{firsts_in, next_in, nodes_in, width_in}
use Rattle.words.specs.Words.{bit, minus}
use Rattle.search.specs.Search.{or_else}
use Rattle.paths.specs.Path.{entered_by, extended_by, keys_of, no_key}
use Rattle.grow.specs.Grow.{fresh_after, open_past}
use Rattle.grow.specs.Musts.{first_of, grow_with, musts_met}
use Rattle.paths.specs.declared.Path.{Path}

-- what the code answers for a path that may be missing
abbrev pub next_of : code.Option Path → Option (List Key)
next_of (Some path) = some (keys_of path)
next_of None = none

-- the steps of the path that was found, or else those of the path that was given
abbrev pub path_or : List Key → Option (List Key) → List Key
path_or keys none = keys
path_or keys (some found) = found

module _ (c : List ℕ) (plant : ℕ) where
  -- with the bound moved up to the step k, if its node is still reached then
  unfoldable pub on_of : ℕ → ℕ → List Key → Key → Option (List Key)
  on_of steps fresh keys k =
      pick (open_past c plant fresh keys k.place k.node) (some (grow_with c plant steps fresh keys k.place k.node)) none

  -- by row r, parallel to that of the step k
  unfoldable pub beside_of : ℕ → ℕ → ℕ → List Key → Key → List Key
  beside_of r steps fresh keys k =
      grow_with c plant (steps - 1) (minus fresh (bit k.node)) (extended_by keys (record { place = k.place % 256; node = k.node; row = r })) k.place k.node

  -- The first path behind all that go on from `keys` by the step k: by the next parallel row, or else with the bound moved up to k.
  unfoldable pub skip_of : ℕ → ℕ → List Key → Key → Option (List Key)
  unfolding on_of beside_of
  skip_of steps fresh keys k =
      let next = next_in c k.row in
      pick (must_row (firsts_in true c) k.row) none (pick (eqb next 0) (on_of steps fresh keys k) (some (beside_of next steps fresh keys k)))

  -- back along the first i steps, to the last that can be skipped; `fresh` are the nodes not entered after i steps
  unfoldable pub after_from : ℕ → ℕ → List Key → Option (List Key)
  after_from zero fresh keys = none
  after_from (suc i) fresh keys =
      let k = get_or keys i no_key in
      let wider = bit_or fresh (bit k.node) in
      let back = after_from i wider keys in
      or_else (skip_of (width_in c - i) wider (take i keys) k) back

  -- the first path behind all that begin with the first len steps of keys
  unfoldable pub after_of : List Key → ℕ → Option (List Key)
  after_of keys len =
      let i = min len (length keys) in
      after_from i (fresh_after (nodes_in c) (entered_by plant (take i keys))) keys

-- the first path of all, if it has as many steps as a tree has rows, and all must rows
unfoldable pub first_in : List ℕ → Option (List Key)
first_in c = pick (both (eqb (length (first_of c)) (width_in c)) (musts_met c (map (λ (k : Key). k.row) (first_of c)))) (some (first_of c)) none
