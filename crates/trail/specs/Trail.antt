-- A path that is kept in lent arrays (`Holds`): in the first places the nodes entered, the places of the pivots, and the sets of the nodes entered up to each place.
-- A turn of the walk (`Turn`): from which step on the path changes, and by which row; what it makes of the path (`turned_by`), and that it is the walk's next (`TurnsTo`).
use Rattle.std.specs.Prelude.{Option, None, Some, ◌≡◌, Bool, false, true, List, [], ◌∷◌, map, ◌-◌, ◌<◌, ◌≤◌, suc, ℕ, eqb, get_or, length, take}
use Rattle.std.proofs.Math.Option.{none, some}
use Rattle.std.specs.Int.Bits.{bit_and, bit_or}
use Rattle.lists.specs.Lists.{pick, range}
use Rattle.graph.specs.Paths.{Key}
use Rattle.words.specs.Words.{bit, has}
use Rattle.chart.specs.Chart.{limit_in, near_in, nodes_in, width_in}
use Rattle.spread.specs.Spread.{seeds_of, spread_of}
use Rattle.paths.specs.Path.{entered_by, no_key}
use Rattle.grow.specs.Grow.{fresh_after}
use Rattle.grow.specs.Musts.{grow_with}
use Rattle.walk.specs.Walk.{after_of, beside_of}
use Rattle.trail.specs.declared.Turn.{Turn}

-- nodes as a set
unfoldable pub set_of : List ℕ → ℕ
set_of [] = 0
set_of (v ∷ vs) = bit_or (bit v) (set_of vs)

-- for each place the set of the nodes entered up to it
unfoldable pub sets_by : List ℕ → List ℕ
unfolding set_of
sets_by entered = map (λ i. set_of (take (suc i) entered)) (range 0 (length entered))

-- the arrays hold the path with these steps
pub record Holds (entered pivots sets : List ℕ) (plant : ℕ) (keys : List Key) : Type 0 where
  pub few : length keys ≤ 31
  pub nodes_long : length entered ≡ 32
  pub pivots_long : length pivots ≡ 31
  pub sets_long : length sets ≡ 32
  pub nodes_are : take (suc (length keys)) entered ≡ entered_by plant keys
  pub pivots_are : take (length keys) pivots ≡ map (λ (k : Key). k.place) keys
  pub sets_are : take (suc (length keys)) sets ≡ sets_by (entered_by plant keys)

-- Whether a node is still reached once the bound is moved up to the step to it from a place: it has a neighbour among `later`, the nodes entered behind that place, or
-- has a fresh one, and the spread comes to it.
unfoldable pub open_beyond : List ℕ → ℕ → ℕ → List ℕ → ℕ → ℕ → Bool
open_beyond c fresh later entered place node =
    let near = get_or (near_in false c) node 0 in
    let seeds = seeds_of (near_in false c) fresh entered place node in
    pick (eqb (bit_and near later) 0) (pick (eqb (bit_and near fresh) 0) false (has (spread_of (near_in false c) (limit_in c) fresh seeds) node)) true

-- a path grown on by at most so many steps, from a bound on
abbrev pub grown_on : List ℕ → ℕ → ℕ → List Key → ℕ → ℕ → List Key
grown_on c plant steps keys place node = grow_with c plant steps (fresh_after (nodes_in c) (entered_by plant keys)) keys place node

-- The path with step `at` of `keys` changed: by a parallel row, or, where that is 0, with the bound moved up to the step; and grown on.
unfoldable pub turned_by : List ℕ → ℕ → List Key → ℕ → ℕ → List Key
turned_by c plant keys at row =
    let part = take at keys in
    let k = get_or keys at no_key in
    let fresh = fresh_after (nodes_in c) (entered_by plant part) in
    pick (eqb row 0) (grow_with c plant (width_in c - at) fresh part k.place k.node) (beside_of c plant row (width_in c - at) fresh part k)

-- a turn names a step of a path, or, with no row, the one behind its last
pub record Names (keys : List Key) (t : Turn) : Type 0 where
  pub inside : t.at ≤ length keys
  pub changes : ¬ (t.row ≡ 0) → t.at < length keys
  pub place_is : t.place ≡ (get_or keys t.at no_key).place
  pub node_is : t.node ≡ (get_or keys t.at no_key).node

-- a turn makes of a path the next of the walk, or there is none
abbrev pub TurnsTo : List ℕ → ℕ → List Key → Option Turn → Type 0
TurnsTo c plant keys (Some t) = (after_of c plant keys (length keys) ≡ some (turned_by c plant keys t.at t.row)) × Names keys t
TurnsTo c plant keys None = after_of c plant keys (length keys) ≡ none
