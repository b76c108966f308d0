-- A question to a branch: what it is asked of (`Asked`), the rows that are in (`standing_of`), and flags of the other rows that may come, by a table of the places at
-- which nodes are entered (`flags_of`).
use Rattle.std.specs.Prelude.{◌≡◌, Bool, false, true, ◌↔◌, List, [], ◌++◌, ◌∷◌, map, ◌+◌, ◌-◌, ◌<◌, ◌≤◌, ℕ, eqb, drop, get_or, length, take}
use Rattle.lists.specs.Lists.{both, filter_b, member, pick, range}
use Rattle.lists.proofs.Members.{◌∈◌}
use Rattle.graph.specs.Graph.{Graph}
use Rattle.graph.specs.Paths.{Key, follows}
use Rattle.graph.proofs.Growth.{start}
use Rattle.costs.specs.Network.{Network}
use Rattle.bounds.specs.Bounds.{last_key}
use Rattle.states.specs.States.{must_row}
use Rattle.states.proofs.Full.{Full}
use Rattle.completions.proofs.Witness.{Opens, Shuts}
use Rattle.paths.specs.Path.{entered_by, keys_of, no_key, plant_of}
use Rattle.paths.specs.declared.Path.{Path}
use Rattle.find.specs.Find.{Tables, graph_in}

-- Rows that may come

-- the entry of node v, in a list of the nodes entered from place i on: the place at which it is first entered, plus 1; 0 where it is not entered
unfoldable pub entry_from : ℕ → List ℕ → ℕ → ℕ
entry_from i [] v = 0
entry_from i (u ∷ l) v = pick (eqb u v) (i + 1) (entry_from (i + 1) l v)

abbrev pub entry_of : List ℕ → ℕ → ℕ
entry_of l v = entry_from 0 l v

-- a step from place `at` to node v may come behind one from `place` to `last`
abbrev pub step_follows : ℕ → ℕ → ℕ → ℕ → Bool
step_follows place last at v = follows (record { place = place; node = last; row = 0 }) (record { place = at; node = v; row = 0 })

-- a row may come: its ends a and b are nodes, with entries `first` and `second`, and the last step is from `place` to `last`
unfoldable pub comes_by : ℕ → ℕ → ℕ → ℕ → ℕ → ℕ → ℕ → Bool
comes_by limit a b first second place last =
    both (both (member a (range 1 limit)) (member b (range 1 limit)))
    (pick (eqb first 0)
    (pick (eqb second 0) true (step_follows place last (second - 1) a))
    (pick (eqb second 0) (step_follows place last (first - 1) b) false))

-- the flag of a row: it is no must row, and may come
abbrev pub flag_by : ℕ → Bool → ℕ
flag_by head comes = pick (eqb head 0) (pick comes 1 0) 0

-- row r may come behind these steps
abbrev pub comes_at : List ℕ → List ℕ → ℕ → ℕ → List Key → ℕ → Bool
comes_at firsts seconds limit plant keys r =
    let a = get_or firsts r 0 in
    let b = get_or seconds r 0 in
    let entered = entered_by plant keys in
    let last = last_key no_key keys in
    comes_by limit a b (entry_of entered a) (entry_of entered b) last.place last.node

unfoldable pub flags_of : List ℕ → List ℕ → List ℕ → ℕ → ℕ → List Key → List ℕ
flags_of firsts seconds heads limit plant keys = map (λ r. flag_by (get_or heads r 0) (comes_at firsts seconds limit plant keys r)) (range 0 256)

-- Rows that are in

-- the first rows, so many, and the must rows among the others
unfoldable pub standing_of : List ℕ → ℕ → List ℕ → List ℕ
standing_of heads len rows = take len rows ++ filter_b (must_row heads) (drop len rows)

-- What a question is asked of: tables of a graph with nodes from 1 on, limits of which those past the last criterion let 0 in, the must rows by their heads, and a
-- path of the list of trees with all must rows.
pub record Asked (firsts seconds heads : List ℕ) (limit k : ℕ) (limits : List ℕ) (path : Path) (musts : List ℕ) : Type 0 where
  pub tables : Tables firsts seconds limit k
  pub open_past_lem : (c : ℕ) → k ≤ c → c < 4 → 0 < get_or limits c 0
  pub heads_are : (r : ℕ) → r < length firsts → ((r ∈ musts) ↔ (0 < get_or heads r 0))
  pub plant : plant_of path ≡ 1
  pub full : Full (graph_in firsts seconds limit) (start (graph_in firsts seconds limit)) musts (keys_of path)

-- what an answer tells of the branch that begins with a prefix
abbrev pub Tells : Graph → Network → List ℕ → List ℕ → List ℕ → Bool → Type 0
Tells g w musts limits prefix r = (r ≡ true → Opens g w musts limits prefix) × (r ≡ false → Shuts g w musts limits prefix)
