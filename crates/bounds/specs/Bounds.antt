-- Lists of rows that begin with a prefix, the nodes that a prefix has entered and those that are missing, and the least that a row that can enter one adds.
use Rattle.std.specs.Prelude.{Bool, false, not, true, List, [], ◌∷◌, map, ◌-◌, min, ℕ, eqb}
use Rattle.std.proofs.Math.Option.{Option, none, some}
use Rattle.lists.specs.Lists.{both, either, filter_b, member, pick}
use Rattle.graph.specs.Graph.{Graph, first_end, row_numbers, second_end}
use Rattle.graph.specs.Paths.{Key, follows, place_of, steps}
use Rattle.costs.specs.Costs.{cost_at, street_cost}
use Rattle.costs.specs.Network.{Kind, Network, added, closing, graph_of, row_at, worst}

-- q begins with p
unfoldable pub begins : List ℕ → List ℕ → Bool
begins [] q = true
begins (x ∷ p) [] = false
begins (x ∷ p) (y ∷ q) = both (eqb x y) (begins p q)

-- The nodes that a prefix has entered

abbrev pub keys_or : Option (List Key) → List Key
keys_or none = []
keys_or (some ks) = ks

abbrev pub nodes_of : List Key → List ℕ
nodes_of ks = map (λ k. k.node) ks

abbrev pub entered_by : Graph → List ℕ → List ℕ
entered_by g prefix = g.plant ∷ nodes_of (keys_or (steps g prefix))

-- nodes of the graph that are none of the entered
abbrev pub missing : Graph → List ℕ → List ℕ
missing g entered = filter_b (λ v. not (member v entered)) g.nodes

-- The least that a row adds

-- 0 if there is none
unfoldable pub smallest : List ℕ → ℕ
smallest [] = 0
smallest (x ∷ []) = x
smallest (x ∷ y ∷ l) = min x (smallest (y ∷ l))

-- what row r adds at least, whatever the rows beside it: its cost, but in a named street, which is closed once for all its rows, nothing
abbrev pub gain_at : Kind → Network → ℕ → ℕ → ℕ
gain_at added w c r = cost_at w c r
gain_at worst w c r = cost_at w c r
gain_at closing w c r = pick (eqb (row_at w r).street 0) (cost_at w c r) 0

-- the least that a measure gives to one of the network's rows that pass a test; 0 if there is none
abbrev pub least_by : Network → (ℕ → ℕ) → (ℕ → Bool) → ℕ
least_by w measure test = smallest (map measure (filter_b test (row_numbers (graph_of w))))

-- the least that one of them adds in criterion c
abbrev pub least_of : Network → Kind → ℕ → (ℕ → Bool) → ℕ
least_of w kind c test = least_by w (gain_at kind w c) test

-- row r has v as an end
abbrev pub touches : Graph → ℕ → ℕ → Bool
touches g v r = either (eqb (first_end g r) v) (eqb (second_end g r) v)

-- the least that a row with end v adds in criterion c; 0 if there is none
abbrev pub least_at : Network → Kind → ℕ → ℕ → ℕ
least_at w kind c v = least_of w kind c (touches (graph_of w) v)

-- The rows that may still come: the other end u is not entered, or a step from u to v comes after the last step.

-- the last step; before the first, place 0 and node 0
abbrev pub last_key : Key → List Key → Key
last_key k [] = k
last_key k (l ∷ ks) = last_key l ks

abbrev pub no_key : Key
no_key = record { place = 0; node = 0; row = 0 }

-- a step from u to v may come after the step k, or u is entered later
abbrev pub opens : List ℕ → Key → ℕ → ℕ → Bool
opens entered k u v = either (not (member u entered)) (follows k (record { place = place_of entered u; node = v; row = 0 }))

-- row r may enter v
abbrev pub allowed : Graph → List ℕ → Key → ℕ → ℕ → Bool
allowed g entered k v r =
    either (both (eqb (second_end g r) v) (opens entered k (first_end g r) v)) (both (eqb (first_end g r) v) (opens entered k (second_end g r) v))

-- what row r adds beside the rows rs where it alone is added: in a named street what it costs above their days
abbrev pub excess_at : Network → ℕ → List ℕ → ℕ → ℕ
excess_at w c rs r = pick (eqb (row_at w r).street 0) (cost_at w c r) (cost_at w c r - street_cost w c rs (row_at w r).street)
