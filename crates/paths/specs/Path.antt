-- What a path by value stands for: its plant and the keys of its steps, at most 31.
use Rattle.std.specs.Prelude.{List, [], ◌++◌, ◌∷◌, map, min, ℕ, ltb, drop, get_or, length, take}
use Rattle.lists.specs.Lists.{pick}
use Rattle.graph.specs.Paths.{Key}
use Rattle.paths.specs.declared.Path.{Path}

-- the steps of a path: their pivots' places, their nodes and their rows, side by side
unfoldable pub keys_from : List ℕ → List ℕ → List ℕ → List Key
keys_from [] nodes rows = []
keys_from (i ∷ is) [] rows = []
keys_from (i ∷ is) (v ∷ vs) [] = []
keys_from (i ∷ is) (v ∷ vs) (r ∷ rs) = record { place = i; node = v; row = r } ∷ keys_from is vs rs

-- a path has room for 31 steps
abbrev pub length_of : Path → ℕ
length_of p = min p.len 31

abbrev pub plant_of : Path → ℕ
plant_of p = get_or p.nodes 0 0

unfoldable pub keys_of : Path → List Key
keys_of p = keys_from (take (length_of p) p.pivots) (take (length_of p) (drop 1 p.nodes)) (take (length_of p) p.rows)

-- its rows
abbrev pub rows_in : Path → List ℕ
rows_in p = map (λ (k : Key). k.row) (keys_of p)

abbrev pub nodes_of : List Key → List ℕ
nodes_of keys = map (λ (k : Key). k.node) keys

-- the nodes entered, by place
abbrev pub entered_by : ℕ → List Key → List ℕ
entered_by plant keys = plant ∷ nodes_of keys

-- one step more, if there is room
unfoldable pub extended_by : List Key → Key → List Key
extended_by keys k = pick (ltb (length keys) 31) (keys ++ (k ∷ [])) keys

abbrev pub no_key : Key
no_key = record { place = 0; node = 0; row = 0 }
