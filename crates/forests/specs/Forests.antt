-- Lists of rows changed by a row, their weight, and a graph with a row deleted (`without`) or contracted (`merged`).
use Rattle.std.specs.Prelude.{not, List, ◌∷◌, map, ℕ, eqb, set}
use Rattle.lists.specs.Lists.{filter_b, pick, sum}
use Rattle.graph.specs.Graph.{Graph, first_end, second_end}

-- the numbers of a list but r
unfoldable pub cut : ℕ → List ℕ → List ℕ
cut r rs = filter_b (λ q. not (eqb q r)) rs

-- rs - f + e
abbrev pub swap : ℕ → ℕ → List ℕ → List ℕ
swap f e rs = e ∷ cut f rs

abbrev pub weight : (ℕ → ℕ) → List ℕ → ℕ
weight w rs = sum (map w rs)

-- one weight at e, another elsewhere
abbrev pub extreme : (ℕ → ℕ) → (ℕ → ℕ) → ℕ → ℕ → ℕ
extreme at else e r = pick (eqb r e) (at r) (else r)

-- the graph with the ends of row e set to 0, which is no node
abbrev pub without : Graph → ℕ → Graph
without g e = record { plant = g.plant; nodes = g.nodes; first_ends = set g.first_ends e 0; second_ends = set g.second_ends e 0 }

-- the end of row e that stays when the row is contracted, and the end that goes: the second, unless that is the plant
abbrev pub stays : Graph → ℕ → ℕ
stays g e = pick (eqb (second_end g e) g.plant) (second_end g e) (first_end g e)

abbrev pub goes : Graph → ℕ → ℕ
goes g e = pick (eqb (second_end g e) g.plant) (first_end g e) (second_end g e)

-- b renamed to a
abbrev pub rename : ℕ → ℕ → ℕ → ℕ
rename a b v = pick (eqb v b) a v

-- the graph with row e removed, and b, one of its ends, renamed to the other, a
abbrev pub merge : Graph → ℕ → ℕ → ℕ → Graph
merge g e a b = record {
  plant = g.plant;
  nodes = cut b g.nodes;
  first_ends = set (map (rename a b) g.first_ends) e 0;
  second_ends = set (map (rename a b) g.second_ends) e 0;
}

abbrev pub merged : Graph → ℕ → Graph
merged g e = merge g e (stays g e) (goes g e)
