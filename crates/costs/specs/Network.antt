-- A network as its file gives it (document 01): nodes 1 to n, a kind for each criterion, rows from 0. Node 1 is the plant.
-- Document 01's n is `node_count`, its m the length of `rows`, its k the length of `kinds`.
use Rattle.std.specs.Prelude.{List, [], map, ℕ, get_or}
use Rattle.lists.specs.Lists.{range}
use Rattle.graph.specs.Graph.{Graph}

-- whether a row may be dug, must be, or may not
pub data State : Type 0 where
  «open» : State
  must : State
  barred : State

pub record Row : Type 0 where
  pub first_end : ℕ
  pub second_end : ℕ
  pub street : ℕ
  pub state : State
  pub costs : List ℕ

-- how a criterion's cost of a tree comes from the costs of its rows
pub data Kind : Type 0 where
  added : Kind
  worst : Kind
  closing : Kind

pub record Network : Type 0 where
  pub node_count : ℕ
  pub kinds : List Kind
  pub rows : List Row

abbrev pub no_row : Row
no_row = record { first_end = 0; second_end = 0; street = 0; state = «open»; costs = [] }

abbrev pub row_at : Network → ℕ → Row
row_at w r = get_or w.rows r no_row

abbrev pub graph_of : Network → Graph
graph_of w = record { plant = 1; nodes = range 1 w.node_count; first_ends = map (λ r. r.first_end) w.rows; second_ends = map (λ r. r.second_end) w.rows }
