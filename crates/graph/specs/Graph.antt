-- A multigraph: the plant, the nodes and, for each row from 0 up, its two ends. A row with an end that is no node joins nothing.
use Rattle.std.specs.Prelude.{Bool, ◌&&◌, ◌||◌, List, pred, suc, zero, ℕ, eqb, ltb, get_or, length}
use Rattle.lists.specs.Lists.{all, any, distinct, range}

pub record Graph : Type 0 where
  pub plant : ℕ
  pub nodes : List ℕ
  pub first_ends : List ℕ
  pub second_ends : List ℕ

-- the ends of row r
abbrev pub first_end : Graph → ℕ → ℕ
first_end g r = get_or g.first_ends r 0

abbrev pub second_end : Graph → ℕ → ℕ
second_end g r = get_or g.second_ends r 0

-- all row numbers, ascending
abbrev pub row_numbers : Graph → List ℕ
row_numbers g = range 0 (length g.first_ends)

-- how many rows a spanning tree has
abbrev pub width : Graph → ℕ
width g = pred (length g.nodes)

-- row r joins u and v, either way round
abbrev pub joins : Graph → ℕ → ℕ → ℕ → Bool
joins g r u v = (eqb (first_end g r) u && eqb (second_end g r) v) || (eqb (first_end g r) v && eqb (second_end g r) u)

-- a run of at most s of the rows rs leads from u to v
unfoldable pub runs : Graph → List ℕ → ℕ → ℕ → ℕ → Bool
unfolding any
runs g rs zero u v = eqb u v
runs g rs (suc s) u v = eqb u v || any (λ w. any (λ r. joins g r u w) rs && runs g rs s w v) g.nodes

-- A spanning tree: one row fewer than nodes, all different, that join all nodes. The rows stand in any sequence.
unfoldable pub is_tree : Graph → List ℕ → Bool
unfolding all distinct runs
is_tree g rs =
    eqb (suc (length rs)) (length g.nodes)
    && (all (λ r. ltb r (length g.first_ends)) rs
    && (distinct rs
    && all (λ v. runs g rs (length g.nodes) g.plant v) g.nodes))
