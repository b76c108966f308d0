-- Shuffled rows (document 02, #113): two networks whose rows are a rearrangement of each other, all else equal; a path with its rows renamed; and paths that
-- part first at parallel rows.
use Rattle.std.specs.Prelude.{◌≡◌, ◌↔◌, Bool, false, List, [], ◌∷◌, map, ◌<◌, ℕ, eqb, get_or, length}
use Rattle.lists.specs.Lists.{pick}
use Rattle.lists.proofs.Distinct.{Distinct}
use Rattle.lists.proofs.Members.{◌∈◌}
use Rattle.graph.specs.Graph.{Graph, first_end, joins, second_end}
use Rattle.costs.specs.Network.{Network, row_at}

-- v is w with its rows in another sequence: `numbers` has each row number of w once, and tells which row of w each row of v is, with its ends, street, state
-- and costs.
pub record Shuffled (w v : Network) (numbers : List ℕ) : Type 0 where
  pub node_count : v.node_count ≡ w.node_count
  pub kinds : v.kinds ≡ w.kinds
  pub once : Distinct numbers
  pub each : (r : ℕ) → (r ∈ numbers) ↔ (r < length w.rows)
  pub rows : v.rows ≡ map (row_at w) numbers

-- the number in w of row r of v
abbrev pub renamed : List ℕ → ℕ → ℕ
renamed numbers r = get_or numbers r 0

-- a path of v by the row numbers of w
abbrev pub renamed_path : List ℕ → List ℕ → List ℕ
renamed_path numbers path = map (renamed numbers) path

-- Two paths part first at parallel rows: the first rows in which they differ join the same two nodes.
unfoldable pub part_parallel : Graph → List ℕ → List ℕ → Bool
part_parallel g [] q = false
part_parallel g (r ∷ p) [] = false
part_parallel g (r ∷ p) (s ∷ q) = pick (eqb r s) (part_parallel g p q) (joins g r (first_end g s) (second_end g s))
