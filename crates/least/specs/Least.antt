-- What the search for the least vector is over (`Ground`, `OnGround`), what its answer stands for (`least_of`), and the known vectors in their table (`known_rows`):
-- which of them are inside limits (`inside_at`, `NoneInside`), and which of those has the least component 1 (`Nearest`).
use Rattle.std.specs.Prelude.{Bool, List, ◌/◌, ◌<◌, ◌≤◌, ℕ, T, Option as Maybe, None, Some, ltb, get_or, length, take}
use Rattle.std.proofs.Math.Option.{Option, none, some}
use Rattle.lists.specs.Lists.{both}
use Rattle.lists.proofs.Members.{◌∈◌}
use Rattle.pages.specs.Pages.{pieces}
use Rattle.forests.proofs.Forest.{Forest}
use Rattle.forests.proofs.Joined.{Lies}
use Rattle.completions.proofs.NextRow.{Of}
use Rattle.chosen.specs.Chosen.{rows_on}
use Rattle.tally.specs.Tally.{table_of}
use Rattle.find.specs.Find.{Tables, graph_in}

-- the tables of a search, must rows that make no ring, and flags of the other rows that lie between nodes
pub record Ground (firsts seconds : List ℕ) (limit k : ℕ) (musts free : List ℕ) : Type 0 where
  pub tables : Tables firsts seconds limit k
  pub forest : Forest (graph_in firsts seconds limit) musts
  pub lies : (r : ℕ) → r ∈ rows_on free → Lies (graph_in firsts seconds limit) r
  pub all_free : (r : ℕ) → Lies (graph_in firsts seconds limit) r → ¬ (r ∈ musts) → r ∈ rows_on free

-- limits past the last criterion let 0 in
abbrev pub OpenPast : ℕ → List ℕ → Type 0
OpenPast k limits = (c : ℕ) → k ≤ c → c < 4 → 0 < get_or limits c 0

-- what holds of the vectors of the trees with all must rows, on such a ground and with such limits
abbrev pub OnGround : (firsts seconds : List ℕ) (limit : ℕ) (kinds : List ℕ) (k : ℕ) (costs leads musts free limits : List ℕ) → ((List ℕ → Type 0) → Type 0) → Type 0
OnGround firsts seconds limit kinds k costs leads musts free limits Holds =
    (footing : Ground firsts seconds limit k musts free) → OpenPast k limits
    → Holds (Of (graph_in firsts seconds limit) footing.tables.formed (table_of kinds k costs leads) musts)

-- the vector of k criteria
abbrev pub least_of : ℕ → Maybe (List ℕ) → Option (List ℕ)
least_of k None = none
least_of k (Some v) = some (take k v)

-- The known vectors, one after the other in a table

abbrev pub known_rows : ℕ → List ℕ → List (List ℕ)
known_rows k known = pieces k (length known / k) known

-- one is inside the limits in its components from 1 on
unfoldable pub inside_at : List ℕ → List ℕ → Bool
inside_at row limits =
    both (ltb (get_or row 1 0) (get_or limits 1 0)) (both (ltb (get_or row 2 0) (get_or limits 2 0)) (ltb (get_or row 3 0) (get_or limits 3 0)))

-- none of them is inside
abbrev pub NoneInside : List (List ℕ) → List ℕ → Type 0
NoneInside rows limits = (x : List ℕ) → x ∈ rows → ¬ T (inside_at x limits)

-- one is inside, with the least component 1 of those that are
pub record Nearest (rows : List (List ℕ)) (limits row : List ℕ) : Type 0 where
  pub known : row ∈ rows
  pub inside : T (inside_at row limits)
  pub least : (x : List ℕ) → x ∈ rows → T (inside_at x limits) → get_or row 1 0 ≤ get_or x 1 0
