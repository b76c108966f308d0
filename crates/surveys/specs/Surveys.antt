-- A newer survey over an older (document 02, #106): one network file of two. For each unordered pair of nodes with a row in the newer, the newer's rows
-- for that pair stand and the older's go; all other older rows stand. Older survivors come first, in their order, then all the newer rows.
use Rattle.std.specs.Prelude.{Bool, ◌&&◌, ◌||◌, not, List, [], ◌++◌, ◌∷◌, ℕ, eqb, leb, length}
use Rattle.lists.specs.Lists.{any, filter_b}
use Rattle.checks.specs.Checks.{Check, Ended, ended}
use Rattle.costs.specs.Network.{Network, Row}
use Rattle.network_file.specs.Bytes.{file_of}
use Rattle.network_file.specs.File.{file_checks, network_of}
use Rattle.network_file.specs.Frames.{same_frame}
use Rattle.operations.specs.Operations.{check, over}

-- a row joins u and v, either way round
abbrev pub is_pair : ℕ → ℕ → Row → Bool
is_pair u v r = (eqb r.first_end u && eqb r.second_end v) || (eqb r.first_end v && eqb r.second_end u)

-- some of the rows joins u and v, whatever its state
unfoldable pub has_pair : ℕ → ℕ → List Row → Bool
unfolding any
has_pair u v rows = any (is_pair u v) rows

-- no row of the newer joins the ends of this one
abbrev pub stands : List Row → Row → Bool
stands newer r = not (has_pair r.first_end r.second_end newer)

-- the older rows that stand, in their order
unfoldable pub survivors : List Row → List Row → List Row
unfolding filter_b has_pair
survivors older newer = filter_b (stands newer) older

-- asked only after check 18, where nodes and kinds are the same
abbrev pub survey_network : Network → Network → Network
survey_network older newer = record { node_count = older.node_count; kinds = older.kinds; rows = survivors older.rows newer.rows ++ newer.rows }

-- the file that is written, of version 2: each row with its street, its state and its costs
unfoldable pub survey_file : List ℕ → List ℕ → List ℕ
unfolding file_of survivors
survey_file older newer = file_of 2 (survey_network (network_of older) (network_of newer))

unfoldable pub survey_checks : List ℕ → List ℕ → List ℕ → List Check
unfolding same_frame survivors survey_file
survey_checks older newer buffer =
    file_checks older
    ++ file_checks newer
    ++ (check 18 (same_frame (network_of older) (network_of newer))
    ∷ check 19 (leb (length (survey_network (network_of older) (network_of newer)).rows) 256)
    ∷ check 11 (leb (length (survey_file older newer)) (length buffer))
    ∷ [])

-- The newer survey over the older: the answer is the file's length in bytes.
unfoldable pub survey_call : List ℕ → List ℕ → List ℕ → Ended ℕ (List ℕ)
unfolding survey_checks
survey_call older newer buffer =
    ended (survey_checks older newer buffer) (length (survey_file older newer)) buffer (over (survey_file older newer) buffer)
