-- A second office in the same table (document 02, #111): two offices enter drawn trees in one front table of 2 × h rows, over one network.
-- Office 1 has the first h rows, office 2 the last h.
use Rattle.std.specs.Prelude.{Bool, ◌&&◌, ◌||◌, not, List, [], ◌++◌, ◌∷◌, ◌*◌, ℕ, eqb, leb, ltb, drop, length, take}
use Rattle.lists.specs.Lists.{pick}
use Rattle.checks.specs.Checks.{Check, Ended, ended}
use Rattle.graph.specs.Graph.{width}
use Rattle.graph.specs.Paths.{path_in, path_of}
use Rattle.costs.specs.Costs.{cost_of}
use Rattle.costs.specs.Network.{Network, graph_of}
use Rattle.tables.specs.Tables.{enter, met}
use Rattle.table.specs.Enter.{Row, costs_over, filled, witnesses_over}
use Rattle.network_file.specs.File.{file_checks, network_of, sizes_of}
use Rattle.operations.specs.Operations.{FrontTables, check, drawn_checks, graph_in}

-- how many rows of each half are filled
pub record Counts : Type 0 where
  pub first : ℕ
  pub second : ℕ

pub data Half : Type 0 where
  first_half : Half
  second_half : Half

-- an office's half; asked only after check 11, where the office is 1 or 2
abbrev pub half_of : ℕ → Half
half_of office = pick (eqb office 1) first_half second_half

abbrev pub count_of : Half → Counts → ℕ
count_of first_half counts = counts.first
count_of second_half counts = counts.second

-- a half of a table, of so many places, and the table with other content there
abbrev pub part_of : Half → ℕ → List ℕ → List ℕ
part_of first_half size table = take size table
part_of second_half size table = drop size table

abbrev pub with_part : Half → ℕ → List ℕ → List ℕ → List ℕ
with_part first_half size part table = part ++ drop size table
with_part second_half size part table = take size table ++ part

-- the filled rows of a half, of k costs and w row numbers each
abbrev pub filled_in : ℕ → ℕ → ℕ → Half → Counts → FrontTables → List Row
filled_in k w h half counts lent = filled k w (count_of half counts) (part_of half (h * k) lent.costs) (part_of half (h * w) lent.witnesses)

-- the tables with these rows in the first places of the half; rows past them keep their content
abbrev pub written : ℕ → ℕ → ℕ → Half → List Row → FrontTables → FrontTables
written k w h half rows lent = record {
  costs = with_part half (h * k) (costs_over rows (part_of half (h * k) lent.costs)) lent.costs;
  witnesses = with_part half (h * w) (witnesses_over rows (part_of half (h * w) lent.witnesses)) lent.witnesses;
}

-- what an office enters for drawn rows: their vector, and their path; asked only after check 10, where they have one
unfoldable pub entry_of : Network → List ℕ → Row
entry_of w drawn = record { vector = cost_of w drawn; path = path_in (path_of (graph_of w) drawn) }

-- the filled rows after an entry: as they were where one of them equals or dominates its vector
abbrev pub rows_after : List Row → Row → List Row
rows_after rows e = enter (λ r. r.vector) rows e

-- the answer: 'entered', or 'met' where a filled row equals or dominates the vector; and how many rows are filled now
pub record Noted : Type 0 where
  pub entered : Bool
  pub count : ℕ

abbrev pub note_of : List Row → Row → Noted
note_of rows e = record { entered = not (met (λ r. r.vector) rows e); count = length (rows_after rows e) }

-- check 11: the office is 1 or 2, h is not 0, both tables have exactly 2 × h rows, and neither count is above h
unfoldable pub tables_fit : ℕ → ℕ → ℕ → ℕ → Counts → FrontTables → Bool
tables_fit k w office h counts lent =
    (eqb office 1 || eqb office 2)
    && (ltb 0 h
    && (eqb (length lent.costs) (2 * (h * k))
    && (eqb (length lent.witnesses) (2 * (h * w))
    && (leb counts.first h
    && leb counts.second h))))

-- check 24: the half does not need more than h rows then
abbrev pub fits_in : ℕ → List Row → Row → Bool
fits_in h rows e = leb (length (rows_after rows e)) h

abbrev pub half_rows : List ℕ → ℕ → Half → Counts → FrontTables → List Row
half_rows f h half counts lent = filled_in (sizes_of f).k (width (graph_in f)) h half counts lent

unfoldable pub office_checks : List ℕ → List ℕ → ℕ → ℕ → Counts → FrontTables → List Check
office_checks f drawn office h counts lent =
    file_checks f
    ++ drawn_checks (network_of f) drawn
    ++ (check 11 (tables_fit (sizes_of f).k (width (graph_in f)) office h counts lent)
    ∷ check 24 (fits_in h (half_rows f h (half_of office) counts lent) (entry_of (network_of f) drawn))
    ∷ [])

unfoldable pub office_call : List ℕ → List ℕ → ℕ → ℕ → Counts → FrontTables → Ended Noted FrontTables
office_call f drawn office h counts lent =
    let rows = half_rows f h (half_of office) counts lent in
    let e = entry_of (network_of f) drawn in
    ended (office_checks f drawn office h counts lent) (note_of rows e)
    lent (written (sizes_of f).k (width (graph_in f)) h (half_of office) (rows_after rows e) lent)
