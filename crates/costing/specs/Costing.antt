-- The tables of a network file that a search works on, each as a list that the file or other tables give.
use Rattle.std.specs.Prelude.{Bool, List, [], ◌∷◌, map, ◌%◌, ◌/◌, suc, zero, ℕ, eqb, leb, ltb, get_or}
use Rattle.lists.specs.Lists.{both, pick, range}
use Rattle.costs.specs.Costs.{cost_at}
use Rattle.costs.specs.Network.{row_at}
use Rattle.network_file.specs.File.{byte_at, network_of}
use Rattle.fields.specs.declared.Kind.{Kind}
use Rattle.fields.specs.declared.Kind.TheVariants.{Added, Closing, Worst}
use Rattle.chosen.specs.Chosen.{rows_on}

-- the bytes of the kinds, four of them; 0 past the end of the file
unfoldable pub kinds_in : List ℕ → List ℕ
kinds_in f = byte_at f 9 ∷ byte_at f 10 ∷ byte_at f 11 ∷ byte_at f 12 ∷ []

-- the kind that a byte names: 0 added, 1 the worst, any other closing
abbrev pub kind_by : ℕ → Kind
kind_by b = pick (eqb b 0) Added (pick (eqb b 1) Worst Closing)

-- the cost of row r in criterion c at place c * 256 + r; 0 where the file has no such row or criterion
unfoldable pub costs_in : List ℕ → List ℕ
costs_in f = map (λ i. cost_at (network_of f) (i / 256) (i % 256)) (range 0 1024)

-- Streets

abbrev pub street_in : List ℕ → ℕ → ℕ
street_in f r = (row_at (network_of f) r).street

-- of the k numbers from s on the first that passes; the number behind them where none does
unfoldable pub first_from : (ℕ → Bool) → ℕ → ℕ → ℕ
first_from test s zero = s
first_from test s (suc k) = pick (test s) s (first_from test (suc s) k)

abbrev pub in_street_of : List ℕ → ℕ → ℕ → Bool
in_street_of f r s = eqb (street_in f s) (street_in f r)

-- the first row of a row's street, at the latest the row itself; a row of street 0 is its own
unfoldable pub lead_at : List ℕ → ℕ → ℕ
lead_at f r = pick (eqb (street_in f r) 0) r (first_from (in_street_of f r) 0 r)

unfoldable pub leads_in : List ℕ → List ℕ
leads_in f = map (lead_at f) (range 0 256)

-- Rows

-- the rows that have a first end among those of the must rows, ascending
abbrev pub musts_in : List ℕ → List ℕ
musts_in heads = rows_on heads

abbrev pub is_node : ℕ → ℕ → Bool
is_node limit v = both (ltb 0 v) (leb v limit)

-- 1 for a row with no end among those of the must rows, and with both ends from 1 to the limit; else 0
abbrev pub free_flag : ℕ → ℕ → ℕ → ℕ → ℕ
free_flag limit head first second = pick (eqb head 0) (pick (both (is_node limit first) (is_node limit second)) 1 0) 0

unfoldable pub free_in : List ℕ → List ℕ → List ℕ → ℕ → List ℕ
free_in firsts seconds heads limit = map (λ r. free_flag limit (get_or heads r 0) (get_or firsts r 0) (get_or seconds r 0)) (range 0 256)

-- Limits

-- limits above every tree of an accepted file
abbrev pub tops : List ℕ
tops = 33554432 ∷ 33554432 ∷ 33554432 ∷ 33554432 ∷ []
