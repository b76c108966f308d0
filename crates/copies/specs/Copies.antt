-- Places copied from one table to a place of another, as many as are asked and both tables have; and places moved within a table, or a row inserted,
-- where they fit.
use Rattle.std.specs.Prelude.{Bool, ◌&&◌, List, ◌++◌, ◌+◌, ◌-◌, min, ℕ, leb, drop, length, take}
use Rattle.std.proofs.Math.Seq.{paste}
use Rattle.lists.specs.Lists.{pick}

-- how many of n places, by the lengths of both tables
unfoldable pub room : ℕ → ℕ → ℕ → ℕ → ℕ
room table at places n = min n (min places (table - at))

unfoldable pub copied : {A : Type 0} → List A → ℕ → List A → ℕ → List A
copied table at places n = paste table at places (room (length table) at (length places) n)

-- n places from place `end` on lie within a table, by its length, and place `at` not behind them
unfoldable pub fits : ℕ → ℕ → ℕ → ℕ → Bool
fits table at end n = leb at end && leb (end + n) table

-- n places moved down; where they do not fit, the table stays as it is
unfoldable pub moved : {A : Type 0} → List A → ℕ → ℕ → ℕ → List A
moved table from to n = pick (fits (length table) to from n) (paste table to (drop from table) n) table

-- a row at a place of the first `end` places, which move up from there
abbrev pub between : {A : Type 0} → List A → ℕ → ℕ → List A → List A
between table at end row = take at table ++ (row ++ (take (end - at) (drop at table) ++ drop (end + length row) table))

-- a row inserted so; where it does not fit, the table stays as it is
unfoldable pub inserted : {A : Type 0} → List A → ℕ → ℕ → List A → List A
inserted table at end row = pick (fits (length table) at end (length row)) (between table at end row) table
