-- Which rows the code's values stand for: a sequence by value (`rows_of`), and an array of 256 flags, one for each row (`rows_on`).
use Rattle.std.specs.Prelude.{Bool, List, ℕ, ltb, get_or, take}
use Rattle.lists.specs.Lists.{filter_b, range}
use Rattle.chosen.specs.declared.Chosen.{Chosen}

abbrev pub rows_of : Chosen → List ℕ
rows_of c = take c.len c.rows

-- the flag of row r is set
abbrev pub is_on : List ℕ → ℕ → Bool
is_on flags r = ltb 0 (get_or flags r 0)

-- the rows whose flags are set, ascending
unfoldable pub rows_on : List ℕ → List ℕ
rows_on flags = filter_b (is_on flags) (range 0 256)
