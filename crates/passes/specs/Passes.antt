-- Passes over a list of trees with the known rows in front (DESIGN section 3): a table of candidates behind them.
use Rattle.std.specs.Prelude.{List, ◌++◌, ℕ, take}
use Rattle.lists.specs.Lists.{pick}
use Rattle.costs.specs.Costs.{front_trees}
use Rattle.costs.specs.Network.{Network}
use Rattle.tables.specs.Tables.{Table, enter_bounded, met}

-- the known rows, and behind them those of a table
abbrev pub behind : {E : Type 0} → List E → Table E → Table E
behind known s = record { rows = known ++ s.rows; bound = s.bound }

-- An entry offered to a table of at most `more` rows behind the known ones: one that a known row meets changes nothing.
abbrev pub enter_behind : {E : Type 0} (key : E → List ℕ) → ℕ → List E → Table E → E → Table E
enter_behind key more known s e = pick (met key known e) s (enter_bounded key more s e)

-- the rows that are known: the first n witnesses of the front of these trees
abbrev pub known_trees : Network → List (List ℕ) → ℕ → List (List ℕ)
known_trees g trees n = take n (front_trees g trees)
