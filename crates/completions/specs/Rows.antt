-- The front row by row: what the rows that are known meet, and vectors without their component 0.
use Rattle.std.specs.Prelude.{Bool, List, [], ◌∷◌, ℕ, get_or}
use Rattle.lists.specs.Lists.{any}
use Rattle.costs.specs.Costs.{none_larger}

-- a row equals or dominates the vector
abbrev pub met_by : List (List ℕ) → List ℕ → Bool
met_by rows v = any (λ r. none_larger r v) rows

-- component 0
abbrev pub head_of : List ℕ → ℕ
head_of v = get_or v 0 0

-- a vector without it
abbrev pub rest_of : List ℕ → List ℕ
rest_of [] = []
rest_of (x ∷ v) = v
