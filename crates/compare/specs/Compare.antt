-- Whether a row of a table of costs meets a vector.
use Rattle.std.specs.Prelude.{Bool, List, ℕ, length}
use Rattle.lists.specs.Lists.{any}
use Rattle.costs.specs.Costs.{none_larger}
use Rattle.pages.specs.Pages.{pieces}

-- one of the first rows, each as wide as the vector, equals or dominates it; a row that the table ends before is too short to
abbrev pub met_in : List ℕ → ℕ → List ℕ → Bool
met_in costs count v = any (λ u. none_larger u v) (pieces (length v) count costs)
