-- The code's tree that may be missing.
use Rattle.std.specs.Prelude.{None, Some, List, ℕ, take}
use Rattle.std.specs.declared.option.Option as code
use Rattle.std.proofs.Math.Option.{Option, none, some}

-- the rows of a tree of w rows, if it is there
abbrev pub tree_of : ℕ → code.Option (List ℕ) → Option (List ℕ)
tree_of w (Some rows) = some (take w rows)
tree_of w None = none
