-- What opening a file to list its trees comes to: Open's checks, then 12.
use Rattle.std.specs.Prelude.{List, [], ◌++◌, ◌∷◌, ℕ}
use Rattle.checks.specs.Checks.{Check, Outcome, checked}
use Rattle.network_file.specs.File.{Sizes, file_checks, sizes_of}
use Rattle.operations.specs.Operations.{check, layouts_in, some_tree}

abbrev pub listed_checks : List ℕ → List Check
listed_checks f = file_checks f ++ (check 12 (some_tree (layouts_in f)) ∷ [])

unfoldable pub listed_call : List ℕ → Outcome Sizes
listed_call f = checked (listed_checks f) (sizes_of f)
