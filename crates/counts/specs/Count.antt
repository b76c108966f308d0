-- Count (document 02, #112): how many trees the list has, counted by dropping and by merging; refused by 25 above 4,000,000,000.
use Rattle.std.specs.Prelude.{List, [], ◌++◌, ◌∷◌, ℕ, leb}
use Rattle.checks.specs.Checks.{Check, Outcome, checked}
use Rattle.network_file.specs.File.{file_checks, network_of}
use Rattle.operations.specs.Operations.{check}
use Rattle.counts.specs.Trees.{tree_count}

unfoldable pub count_checks : List ℕ → List Check
count_checks f = file_checks f ++ (check 25 (leb (tree_count (network_of f)) 4000000000) ∷ [])

unfoldable pub count_call : List ℕ → Outcome ℕ
count_call f = checked (count_checks f) (tree_count (network_of f))
