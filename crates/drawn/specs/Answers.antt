-- What checking drawn rows comes to: Open's checks, then 8, 9, 10 and 15; the answer is the minimal path with exactly those rows.
use Rattle.std.specs.Prelude.{List, ◌++◌, ℕ}
use Rattle.checks.specs.Checks.{Check, Outcome, checked}
use Rattle.network_file.specs.File.{file_checks, network_of}
use Rattle.operations.specs.Operations.{drawn_checks, graph_in}
use Rattle.tried.specs.Answers.{PathSteps, minimal_steps}

abbrev pub drawn_table : List ℕ → List ℕ → List Check
drawn_table f rows = file_checks f ++ drawn_checks (network_of f) rows

unfoldable pub drawn_call : List ℕ → List ℕ → Outcome PathSteps
drawn_call f rows = checked (drawn_table f rows) (minimal_steps (graph_in f) rows)
