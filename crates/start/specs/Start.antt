-- What `check` is given, the chart of a file (`ChartOf`), and what its answer stands for (`numbered`).
use Rattle.std.specs.Prelude.{Err, Ok, Result, ◌≡◌, List, ℕ}
use Rattle.std.proofs.Math.Option.{Option, none, some}
use Rattle.checks.specs.Checks.{first_unmet}
use Rattle.refusals.specs.Refusals.{number_of}
use Rattle.refusals.specs.declared.Refusal.{Refusal}
use Rattle.chart.specs.Chart.{Blank, file_chart_on}
use Rattle.network_file.specs.File.{file_checks}

-- the chart of an accepted file, made of one that was empty
pub record ChartOf (f c : List ℕ) : Type 0 where
  pub met : first_unmet (file_checks f) ≡ none
  pub lent : List ℕ
  pub empty : Blank lent
  pub made : c ≡ file_chart_on f lent

-- the number of the check by which a call is refused; none where it is not
abbrev pub numbered : {A : Type 0} → Result A Refusal → Option ℕ
numbered (Ok a) = none
numbered (Err e) = some (number_of e)
