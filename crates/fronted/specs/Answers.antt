-- What the code's answer says in document 01's terms.
use Rattle.std.specs.Prelude.{Result}
use Rattle.checks.specs.Checks.{Outcome}
use Rattle.operations.specs.Operations.{Fronted}
use Rattle.refusals.specs.Refusals.{outcome_of}
use Rattle.refusals.specs.declared.Refusal.{Refusal}
use Rattle.fronted.specs.declared.Rows.{Rows}

abbrev pub rows_of : Rows → Fronted
rows_of rows = record { count = rows.count; whole = rows.whole }

abbrev pub fronted_of : Result Rows Refusal → Outcome Fronted
fronted_of = outcome_of rows_of
