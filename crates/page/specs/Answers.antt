-- What the answer of Page says in document 01's terms.
use Rattle.std.specs.Prelude.{Result}
use Rattle.checks.specs.Checks.{Outcome}
use Rattle.operations.specs.Operations.{Paged}
use Rattle.refusals.specs.Refusals.{outcome_of}
use Rattle.refusals.specs.declared.Refusal.{Refusal}
use Rattle.fill.specs.Walkable.{filled_of}
use Rattle.fill.specs.declared.Filled.{Filled}

abbrev pub paged_of : Result Filled Refusal → Outcome Paged
paged_of = outcome_of filled_of
