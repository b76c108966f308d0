-- What the code's answer says in document 01's terms.
use Rattle.std.specs.Prelude.{Result}
use Rattle.checks.specs.Checks.{Outcome}
use Rattle.refusals.specs.Refusals.{outcome_of}
use Rattle.refusals.specs.declared.Refusal.{Refusal}
use Rattle.operations.specs.Operations.{Reached}
use Rattle.reach.specs.declared.Reached as code

abbrev pub reached_of : Result code.Reached Refusal → Outcome Reached
reached_of = outcome_of (λ r. record { word = r.word; size = r.size })
