-- What the code's answer says in document 01's terms.
use Rattle.std.specs.Prelude.{Result}
use Rattle.checks.specs.Checks.{Outcome}
use Rattle.refusals.specs.Refusals.{outcome_of}
use Rattle.refusals.specs.declared.Refusal.{Refusal}

abbrev pub ordered_of : Result (Unit {0}) Refusal → Outcome (Unit {0})
ordered_of = outcome_of (λ done. done)
