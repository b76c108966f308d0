-- What the code's answer says in document 02's terms.
use Rattle.std.specs.Prelude.{ℕ, Result}
use Rattle.checks.specs.Checks.{Outcome}
use Rattle.refusals.specs.Refusals.{outcome_of}
use Rattle.refusals.specs.declared.Refusal.{Refusal}

abbrev pub surveyed_of : Result ℕ Refusal → Outcome ℕ
surveyed_of = outcome_of (λ length. length)
