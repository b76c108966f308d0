-- What the code's answer says in document 02's terms.
use Rattle.std.specs.Prelude.{Result}
use Rattle.checks.specs.Checks.{Outcome}
use Rattle.refusals.specs.Refusals.{outcome_of}
use Rattle.refusals.specs.declared.Refusal.{Refusal}
use Rattle.fields.specs.Fields.{sizes_in}
use Rattle.fields.specs.declared.Header.{Header}
use Rattle.frames.specs.Frame.{Frame}

abbrev pub framed_of : Result (Header × Header) Refusal → Outcome Frame
framed_of = outcome_of (λ h. record { first = sizes_in h.0; second = sizes_in h.1 })
