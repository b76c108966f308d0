-- What the answer of Open says in document 01's terms.
use Rattle.std.specs.Prelude.{Result}
use Rattle.checks.specs.Checks.{Outcome}
use Rattle.network_file.specs.File.{Sizes}
use Rattle.refusals.specs.Refusals.{outcome_of}
use Rattle.refusals.specs.declared.Refusal.{Refusal}
use Rattle.fields.specs.Fields.{sizes_in}
use Rattle.fields.specs.declared.Header.{Header}

abbrev pub opened_of : Result Header Refusal → Outcome Sizes
opened_of = outcome_of sizes_in
