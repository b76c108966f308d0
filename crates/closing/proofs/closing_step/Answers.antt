-- The last row of a street adds what the street costs.
use mathlib.Core.Path.{◌∙◌, sym}
use Rattle.network_file.specs.File.{network_of}
use Rattle.closing.proofs.Streets.{step_last, street_folded}
use Rattle.closing.proofs.closing_step.Goals as goal

pub returns-else-any_in : goal.returns-else-any_in
returns-else-any_in c =
    step_last _ _ _ _ _ c.street_of-street.ensures c.if-street-eq0.false (sym c.any_in.ensures ∙ c.if-any_in.false)
    (c.most_in.ensures ∙ street_folded (network_of c.args.file.now) _ _ _)
