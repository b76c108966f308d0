-- What the library's fold comes to is what the street costs.
use mathlib.Core.Path.{◌∙◌}
use Rattle.network_file.specs.File.{network_of}
use Rattle.closing.proofs.Streets.{street_folded}
use Rattle.closing.proofs.street_cost.Goals as goal

pub returns : goal.returns
returns c = rw (← c.rows.ensures.rows) (c.most_in.ensures ∙ street_folded (network_of c.args.file.now) _ _ _)
