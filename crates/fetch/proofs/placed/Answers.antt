-- `fetch::placed` meets its contract.
use mathlib.Core.Path.{◌∙◌, ap}
use lib.ListN.{length, take}
use Rattle.fetch.proofs.Laws.{rows_kept}
use Rattle.fetch.proofs.placed.Goals as goal

pub returns : goal.returns
returns c few = ap (take (length c.args.rows.now)) c.copy.ensures ∙ rows_kept _ _ few
