-- There are 1,024 weights, so that `add` adds the link among them.
use mathlib.Core.Path.{◌∙◌, sym}
use native.Mathlib.Omega.{arith}
use Rattle.weights.proofs.Stores.{added, many_added}
use Rattle.weights.proofs.Links.add.Goals as goal

pub returns-clause-stored : goal.returns-clause-stored
returns-clause-stored c = c.add.ensures ∙ sym (many_added _ _ _ _ (omega arith))

pub returns-clause-added : goal.returns-clause-added
returns-clause-added c i j n = added _ (omega arith) _ _ _ _ i j n (returns-clause-stored c)
