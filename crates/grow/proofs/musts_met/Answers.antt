use mathlib.Core.Path.{◌∙◌}
use borrow.Author.Tests.{eq-eqb}
use Rattle.grow.proofs.Leads.{met_asked, met_none}
use Rattle.grow.proofs.musts_met.Goals as goal

pub returns-then-near-eq0 : goal.returns-then-near-eq0
returns-then-near-eq0 c = eq-eqb _ _ c.if-near-eq0.true ∙ met_none _ _ c.near.ensures c.if-near-eq0.true

pub returns-else-near-eq0 : goal.returns-else-near-eq0
returns-else-near-eq0 c = met_asked _ _ c.near.ensures c.if-near-eq0.false c.musts_dug.ensures
