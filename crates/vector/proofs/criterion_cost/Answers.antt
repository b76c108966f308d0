-- The kind that the criterion's byte names says the rule of cost, arm by arm.
use mathlib.Core.Path.{◌∙◌}
use Rattle.std.proofs.Common.{rules}
use Rattle.vector.proofs.Laws.{criterion_named, criterion_none}
use Rattle.vector.proofs.criterion_cost.Goals as goal

pub returns-then-header_of-criterion : goal.returns-then-header_of-criterion
returns-then-header_of-criterion c = criterion_none _ _ _ c.header_of.ensures c.if-header_of-criterion.true

pub returns-in-Ok-Added : goal.returns-in-Ok-Added
returns-in-Ok-Added c =
    (search rules)
    ∙ criterion_named _ _ _ c.header_of.ensures c.if-header_of-criterion.false c.at.ensures (rw c.in-Ok-Added.field-0-is at c.in-Ok-Added.ensures)

pub returns-in-Ok-Worst : goal.returns-in-Ok-Worst
returns-in-Ok-Worst c =
    (search rules)
    ∙ criterion_named _ _ _ c.header_of.ensures c.if-header_of-criterion.false c.at.ensures (rw c.in-Ok-Worst.field-0-is at c.in-Ok-Worst.ensures)

pub returns-in-Ok-Closing : goal.returns-in-Ok-Closing
returns-in-Ok-Closing c =
    (search rules)
    ∙ criterion_named _ _ _ c.header_of.ensures c.if-header_of-criterion.false c.at.ensures (rw c.in-Ok-Closing.field-0-is at c.in-Ok-Closing.ensures)

pub returns-in-Err : goal.returns-in-Err
returns-in-Err c = criterion_named _ _ _ c.header_of.ensures c.if-header_of-criterion.false c.at.ensures c.in-Err.ensures.0
